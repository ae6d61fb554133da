use Rattle.tree_revision.proofs.Tags.{lawful_families}
use Rattle.tree_revision.proofs.laws.families_stay.Goals as goal

pub returns : goal.returns
returns c = lawful_families
