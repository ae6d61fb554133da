use Rattle.tree_revision.proofs.Tags.{lawful_tags}
use Rattle.tree_revision.proofs.laws.lawful_tags_differ.Goals as goal

pub returns : goal.returns
returns c = lawful_tags
