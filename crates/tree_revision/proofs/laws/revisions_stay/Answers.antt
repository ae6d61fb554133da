use Rattle.tree_revision.proofs.Revisions.{revision_numbered-front}
use Rattle.tree_revision.proofs.laws.revisions_stay.Goals as goal

pub returns : goal.returns
returns c = revision_numbered-front
