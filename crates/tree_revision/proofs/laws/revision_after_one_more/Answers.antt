use Rattle.tree_revision.proofs.Revisions.{revision_of-push}
use Rattle.tree_revision.proofs.laws.revision_after_one_more.Goals as goal

pub returns-clause-more : goal.returns-clause-more
returns-clause-more c = revision_of-push
