use Rattle.tree_revision.proofs.Histories.{newest_state-push}
use Rattle.tree_revision.proofs.laws.newest_state_after_one_more.Goals as goal

-- src/laws.rt:20:1
pub returns : goal.returns
returns c = newest_state-push
