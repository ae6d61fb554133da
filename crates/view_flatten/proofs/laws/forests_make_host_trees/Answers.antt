use Rattle.view_flatten.proofs.Below.{is_host_tree}
use Rattle.view_flatten.proofs.laws.forests_make_host_trees.Goals as goal

pub returns : goal.returns
returns c = is_host_tree
