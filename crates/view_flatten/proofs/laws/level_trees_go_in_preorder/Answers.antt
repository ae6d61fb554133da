use Rattle.view_flatten.proofs.Level.{level_tree}
use Rattle.view_flatten.proofs.laws.level_trees_go_in_preorder.Goals as goal

pub returns : goal.returns
returns c = level_tree
