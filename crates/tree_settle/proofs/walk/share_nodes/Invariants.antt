use Rattle.std.proofs.Common.{◌≡◌, ◌++◌, take}
use Rattle.shadow_node.specs.Falls.{trees_of}
use Rattle.tree_settle.proofs.walk.share_nodes.Given as goal

abbrev pub invariant-loop-node : goal.invariant-loop-node
invariant-loop-node l = trees_of l.all.items ≡ trees_of l.initial.all.items ++ trees_of (take l.node-index l.nodes)
