use Rattle.std.proofs.Common.{◌≡◌, ◌≤◌, drop}
use Rattle.shadow_node.specs.Forest.{node_count}
use Rattle.shadow_node.specs.Falls.{forest_at}
use Rattle.tree_build.proofs.tests.+add_shape.Given as goal

abbrev pub decreases-add_shape : goal.decreases-add_shape
decreases-add_shape l = goal.size-add_shape l

abbrev pub invariant-loop-node : goal.invariant-loop-node
invariant-loop-node l = record {
  whole : forest_at l.node-items ≡ l.forest;
  within : node_count (forest_at (drop l.node-index l.node-items)) ≤ node_count l.forest;
}
