use Rattle.std.proofs.Common.{◌≡◌, ◌+◌, drop}
use Rattle.shadow_node.specs.Forest.{node_count}
use Rattle.shadow_node.specs.Falls.{forest_at}
use Rattle.shadow_node.proofs.walks.+count.Given as goal

abbrev pub decreases-count : goal.decreases-count
decreases-count l = goal.size-count l

abbrev pub invariant-loop-node : goal.invariant-loop-node
invariant-loop-node l = record {
  whole : forest_at l.node-items ≡ l.forest;
  left : l.all + node_count (forest_at (drop l.node-index l.node-items)) ≡ node_count l.forest;
}
