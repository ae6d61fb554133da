use Rattle.std.proofs.Common.{◌≡◌, ◌≤◌, drop}
use Rattle.shadow_node.specs.Forest.{node_count}
use Rattle.shadow_node.specs.Find.{way_to}
use Rattle.shadow_node.specs.Falls.{forest_at}
use Rattle.shadow_node.proofs.walks.+walk_to.Given as goal

abbrev pub decreases-walk_to : goal.decreases-walk_to
decreases-walk_to l = goal.size-walk_to l

abbrev pub invariant-loop-node : goal.invariant-loop-node
invariant-loop-node l = record {
  left : way_to l.tag (forest_at (drop l.node-index l.node-items)) ≡ way_to l.tag l.forest;
  within : node_count (forest_at (drop l.node-index l.node-items)) ≤ node_count l.forest;
  whole : forest_at l.node-items ≡ l.forest;
  same : l.way.items ≡ l.initial.way.items;
}
