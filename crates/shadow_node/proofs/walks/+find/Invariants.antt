use Rattle.std.proofs.Common.{◌≡◌, ◌≤◌, drop}
use Rattle.shadow_node.specs.Forest.{node_count}
use Rattle.shadow_node.specs.Find.{first_settled}
use Rattle.shadow_node.specs.Falls.{forest_at}
use Rattle.shadow_node.proofs.walks.+find.Given as goal

abbrev pub decreases-find : goal.decreases-find
decreases-find l = goal.size-find l

abbrev pub invariant-loop-node : goal.invariant-loop-node
invariant-loop-node l = record {
  whole : forest_at l.node-items ≡ l.forest;
  left : first_settled l.tag (forest_at (drop l.node-index l.node-items)) ≡ first_settled l.tag l.forest;
  within : node_count (forest_at (drop l.node-index l.node-items)) ≤ node_count l.forest;
}
