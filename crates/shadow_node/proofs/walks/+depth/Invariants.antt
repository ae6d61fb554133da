use Rattle.std.proofs.Common.{◌≡◌, ◌≤◌, drop}
use Rattle.std.specs.Prelude.{max}
use Rattle.shadow_node.specs.Forest.{node_count, depth_of}
use Rattle.shadow_node.specs.Falls.{forest_at}
use Rattle.shadow_node.proofs.walks.+depth.Given as goal

abbrev pub decreases-depth : goal.decreases-depth
decreases-depth l = goal.size-depth l

abbrev pub invariant-loop-node : goal.invariant-loop-node
invariant-loop-node l = record {
  whole : forest_at l.node-items ≡ l.forest;
  left : max l.deepest (depth_of (forest_at (drop l.node-index l.node-items))) ≡ depth_of l.forest;
  within : node_count (forest_at (drop l.node-index l.node-items)) ≤ node_count l.forest;
}
