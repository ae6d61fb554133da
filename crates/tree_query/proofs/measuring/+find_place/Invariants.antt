use Rattle.std.proofs.Common.{◌≡◌, ◌≤◌, drop}
use Rattle.shadow_node.specs.Forest.{depth_of, node_count}
use Rattle.shadow_node.specs.Falls.{forest_at}
use Rattle.tree_settle.specs.Limits.{AreFramesInBounds}
use Rattle.tree_query.specs.Found.{HasRoomFrom, found_from}
use Rattle.tree_query.proofs.measuring.+find_place.Given as goal

abbrev pub decreases-find_place : goal.decreases-find_place
decreases-find_place l = goal.size-find_place l

abbrev pub invariant-loop-node : goal.invariant-loop-node
invariant-loop-node l = record {
  whole : forest_at l.node-items ≡ l.forest;
  left : found_from l.tag l.against l.begin (forest_at (drop l.node-index l.node-items)) ≡ found_from l.tag l.against l.begin l.forest;
  within : node_count (forest_at (drop l.node-index l.node-items)) ≤ node_count l.forest;
  frames : AreFramesInBounds (forest_at (drop l.node-index l.node-items));
  levels : depth_of (forest_at (drop l.node-index l.node-items)) ≤ 48;
  room : HasRoomFrom (depth_of (forest_at (drop l.node-index l.node-items))) l.begin;
}
