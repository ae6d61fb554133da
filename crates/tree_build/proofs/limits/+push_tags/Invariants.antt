use Rattle.std.proofs.Common.{◌≡◌, ◌++◌, ◌≤◌, drop}
use Rattle.shadow_node.specs.Forest.{node_count}
use Rattle.shadow_node.specs.Fields.{contents_of, tags_of}
use Rattle.shadow_node.specs.Falls.{forest_at}
use Rattle.tree_build.proofs.limits.+push_tags.Given as goal

abbrev pub decreases-push_tags : goal.decreases-push_tags
decreases-push_tags l = goal.size-push_tags l

abbrev pub invariant-loop-node : goal.invariant-loop-node
invariant-loop-node l = record {
  whole : forest_at l.node-items ≡ l.forest;
  left : l.tags.items ++ tags_of (contents_of (forest_at (drop l.node-index l.node-items))) ≡ l.initial.tags.items ++ tags_of (contents_of l.forest);
  within : node_count (forest_at (drop l.node-index l.node-items)) ≤ node_count l.forest;
}
