use Rattle.std.proofs.Common.{◌≡◌, ◌+◌, ◌*◌, ◌≤◌, ◌++◌, drop, take, length}
use Rattle.std.specs.Prelude.{nat_lt}
use Rattle.native_state.specs.Families.{cell_in}
use Rattle.native_state.specs.Made.{nodes_more}
use Rattle.shadow_node.specs.Forest.{depth_of, node_count}
use Rattle.shadow_node.specs.Fields.{contents_of}
use Rattle.shadow_node.specs.Falls.{trees_of, forest_at}
use Rattle.shadow_node.proofs.Trees.{trees_before}
use Rattle.tree_settle.specs.Along.{IsSettledBut, changed_tags}
use Rattle.tree_settle.specs.Changes.{changes_in}
use Rattle.tree_settle.specs.Limits.{AreFramesInBounds}
use Rattle.tree_settle.specs.Walk.{HasRoomInside, begun_or, settled_in}
use Rattle.tree_settle.proofs.along.+settle_along.Given as goal

abbrev pub decreases-settle_along_node : goal.decreases-settle_along_node
decreases-settle_along_node l = 2 * node_count l.node.now.children + 1

abbrev pub decreases-settle_along_in : goal.decreases-settle_along_in
decreases-settle_along_in l = 2 * node_count l.forest.now

abbrev pub invariant-settle_along_in-loop-at : goal.invariant-settle_along_in-loop-at
invariant-settle_along_in-loop-at l = record {
  within : node_count (forest_at (drop l.at l.nodes)) ≤ node_count l.forest;
  room : HasRoomInside l.size.after (depth_of (forest_at (drop l.at l.nodes)));
  frames : AreFramesInBounds (forest_at (drop l.at l.nodes));
  but : IsSettledBut l.size.before (cell_in l.families) l.way (forest_at (drop l.at l.nodes));
  settled : trees_before (trees_of (begun_or l.all.items (take l.at l.nodes))) (settled_in l.size.after (cell_in l.families) (contents_of (forest_at (drop l.at l.nodes)))) ≡ settled_in l.size.after (cell_in l.families) (contents_of l.forest);
  bounds : AreFramesInBounds (settled_in l.size.after (cell_in l.families) (contents_of (forest_at (drop l.at l.nodes)))) → AreFramesInBounds (settled_in l.size.after (cell_in l.families) (contents_of l.forest));
  least : changes_in l.size.after (cell_in l.families) (forest_at (drop l.at l.nodes)) ≤ changes_in l.size.after (cell_in l.families) l.forest;
  begun : nat_lt 0 (length l.all.items) ≡ nat_lt (changes_in l.size.after (cell_in l.families) (forest_at (drop l.at l.nodes))) (changes_in l.size.after (cell_in l.families) l.forest);
  counted : nodes_more l.made (changes_in l.size.after (cell_in l.families) (forest_at (drop l.at l.nodes))) ≡ nodes_more l.initial.made (changes_in l.size.after (cell_in l.families) l.forest);
  tags : l.changed.items ++ changed_tags l.size.after (cell_in l.families) (forest_at (drop l.at l.nodes)) ≡ l.initial.changed.items ++ changed_tags l.size.after (cell_in l.families) l.forest;
}
