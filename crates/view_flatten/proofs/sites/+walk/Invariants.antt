use Rattle.std.proofs.Common.{◌≡◌, ◌+◌, ◌*◌, ◌≤◌}
use Rattle.shadow_node.specs.Entered.{count_outside}
use Rattle.shadow_node.specs.Forest.{node_count, depth_of}
use Rattle.tree_settle.specs.Limits.{AreFramesInBounds}
use Rattle.view_flatten.specs.declared.sites.Found.{Found}
use Rattle.view_flatten.specs.Placed.{IsSameWalk}
use Rattle.view_flatten.specs.Sites.{HasFound, HasRoomBelow}
use Rattle.view_flatten.specs.Skips.{skips}
use Rattle.view_flatten.specs.Walks.{entered_more}
use Rattle.view_flatten.proofs.sites.+walk.Given as goal

abbrev pub decreases-add_tree : goal.decreases-add_tree
decreases-add_tree l = 2 * node_count l.spot.now.tree.children + 1

abbrev pub decreases-add_forest : goal.decreases-add_forest
decreases-add_forest l = 2 * node_count l.spots.forest

abbrev pub invariant-add_forest-loop-spot : goal.invariant-add_forest-loop-spot
invariant-add_forest-loop-spot l = record {
  can_next : (goal.iterator-add_forest-loop-spot).can_next l.spot-iterator;
  is_finite : (goal.iterator-add_forest-loop-spot).is_finite l.spot-iterator;
  stamps : l.spot-iterator.stamps ≡ l.fn.spots.stamps;
  found : (new : Found) → HasFound (skips l.skip l.fn.spots.stamps) l.host l.spot-iterator.forest l.found new
      → HasFound (skips l.skip l.fn.spots.stamps) l.host l.fn.spots.forest l.initial.found new;
  entered : entered_more l.walk (count_outside (skips l.skip l.fn.spots.stamps) l.spot-iterator.forest)
      ≡ entered_more l.initial.walk (count_outside (skips l.skip l.fn.spots.stamps) l.fn.spots.forest);
  same : IsSameWalk l.initial.walk l.walk;
  within : node_count l.spot-iterator.forest ≤ node_count l.fn.spots.forest;
  room : HasRoomBelow (depth_of l.spot-iterator.forest) l.host;
  frames : AreFramesInBounds l.spot-iterator.forest;
}
