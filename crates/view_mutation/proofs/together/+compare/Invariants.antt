use Rattle.std.proofs.Common.{◌≡◌, ◌+◌, ◌*◌, ◌≤◌, List}
use Rattle.host_views.specs.declared.Mutation.{Mutation}
use Rattle.shadow_node.specs.Entered.{count_outside}
use Rattle.shadow_node.specs.Forest.{node_count, depth_of}
use Rattle.tree_settle.specs.Limits.{AreFramesInBounds}
use Rattle.view_flatten.specs.Placed.{IsSameWalk}
use Rattle.view_flatten.specs.Sites.{HasRoomBelow}
use Rattle.view_flatten.specs.Walks.{entered_more}
use Rattle.view_mutation.specs.Together.{ArePaired, kept_by, unchanged_by}
use Rattle.view_mutation.proofs.ComparedTrees.{AreComparedBelow}
use Rattle.view_mutation.proofs.together.+compare.Given as goal

abbrev pub decreases-compare_tree : goal.decreases-compare_tree
decreases-compare_tree l = 2 * node_count l.is.now.tree.children + 1

abbrev pub decreases-compare_forest : goal.decreases-compare_forest
decreases-compare_forest l = 2 * node_count l.are.forest

abbrev pub invariant-compare_forest-loop-is : goal.invariant-compare_forest-loop-is
invariant-compare_forest-loop-is l = record {
  can_next : (goal.iterator-compare_forest-loop-is).can_next l.is-iterator;
  is_finite : (goal.iterator-compare_forest-loop-is).is_finite l.is-iterator;
  stamps : l.is-iterator.stamps ≡ l.initial.new.stamps;
  compared : (list : List Mutation) → AreComparedBelow (kept_by l.initial.new l.base) (unchanged_by l.initial.new l.base) l.hosts.was l.hosts.is l.were.forest l.is-iterator.forest l.list list
      → AreComparedBelow (kept_by l.initial.new l.base) (unchanged_by l.initial.new l.base) l.hosts.was l.hosts.is l.fn.were.forest l.fn.are.forest l.initial.list list;
  pairs : ArePaired (kept_by l.initial.new l.base) (unchanged_by l.initial.new l.base) l.were.forest l.is-iterator.forest;
  old_entered : entered_more l.old (count_outside (kept_by l.initial.new l.base) l.were.forest)
      ≡ entered_more l.initial.old (count_outside (kept_by l.initial.new l.base) l.fn.were.forest);
  new_entered : entered_more l.new (count_outside (unchanged_by l.initial.new l.base) l.is-iterator.forest)
      ≡ entered_more l.initial.new (count_outside (unchanged_by l.initial.new l.base) l.fn.are.forest);
  old_same : IsSameWalk l.initial.old l.old;
  new_same : IsSameWalk l.initial.new l.new;
  within : node_count l.is-iterator.forest ≤ node_count l.fn.are.forest;
  old_room : HasRoomBelow (depth_of l.were.forest) l.hosts.was;
  new_room : HasRoomBelow (depth_of l.is-iterator.forest) l.hosts.is;
  old_frames : AreFramesInBounds l.were.forest;
  new_frames : AreFramesInBounds l.is-iterator.forest;
}
