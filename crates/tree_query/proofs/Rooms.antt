-- Places that so many levels do not lead out of bounds.
use Rattle.std.proofs.Common.{◌≡◌, ◌+◌, ◌≤◌, ◌<◌, ℕ, List, [], length, get_or, drop, true, false, cond, Option, Some, None, nat_eq, ap, subst, arith}
use Rattle.std.proofs.lemmas.Int.{ints}
use Rattle.std.specs.Prelude.{pos}
use Rattle.std.specs.Option.{option_map}
use Rattle.shadow_frame.specs.declared.Point.{Point}
use Rattle.shadow_frame.specs.declared.Rect.{Rect}
use Rattle.shadow_node.specs.Fields.{SettledFields}
use Rattle.shadow_node.specs.Forest.{PlainForest, depth_of}
use Rattle.shadow_node.specs.Falls.{Shared, forest_at}
use Rattle.shadow_node.proofs.Maps.{depth_of-forest_map}
use Rattle.shadow_node.proofs.Trees.{forest_at-drop}
use Rattle.tree_settle.specs.Limits.{AreFramesInBounds, IsForestInLimits, IsFrameInBounds}
use Rattle.view_flatten.specs.HostTree.{moved}
use Rattle.view_flatten.specs.Sites.{HasRoomFor}
use Rattle.tree_query.specs.Measured.{sum_of_origins}
use Rattle.tree_query.specs.Bounds.{IsPlaceNear}
use Rattle.tree_query.specs.Found.{HasRoomFrom, begin_below, begin_inside}

-- there is room for fewer levels
pub room_for_less : (less levels : ℕ) (begin : Option Point) → less ≤ levels → HasRoomFrom levels begin → HasRoomFrom less begin
room_for_less less levels None le h = tt
room_for_less less levels (Some place) le h = record { x_low = omega (arith, ints); x_high = omega (arith, ints); y_low = omega (arith, ints); y_high = omega (arith, ints) }

room_moved : (levels : ℕ) (begin : Option Point) (frame : Rect) → HasRoomFrom (levels + 1) begin → IsFrameInBounds frame
    → HasRoomFrom levels (option_map (λ place. moved place frame.origin) begin)
room_moved levels None frame h k = tt
room_moved levels (Some place) frame h k = record { x_low = omega (arith, ints); x_high = omega (arith, ints); y_low = omega (arith, ints); y_high = omega (arith, ints) }

-- at a corner there is room for 48 levels
pub room_at_corner : (levels : ℕ) → levels ≤ 48 → HasRoomFor levels (record { x = pos 0; y = pos 0 })
room_at_corner levels le = record { x_low = omega (arith, ints); x_high = omega (arith, ints); y_low = omega (arith, ints); y_high = omega (arith, ints) }

-- inside a node there is room for one level less
pub room_inside : (levels against : ℕ) (begin : Option Point) (settled : SettledFields) → levels ≤ 48 → HasRoomFrom (levels + 1) begin → IsFrameInBounds settled.frame
    → HasRoomFrom levels (begin_inside against begin settled)
room_inside levels against begin settled le h k =
    elim (nat_eq settled.fields.tag against) as (λ b. HasRoomFrom levels (cond b (Some (record { x = pos 0; y = pos 0 })) (option_map (λ place. moved place settled.frame.origin) begin))) [
      | true ↦ room_at_corner levels le
      | false ↦ room_moved levels begin settled.frame h k
    ]

-- a place with room for a level is near enough to be moved
pub near_enough : (place : Point) → HasRoomFor 1 place → IsPlaceNear place
near_enough place h = record { x_low = omega (arith, ints); x_high = omega (arith, ints); y_low = omega (arith, ints); y_high = omega (arith, ints) }

pub frame_near_enough : (frame : Rect) → IsFrameInBounds frame → IsPlaceNear frame.origin
frame_near_enough frame h = record { x_low = omega (arith, ints); x_high = omega (arith, ints); y_low = omega (arith, ints); y_high = omega (arith, ints) }

-- at the nodes that are left of some, the first of which is that one
module _ (nodes : List Shared) (i : ℕ) (d : Shared) (more : i < length nodes) (is : d ≡ get_or nodes i d) where
  -- there is room for a level
  pub room_left : (begin : Option Point) → HasRoomFrom (depth_of (forest_at (drop i nodes))) begin → HasRoomFrom 1 begin
  room_left begin h = room_for_less 1 (depth_of (forest_at (drop i nodes))) begin (let e = ap depth_of (forest_at-drop nodes i d more is) in omega (arith, e)) h

  -- its frame and those below it are in bounds
  pub frames_left : AreFramesInBounds (forest_at (drop i nodes)) → IsFrameInBounds d.value.fields.frame × AreFramesInBounds d.value.children
  frames_left h = let both = subst AreFramesInBounds (forest_at-drop nodes i d more is) h in (both.0, both.1)

  -- what lies below it is not as deep
  pub levels_left : (levels : ℕ) → depth_of (forest_at (drop i nodes)) ≤ levels → depth_of d.value.children ≤ levels
  levels_left levels h = let e = ap depth_of (forest_at-drop nodes i d more is) in omega (arith, e, h)

  -- and inside it there is room for that
  pub room_in_left : (against : ℕ) (begin : Option Point) → depth_of (forest_at (drop i nodes)) ≤ 48 → AreFramesInBounds (forest_at (drop i nodes))
      → HasRoomFrom (depth_of (forest_at (drop i nodes))) begin → HasRoomFrom (depth_of d.value.children) (begin_inside against begin d.value.fields)
  room_in_left against begin le frames h =
      room_inside (depth_of d.value.children) against begin d.value.fields (levels_left 48 le)
      (room_for_less (depth_of d.value.children + 1) (depth_of (forest_at (drop i nodes))) begin (let e = ap depth_of (forest_at-drop nodes i d more is) in omega (arith, e)) h)
      (frames_left frames).0

-- a revision's forest is at most 48 levels deep
pub levels_of : (forest : PlainForest SettledFields) → IsForestInLimits forest → depth_of forest ≤ 48
levels_of forest h = omega (arith, depth_of-forest_map (λ (settled : SettledFields). settled.fields) forest, h.within.depth)

-- and there is room for them from the top
pub room_at_top : (against : ℕ) (forest : PlainForest SettledFields) → IsForestInLimits forest → HasRoomFrom (depth_of forest) (begin_below against [])
room_at_top against forest h =
    elim (nat_eq against 0) as (λ b. HasRoomFrom (depth_of forest) (option_map sum_of_origins (cond b (Some []) None))) [
      | true ↦ room_at_corner (depth_of forest) (levels_of forest h)
      | false ↦ tt
    ]
