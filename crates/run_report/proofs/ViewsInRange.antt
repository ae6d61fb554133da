-- The views of a lawful history are in range: their frames, states, props, tags and places.
use Rattle.std.proofs.Common.{◌≡◌, ◌≤◌, ◌<◌, ◌+◌, ◌*◌, ◌^◌, ◌≤ℤ◌, ◌+ℤ◌, ℕ, ℤ, pos, negsuc, true, false, cond, List, [], ◌∷◌, length, arith, subst}
use Rattle.std.specs.List.{AllByRecursion}
use Rattle.std.proofs.lemmas.Int.{ints}
use Rattle.shadow_frame.specs.declared.Axis.{Axis}
use Rattle.shadow_frame.specs.declared.Point.{Point}
use Rattle.shadow_frame.specs.declared.Rect.{Rect}
use Rattle.shadow_frame.specs.declared.Size.{Size}
use Rattle.shadow_frame.specs.Range.{IsAxisInRange, IsSideInRange}
use Rattle.shadow_frame.specs.Place.{axis_size, axis_start}
use Rattle.shadow_frame.proofs.Bounds.{axis_size-bounds, axis_start-bounds}
use Rattle.native_state.specs.declared.StateCell.{StateCell}
use Rattle.shadow_kinds.specs.Axes.{x_axis_of, y_axis_of}
use Rattle.shadow_kinds.specs.Traits.{has_state_of, forms_context_of}
use Rattle.shadow_kinds.proofs.AxesInRange.{x_axis_of-in_range, y_axis_of-in_range}
use Rattle.shadow_node.specs.Forest.{PlainForest, none, node, depth_of}
use Rattle.shadow_node.specs.Fields.{NodeFields, SettledFields}
use Rattle.shadow_node.specs.Frames.{frame_in}
use Rattle.shadow_node.specs.InRange.{AreFieldsInRange}
use Rattle.shadow_node.specs.Shown.{Descendant, descendants_below}
use Rattle.shadow_node.proofs.Maps.{AllFields}
use Rattle.tree_settle.specs.Limits.{IsSizeInRange}
use Rattle.tree_settle.specs.Walk.{HasRoomInside, settled_in}
use Rattle.view_flatten.specs.HostTree.{host_parent, moved, host_origin, view_of}
use Rattle.run_report.specs.Ranges.{IsCellInRange, IsStateInRange, IsViewInRange}
use Rattle.run_report.proofs.Lists.{all_append}
use Rattle.run_report.proofs.CellsInRange.{is_coordinate, state_in_range}

-- a node's start and size along an axis, in a parent with room for so many levels and one more
record IsAxisPlaced (axis : Axis) (parent : ℤ) (levels : ℕ) : Type 0 where
  start_low : negsuc 104999999 ≤ℤ axis_start axis parent
  start_high : axis_start axis parent ≤ℤ pos 105000000
  size_low : pos 0 ≤ℤ axis_size axis parent
  size_high : (axis_size axis parent +ℤ pos (2000000 * levels)) ≤ℤ pos 97000000

-- what a parent's side leaves along an axis
axis_placed : (axis : Axis) (parent : ℤ) (levels : ℕ) → IsAxisInRange axis → pos 0 ≤ℤ parent
    → (parent +ℤ pos (2000000 * (levels + 1))) ≤ℤ pos 97000000 → IsAxisPlaced axis parent levels
axis_placed axis parent levels range low high =
    let side : IsSideInRange parent = record { low = low; high = omega (arith, ints) } in
    let size = axis_size-bounds axis parent range side in
    let start = axis_start-bounds axis parent range side in
    record {
      start_low = omega (arith, ints, start.0);
      start_high = omega (arith, ints, start.1);
      size_low = size.0;
      size_high = omega (arith, ints, size.1);
    }

-- a frame that begins near its parent's, of a size that fits
pub record IsFrameKept (frame : Rect) : Type 0 where
  x_low : negsuc 104999999 ≤ℤ frame.origin.x
  x_high : frame.origin.x ≤ℤ pos 105000000
  y_low : negsuc 104999999 ≤ℤ frame.origin.y
  y_high : frame.origin.y ≤ℤ pos 105000000
  width_low : pos 0 ≤ℤ frame.size.width
  width_high : frame.size.width ≤ℤ pos 97000000
  height_low : pos 0 ≤ℤ frame.size.height
  height_high : frame.size.height ≤ℤ pos 97000000

-- a node's frame, in a parent with room for it and so many levels below it
frame_kept : (parent : Size) (fields : NodeFields) (levels : ℕ) → AreFieldsInRange fields → HasRoomInside parent (levels + 1)
    → IsFrameKept (frame_in parent fields) × HasRoomInside (frame_in parent fields).size levels
frame_kept parent fields levels h room =
    let x = axis_placed (x_axis_of fields.props) parent.width levels (x_axis_of-in_range fields.props h.props) room.width_low room.width_high in
    let y = axis_placed (y_axis_of fields.props) parent.height levels (y_axis_of-in_range fields.props h.props) room.height_low room.height_high in (
      record {
        x_low = x.start_low;
        x_high = x.start_high;
        y_low = y.start_low;
        y_high = y.start_high;
        width_low = x.size_low;
        width_high = omega (arith, ints, x.size_high);
        height_low = y.size_low;
        height_high = omega (arith, ints, y.size_high);
      },
      record { width_low = x.size_low; width_high = x.size_high; height_low = y.size_low; height_high = y.size_high },
    )

-- room for more levels is room for fewer
pub fewer_levels : (size : Size) (levels more : ℕ) → levels ≤ more → HasRoomInside size more → HasRoomInside size levels
fewer_levels size levels more less room = record {
  width_low = room.width_low;
  width_high = omega (arith, ints, room.width_high);
  height_low = room.height_low;
  height_high = omega (arith, ints, room.height_high);
}

-- a surface has room for 48 levels
pub surface_room : (size : Size) → IsSizeInRange size → HasRoomInside size 48
surface_room size range = record {
  width_low = range.width_low;
  width_high = omega (arith, ints, range.width_high);
  height_low = range.height_low;
  height_high = omega (arith, ints, range.height_high);
}

-- a settled node: what it says is in range, its frame fits, and its state is in range
pub record IsSettledInRange (settled : SettledFields) : Type 0 where
  pub fields : AreFieldsInRange settled.fields
  pub frame : IsFrameKept settled.frame
  pub state : IsStateInRange settled.state

-- each node of a settled forest
pub settled_each : (parent : Size) (newest : ℕ → StateCell) → ((tag : ℕ) → IsCellInRange (newest tag)) → (forest : PlainForest NodeFields)
    → AllFields AreFieldsInRange forest → HasRoomInside parent (depth_of forest) → AllFields IsSettledInRange (settled_in parent newest forest)
settled_each parent newest cells none h room = tt
settled_each parent newest cells (node fields children siblings) h room =
    let kept = frame_kept parent fields (depth_of children) h.0 (fewer_levels parent (depth_of children + 1) (depth_of (node fields children siblings)) (omega arith) room) in (
      record { fields = h.0; frame = kept.0; state = state_in_range (has_state_of fields.kind) (newest fields.tag) (cells fields.tag) },
      settled_each (frame_in parent fields).size newest cells children h.1 kept.1,
      settled_each parent newest cells siblings h.2 (fewer_levels parent (depth_of siblings) (depth_of (node fields children siblings)) (omega arith) room),
    )

-- a node with its ancestors, of which there are fewer than 48
pub record IsHereInRange (here : Descendant) : Type 0 where
  pub own : IsSettledInRange here.settled
  pub above : AllByRecursion IsSettledInRange here.above
  pub depth : length here.above < 48

-- each node of a forest that is not too deep
pub each_here : (above : List SettledFields) (forest : PlainForest SettledFields) → AllByRecursion IsSettledInRange above → AllFields IsSettledInRange forest
    → length above + depth_of forest ≤ 48 → AllByRecursion IsHereInRange (descendants_below above forest)
each_here above none a h deep = tt
each_here above (node settled children siblings) a h deep = (
  record { own = h.0; above = a; depth = omega arith },
  all_append IsHereInRange (descendants_below (settled ∷ above) children) (descendants_below above siblings)
      (each_here (settled ∷ above) children (h.0, a) h.1 (omega arith)) (each_here above siblings a h.2 (omega arith)),
)

-- a point at most so many times 105,000,000 points away
record IsPointNear (times : ℕ) (point : Point) : Type 0 where
  x_low : pos 0 ≤ℤ (point.x +ℤ pos (105000000 * times))
  x_high : point.x ≤ℤ pos (105000000 * times)
  y_low : pos 0 ≤ℤ (point.y +ℤ pos (105000000 * times))
  y_high : point.y ≤ℤ pos (105000000 * times)

-- a frame's own origin
own_near : (frame : Rect) (times : ℕ) → IsFrameKept frame → IsPointNear (times + 1) frame.origin
own_near frame times h = record {
  x_low = omega (arith, ints, h.x_low);
  x_high = omega (arith, ints, h.x_high);
  y_low = omega (arith, ints, h.y_low);
  y_high = omega (arith, ints, h.y_high);
}

-- moved by a frame's origin
moved_near : (point : Point) (frame : Rect) (times : ℕ) → IsPointNear times point → IsFrameKept frame → IsPointNear (times + 1) (moved point frame.origin)
moved_near point frame times near h = record {
  x_low = omega (arith, ints, near.x_low, h.x_low);
  x_high = omega (arith, ints, near.x_high, h.x_high);
  y_low = omega (arith, ints, near.y_low, h.y_low);
  y_high = omega (arith, ints, near.y_high, h.y_high);
}

-- where a node begins in its host parent
origin_near : (settled : SettledFields) (above : List SettledFields) → IsSettledInRange settled → AllByRecursion IsSettledInRange above
    → IsPointNear (length above + 1) (host_origin settled above)
origin_near settled [] h a = own_near settled.frame 0 h.frame
origin_near settled (parent ∷ above) h a =
    let below = moved_near (host_origin parent above) settled.frame (length above + 1) (origin_near parent above a.0 a.1) h.frame in
    let same : length above + 1 + 1 ≡ length (parent ∷ above) + 1 = omega arith in
    elim (forms_context_of parent.fields.kind parent.fields.props) as (λ b. IsPointNear (length (parent ∷ above) + 1) (cond b settled.frame.origin (moved (host_origin parent above) settled.frame.origin))) [
      | true ↦ own_near settled.frame (length (parent ∷ above)) h.frame
      | false ↦ subst (λ times. IsPointNear times (moved (host_origin parent above) settled.frame.origin)) same below
    ]

-- the view of a node
pub view_in_range : (here : Descendant) → IsHereInRange here → IsViewInRange (view_of here)
view_in_range here h =
    let near = origin_near here.settled here.above h.own h.above in
    let frame = h.own.frame in
    record {
      frame = record {
        x = is_coordinate (host_origin here.settled here.above).x (omega (arith, ints, near.x_low, h.depth)) (omega (arith, ints, near.x_high, h.depth));
        y = is_coordinate (host_origin here.settled here.above).y (omega (arith, ints, near.y_low, h.depth)) (omega (arith, ints, near.y_high, h.depth));
        width = is_coordinate here.settled.frame.size.width (omega (arith, ints, frame.width_low)) (omega (arith, ints, frame.width_high));
        height = is_coordinate here.settled.frame.size.height (omega (arith, ints, frame.height_low)) (omega (arith, ints, frame.height_high));
      };
      state = h.own.state;
      props = h.own.fields.props;
    }

-- the tag of a host parent, or of the root
pub parent_in_range : (above : List SettledFields) → AllByRecursion IsSettledInRange above → host_parent above < 2 ^ 64
parent_in_range [] a = omega arith
parent_in_range (parent ∷ above) a =
    let below = parent_in_range above a.1 in
    elim (forms_context_of parent.fields.kind parent.fields.props) as (λ b. cond b parent.fields.tag (host_parent above) < 2 ^ 64) [
      | true ↦ omega (arith, a.0.fields.tag.high)
      | false ↦ below
    ]
