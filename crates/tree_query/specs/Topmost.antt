-- Which view of a host tree lies on top at a point of the surface.
use Rattle.std.specs.Prelude.{ℕ, ℤ, pos, ◌+ℤ◌, [], ◌∷◌, reverse, Bool, true, not, ◌&&◌, ◌||◌, nat_eq, int_le, int_lt, if◌then◌else◌, Option, Some, None}
use Rattle.shadow_frame.specs.declared.Point.{Point}
use Rattle.shadow_frame.specs.declared.Size.{Size}
use Rattle.prop_table.specs.Props.{PropList, value_at}
use Rattle.prop_table.specs.declared.rows.TheConstants.{CLIP}
use Rattle.shadow_kinds.specs.Traits.{is_number}
use Rattle.host_views.specs.Plain.{PlainPlacedView, PlainHostTree}
use Rattle.view_flatten.specs.HostTree.{moved}

-- of some views, the latest first, that of a tag and then its host ancestors, the nearest first; in host preorder each stands before those that lie in it
abbrev pub host_line : PlainHostTree → ℕ → PlainHostTree
host_line [] tag = []
host_line (placed ∷ earlier) tag = if nat_eq placed.tag tag then placed ∷ host_line earlier placed.parent else host_line earlier tag

-- where the first of some views begins on the surface, if each lies in the next: the sum of their host origins
abbrev pub absolute_origin : PlainHostTree → Point
absolute_origin [] = record { x = pos 0; y = pos 0 }
absolute_origin (placed ∷ above) = moved (absolute_origin above) placed.view.frame.origin

-- a number is at least a start, and below that start plus a length
abbrev pub is_from_to : (start length number : ℤ) → Bool
is_from_to start length number = int_le start number && int_lt number (start +ℤ length)

-- what begins there and has that size holds a point
abbrev pub is_held : (origin : Point) → (size : Size) → (point : Point) → Bool
is_held origin size point = is_from_to origin.x size.width point.x && is_from_to origin.y size.height point.y

-- a view with these host ancestors, the nearest first, holds a point of the surface
abbrev pub holds : Point → PlainPlacedView → (above : PlainHostTree) → Bool
holds point placed above = is_held (absolute_origin (placed ∷ above)) placed.view.frame.size point

-- a view that clips what lies in it
abbrev pub clips : PropList → Bool
clips props = is_number (pos 1) (value_at props CLIP)

-- each of some views that clips holds a point, if each lies in the next
abbrev pub is_unclipped : Point → PlainHostTree → Bool
is_unclipped point [] = true
is_unclipped point (placed ∷ above) = (not (clips placed.view.props) || holds point placed above) && is_unclipped point above

-- of some views, the latest first, the first that holds a point and all of whose host ancestors that clip hold it
abbrev pub latest_at : Point → PlainHostTree → Option ℕ
latest_at point [] = None
latest_at point (placed ∷ earlier) =
    if holds point placed (host_line earlier placed.parent) && is_unclipped point (host_line earlier placed.parent) then Some placed.tag
    else latest_at point earlier

-- the topmost view at a point: the last one in host preorder that holds it and is not clipped there
abbrev pub topmost_at : PlainHostTree → Point → Option ℕ
topmost_at tree point = latest_at point (reverse tree)
