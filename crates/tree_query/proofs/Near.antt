-- The views of a flattening begin near enough to the surface's corner.
use Rattle.std.proofs.Common.{◌≡◌, ◌+◌, ◌*◌, ◌<◌, ◌≤◌, ℕ, zero, suc, List, [], ◌∷◌, length, get_or, map, true, false, cond, nat_eq, sym, subst, arith}
use Rattle.std.proofs.lemmas.Int.{ints}
use Rattle.std.specs.List.{AllByRecursion}
use Rattle.std.specs.Prelude.{pos}
use Rattle.shadow_frame.specs.declared.Point.{Point}
use Rattle.shadow_frame.specs.declared.Rect.{Rect}
use Rattle.shadow_node.specs.Fields.{SettledFields}
use Rattle.shadow_node.specs.Forest.{PlainForest, none, node, depth_of}
use Rattle.shadow_node.specs.Shown.{descendants_below}
use Rattle.tree_settle.specs.Limits.{AreFramesInBounds, IsFrameInBounds}
use Rattle.host_views.specs.declared.PlacedView.{PlacedView}
use Rattle.host_views.specs.Plain.{PlainPlacedView, PlainHostTree, plain_placed}
use Rattle.view_flatten.specs.HostTree.{host_origin, moved}
use Rattle.view_flatten.proofs.Distinct.{each_in_both}
use Rattle.view_flatten.proofs.Shorthands.{is_context}
use Rattle.view_flatten.proofs.Views.{each_view}
use Rattle.tree_query.specs.Bounds.{IsPlaceWithin, IsPlaceNear}
use Rattle.tree_query.specs.Flattening.{IsFlattening}
use Rattle.tree_query.specs.Topmost.{absolute_origin, host_line}
use Rattle.tree_query.proofs.Rooms.{levels_of}

-- a place moved by another is at most as far away as both
pub within_moved : (one other : ℕ) (place by : Point) → IsPlaceWithin one place → IsPlaceWithin other by → IsPlaceWithin (one + other) (moved place by)
within_moved one other place by h k = record { x_low = omega (arith, ints); x_high = omega (arith, ints); y_low = omega (arith, ints); y_high = omega (arith, ints) }

-- and so it is within more
pub within_more : (less more : ℕ) (place : Point) → less ≤ more → IsPlaceWithin less place → IsPlaceWithin more place
within_more less more place le h = record { x_low = omega (arith, ints); x_high = omega (arith, ints); y_low = omega (arith, ints); y_high = omega (arith, ints) }

frame_within : (frame : Rect) → IsFrameInBounds frame → IsPlaceWithin 105000000 frame.origin
frame_within frame h = record { x_low = omega (arith, ints); x_high = omega (arith, ints); y_low = omega (arith, ints); y_high = omega (arith, ints) }

corner_within : (most : ℕ) → IsPlaceWithin most (record { x = pos 0; y = pos 0 })
corner_within most = record { x_low = omega (arith, ints); x_high = omega (arith, ints); y_low = omega (arith, ints); y_high = omega (arith, ints) }

-- the frames of some ancestors are in bounds
abbrev AreAboveInBounds : List SettledFields → Type 0
AreAboveInBounds above = AllByRecursion (λ settled. IsFrameInBounds settled.frame) above

-- a node begins in its host parent at most as many times 105,000,000 points away as there are nodes on the way
origin_within : (settled : SettledFields) (above : List SettledFields) → IsFrameInBounds settled.frame → AreAboveInBounds above
    → IsPlaceWithin (105000000 * (length above + 1)) (host_origin settled above)
origin_within settled [] h k = within_more 105000000 (105000000 * 1) settled.frame.origin (omega arith) (frame_within settled.frame h)
origin_within settled (parent ∷ above) h k =
    let own = frame_within settled.frame h in
    let outer = origin_within parent above k.0 k.1 in
    let most = 105000000 * (length (parent ∷ above) + 1) in
    elim (is_context parent) as (λ b. IsPlaceWithin most (cond b settled.frame.origin (moved (host_origin parent above) settled.frame.origin))) [
      | true ↦ within_more 105000000 most settled.frame.origin (omega arith) own
      | false ↦ within_more (105000000 * (length above + 1) + 105000000) most (moved (host_origin parent above) settled.frame.origin) (omega arith)
          (within_moved (105000000 * (length above + 1)) 105000000 (host_origin parent above) settled.frame.origin outer own)
    ]

-- a node begins in its host parent at most 5,040,000,000 points away, where no way is longer than 48 nodes
nodes_within : (above : List SettledFields) (forest : PlainForest SettledFields) → AreAboveInBounds above → AreFramesInBounds forest
    → length above + depth_of forest ≤ 48 → AllByRecursion (λ here. IsPlaceWithin 5040000000 (host_origin here.settled here.above)) (descendants_below above forest)
nodes_within above none h k le = tt
nodes_within above (node settled children siblings) h k le = (
  within_more (105000000 * (length above + 1)) 5040000000 (host_origin settled above) (omega (arith, le)) (origin_within settled above k.0 h),
  each_in_both (λ here. IsPlaceWithin 5040000000 (host_origin here.settled here.above)) (descendants_below (settled ∷ above) children) (descendants_below above siblings)
      (nodes_within (settled ∷ above) children (k.0, h) k.1 (omega (arith, le)))
      (nodes_within above siblings h k.2 (omega (arith, le))),
)

-- so does each view of a flattening
pub views_within : (tree : PlainHostTree) → IsFlattening tree → AllByRecursion (λ placed. IsPlaceWithin 5040000000 placed.view.frame.origin) tree
views_within tree h =
    subst (AllByRecursion (λ placed. IsPlaceWithin 5040000000 placed.view.frame.origin)) (sym h.same)
    (each_view (λ tag view. IsPlaceWithin 5040000000 view.frame.origin) h.forest (nodes_within [] h.forest tt h.limits.frames levels))
  where
    levels : 0 + depth_of h.forest ≤ 48
    levels = omega (arith, levels_of h.forest h.limits)

-- what holds of each view holds of the one at an index
pub view_at : (P : PlainPlacedView → Type 0) (views : List PlacedView) (k : ℕ) (d : PlacedView) → AllByRecursion P (map plain_placed views) → k < length views → d ≡ get_or views k d
    → P (plain_placed d)
view_at P [] k d h more is = absurd (omega (arith, more))
view_at P (x ∷ xs) zero d h more is = subst (λ d. P (plain_placed d)) (sym is) h.0
view_at P (x ∷ xs) (suc k) d h more is = view_at P xs k d h.1 (omega (arith, more)) is

-- what lies in the views so far begins no farther away than that for each of them
abbrev pub AreLinesWithin : ℕ → PlainHostTree → Type 0
AreLinesWithin count earlier = (tag : ℕ) → IsPlaceWithin (5040000000 * count) (absolute_origin (host_line earlier tag))

pub no_lines : AreLinesWithin 0 []
no_lines tag = corner_within (5040000000 * 0)

pub lines_more : (count : ℕ) (placed : PlainPlacedView) (earlier : PlainHostTree) → IsPlaceWithin 5040000000 placed.view.frame.origin → AreLinesWithin count earlier
    → AreLinesWithin (count + 1) (placed ∷ earlier)
lines_more count placed earlier h k tag =
    let line = host_line earlier placed.parent in
    let most = 5040000000 * (count + 1) in
    elim (nat_eq placed.tag tag) as (λ b. IsPlaceWithin most (absolute_origin (cond b (placed ∷ line) (host_line earlier tag)))) [
      | true ↦ within_more (5040000000 * count + 5040000000) most (absolute_origin (placed ∷ line)) (omega arith)
          (within_moved (5040000000 * count) 5040000000 (absolute_origin line) placed.view.frame.origin (k placed.parent) h)
      | false ↦ within_more (5040000000 * count) most (absolute_origin (host_line earlier tag)) (omega arith) (k tag)
    ]

-- of at most 2,000 views all begin near enough
pub lines_near : (count : ℕ) (earlier : PlainHostTree) → count ≤ 2000 → AreLinesWithin count earlier → (tag : ℕ) → IsPlaceNear (absolute_origin (host_line earlier tag))
lines_near count earlier few h tag = within_more (5040000000 * count) 1152921504606846976 (absolute_origin (host_line earlier tag)) (omega (arith, few)) (h tag)

-- a view of a flattening begins so near to its host parent
pub view_within : (views : List PlacedView) (k : ℕ) (d : PlacedView) → IsFlattening (map plain_placed views) → k < length views → d ≡ get_or views k d
    → IsPlaceWithin 5040000000 d.view.value.frame.origin
view_within views k d h more is = view_at (λ placed. IsPlaceWithin 5040000000 placed.view.frame.origin) views k d (views_within (map plain_placed views) h) more is
