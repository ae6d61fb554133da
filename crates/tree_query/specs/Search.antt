-- What a search for the topmost view knows after some of the views. Only contracts inside the crate cite it.
use Rattle.std.specs.Prelude.{◌≡◌, ℕ, pos, ◌∷◌, Bool, true, not, ◌&&◌, ◌||◌, nat_eq, unwrap_or}
use Rattle.std.specs.HashMap.{get}
use Rattle.shadow_frame.specs.declared.Point.{Point}
use Rattle.host_views.specs.declared.HostView.{HostView}
use Rattle.host_views.specs.Plain.{PlainPlacedView, PlainHostTree}
use Rattle.view_flatten.specs.HostTree.{moved}
use Rattle.tree_query.specs.Bounds.{IsPlaceNear}
use Rattle.tree_query.specs.Topmost.{absolute_origin, clips, host_line, is_held, is_unclipped, latest_at}
use Rattle.tree_query.specs.declared.hitting.Inside.{Inside}
use Rattle.tree_query.specs.declared.hitting.Search.{Search}

-- what lies in a view with these host ancestors, the view first: where it begins on the surface, and whether it is not clipped at a point
abbrev pub inside_of : Point → PlainHostTree → Inside
inside_of point line = record { begin = absolute_origin line; is_open = is_unclipped point line }

-- what a search knows of what lies in the view of a tag; the surface has none
abbrev pub known_inside : Search → ℕ → Inside
known_inside search tag = unwrap_or (get nat_eq search.insides tag) (record { begin = record { x = pos 0; y = pos 0 }; is_open = true })

-- what lies in a view that lies there
abbrev pub inside_view : Point → Inside → HostView → Inside
inside_view point outside view =
    let begin = moved outside.begin view.frame.origin in
    record { begin = begin; is_open = (not (clips view.props) || is_held begin view.frame.size point) && outside.is_open }

-- whether a view that lies there is hit
abbrev pub is_hit : Point → Inside → HostView → Bool
is_hit point outside view = is_held (moved outside.begin view.frame.origin) view.frame.size point && outside.is_open

-- a search has gone over some views, the latest first
pub record HasSearched (search : Search) (earlier : PlainHostTree) : Type 0 where
  pub topmost : search.topmost ≡ latest_at search.at earlier
  pub insides : (tag : ℕ) → known_inside search tag ≡ inside_of search.at (host_line earlier tag)

-- where a search has gone over some views, it goes on to one more
abbrev pub GoesOn : (old new : Search) → PlainPlacedView → Type 0
GoesOn old new placed = (earlier : PlainHostTree) → HasSearched old earlier → HasSearched new (placed ∷ earlier)

-- all that a search knows begins near enough
abbrev pub AreInsidesNear : Search → Type 0
AreInsidesNear search = (tag : ℕ) → IsPlaceNear (known_inside search tag).begin
