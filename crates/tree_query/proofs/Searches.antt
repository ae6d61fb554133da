-- The views that a search has gone over, the latest first.
use Rattle.std.proofs.Common.{◌≡◌, ℕ, ◌+◌, ◌<◌, List, [], ◌∷◌, ◌++◌, length, get_or, map, take, ap, sym, ◌∙◌}
use Rattle.std.proofs.lemmas.List.{map-append, reverse-append, take_more}
use Rattle.std.specs.Prelude.{reverse}
use Rattle.host_views.specs.declared.PlacedView.{PlacedView}
use Rattle.host_views.specs.Plain.{PlainHostTree, plain_placed}

-- the first of some views, so many, the latest first
abbrev pub seen_before : List PlacedView → ℕ → PlainHostTree
seen_before views k = reverse (map plain_placed (take k views))

-- and one more
pub seen_more : (views : List PlacedView) (k : ℕ) (d : PlacedView) → k < length views → d ≡ get_or views k d
    → seen_before views (k + 1) ≡ plain_placed d ∷ seen_before views k
seen_more views k d more is =
    ap (λ list. reverse (map plain_placed list)) (take_more views k d more)
    ∙ ap (λ placed. reverse (map plain_placed (take k views ++ placed ∷ []))) (sym is)
    ∙ ap reverse (map-append plain_placed (take k views) (d ∷ []))
    ∙ reverse-append (map plain_placed (take k views)) (plain_placed d ∷ [])
