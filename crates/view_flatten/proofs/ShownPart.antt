-- What lies below a hidden node has no view.
use Rattle.std.proofs.Common.{◌≡◌, List, [], ◌∷◌, ◌++◌, filter, Bool, true, false, ◌&&◌, ◌||◌, refl, ap, sym, ◌∙◌}
use Rattle.std.specs.List.{list_any}
use Rattle.std.proofs.lemmas.List.Elements.{filter-append}
use Rattle.shadow_kinds.specs.Traits.{forms_view_of, is_hidden_of}
use Rattle.shadow_node.specs.Forest.{PlainForest, none, node}
use Rattle.shadow_node.specs.Fields.{SettledFields}
use Rattle.shadow_node.specs.Shown.{Descendant, descendants_below, is_shown}
use Rattle.view_flatten.proofs.Shorthands.{has_view}
use Rattle.view_flatten.proofs.Stable.{filter_twice}

-- a node hides itself and what lies below it
abbrev pub hides : SettledFields → Bool
hides settled = is_hidden_of settled.fields.props

-- below a hidden ancestor nothing is shown
none_shown : (above : List SettledFields) → list_any hides above ≡ true → (forest : PlainForest SettledFields) → filter is_shown (descendants_below above forest) ≡ []
none_shown above h none = refl
none_shown above h (node settled children siblings) =
    let below = descendants_below (settled ∷ above) children in
    let after = descendants_below above siblings in
    let line = below_hidden (hides settled) (list_any hides above) h in
    let others : filter is_shown (below ++ after) ≡ [] =
    filter-append is_shown below after ∙ ap (λ r. r ++ filter is_shown after) (none_shown (settled ∷ above) line children) ∙ none_shown above h siblings in
    rw line others
  where
    below_hidden : (is_hidden is_below : Bool) → is_below ≡ true → (is_hidden || is_below) ≡ true
    below_hidden false is_below h = h
    below_hidden true is_below h = refl

-- of the nodes that are shown, those that have a view are those of all nodes
viewed_of_shown : (nodes : List Descendant) → filter has_view (filter is_shown nodes) ≡ filter has_view nodes
viewed_of_shown nodes = filter_twice has_view is_shown nodes ∙ (λ i. filter (λ here. twice (forms_view_of here.settled.fields.kind here.settled.fields.props) (is_shown here) i) nodes)
  where
    twice : (forms shown : Bool) → (shown && (forms && shown)) ≡ (forms && shown)
    twice true true = refl
    twice true false = refl
    twice false true = refl
    twice false false = refl

-- below a hidden ancestor no node has a view
pub none_viewed : (above : List SettledFields) → list_any hides above ≡ true → (forest : PlainForest SettledFields) → filter has_view (descendants_below above forest) ≡ []
none_viewed above h forest = sym (viewed_of_shown (descendants_below above forest)) ∙ ap (filter has_view) (none_shown above h forest)
