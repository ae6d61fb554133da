-- The children of a context, and of what lies below it, are views of nodes below it.
use Rattle.std.proofs.Common.{◌≡◌, ◌≤◌, ℕ, List, [], ◌∷◌, map, filter, true, ◌&&◌, nat_eq, refl, ap, sym, ◌∙◌, subst, inl, inr}
use Rattle.std.specs.List.{AllByRecursion, IsDistinct}
use Rattle.std.proofs.lemmas.Bool.{and_right, cases_Bool, eqb-true}
use Rattle.shadow_kinds.specs.Axes.{z_order_of}
use Rattle.shadow_node.specs.Forest.{PlainForest}
use Rattle.shadow_node.specs.Fields.{SettledFields, contents_of, tags_of}
use Rattle.shadow_node.specs.Shown.{Descendant, descendants}
use Rattle.host_views.specs.Plain.{PlainPlacedView, PlainHostTree, host_tags, children_at}
use Rattle.view_flatten.specs.HostTree.{host_parent, by_z, viewed, host_tree_of}
use Rattle.view_flatten.specs.Places.{placed_at}
use Rattle.view_flatten.specs.Placing.{ordered_by}
use Rattle.view_flatten.proofs.Shorthands.{has_view, is_child_of}
use Rattle.view_flatten.proofs.Agree.{same_filter}
use Rattle.view_flatten.proofs.Alike.{looks}
use Rattle.view_flatten.proofs.ByZ.{filter_map, ordered_map, same_by_z}
use Rattle.view_flatten.proofs.Children.{children_by_z}
use Rattle.view_flatten.proofs.Distinct.{each_then}
use Rattle.view_flatten.proofs.Inside.{each_host_within, inside, is_within, lies_below}
use Rattle.view_flatten.proofs.Lines.{tags_below}
use Rattle.view_flatten.proofs.Order.{tag_at, tags_at, each_kept}
use Rattle.view_flatten.proofs.Outside.{IsOfContext, filter_swapped}
use Rattle.view_flatten.proofs.Stable.{filter_twice}

-- the tags of nodes are those of their views
tags_of_looks : (nodes : List Descendant) → tags_at nodes ≡ host_tags (map (placed_at 0) nodes)
tags_of_looks [] = refl
tags_of_looks (here ∷ nodes) = ap (λ r. tag_at here ∷ r) (tags_of_looks nodes)

-- of some views, the tags of those of a host parent by z
abbrev pub tags_by_z : PlainHostTree → ℕ → List ℕ
tags_by_z views parent = host_tags (ordered_by (λ placed. z_order_of placed.view.props) (filter (λ placed. nat_eq placed.parent parent) views))

-- the nodes of a host parent by z, and their views by z
by_looks : (nodes : List Descendant) (parent : ℕ) → map tag_at (by_z (filter (is_child_of parent) nodes)) ≡ tags_by_z (map (placed_at 0) nodes) parent
by_looks nodes parent =
    let number = λ (placed : PlainPlacedView). z_order_of placed.view.props in
    let kept = filter (is_child_of parent) nodes in
    ap (map tag_at) (same_by_z kept) ∙ tags_of_looks (ordered_by (λ here. z_order_of here.settled.fields.props) kept)
    ∙ ap host_tags (sym (ordered_map (placed_at 0) number kept) ∙ ap (ordered_by number) (sym (filter_map (placed_at 0) (λ placed. nat_eq placed.parent parent) nodes)))

-- the children of a host parent within a context are those of the nodes below the context
pub children_within : (forest : PlainForest SettledFields) → IsDistinct nat_eq (tags_of (contents_of forest)) → AllByRecursion (λ tag. 1 ≤ tag) (tags_of (contents_of forest))
    → (tag : ℕ) → IsOfContext forest tag → (parent : ℕ) → is_within forest tag parent ≡ true → children_at (host_tree_of forest) parent ≡ tags_by_z (looks (inside forest tag)) parent
children_within forest distinct low tag context parent within =
    let nodes = viewed forest in
    let lies = λ (here : Descendant). is_within forest tag (host_parent here.above) ≡ lies_below tag here in
    let each = each_host_within forest (subst (IsDistinct nat_eq) (sym (tags_below [] forest)) distinct) (subst (AllByRecursion (λ tag. 1 ≤ tag)) (sym (tags_below [] forest)) low)
    tag context.low context.context in
    let inner : filter (is_child_of parent) (filter has_view (inside forest tag)) ≡ filter (is_child_of parent) nodes =
    ap (filter (is_child_of parent)) (filter_swapped has_view (lies_below tag) (descendants forest))
    ∙ filter_twice (is_child_of parent) (lies_below tag) nodes
    ∙ same_filter (λ here. lies_below tag here && is_child_of parent here) (is_child_of parent) nodes
    (each_then lies (λ here. (lies_below tag here && is_child_of parent here) ≡ is_child_of parent here) by_parent nodes (each_kept lies has_view (descendants forest) each)) in
    children_by_z forest distinct low parent ∙ ap (λ kept. map tag_at (by_z kept)) (sym inner) ∙ by_looks (filter has_view (inside forest tag)) parent
  where
    by_parent : (here : Descendant) → is_within forest tag (host_parent here.above) ≡ lies_below tag here → (lies_below tag here && is_child_of parent here) ≡ is_child_of parent here
    by_parent here e =
        elim (cases_Bool (is_child_of parent here)) [
          | inl child ↦ ap (λ b. b && is_child_of parent here) (sym e ∙ ap (is_within forest tag) (eqb-true (host_parent here.above) parent child) ∙ within)
          | inr other ↦ and_right (lies_below tag here) (is_child_of parent here) other ∙ sym other
        ]
