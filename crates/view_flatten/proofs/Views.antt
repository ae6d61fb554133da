-- What holds of the views of a forest's nodes holds of those in its host tree.
use Rattle.std.proofs.Common.{◌≡◌, ℕ, zero, suc, List, [], ◌∷◌, length, filter, true, subst}
use Rattle.std.specs.List.{AllByRecursion, flat_map}
use Rattle.std.proofs.lemmas.Bool.{eqb-true}
use Rattle.shadow_kinds.specs.declared.Kind.{Kind}
use Rattle.shadow_node.specs.Forest.{PlainForest, none, node, preorder}
use Rattle.shadow_node.specs.Fields.{NodeFields, SettledFields, contents_of}
use Rattle.shadow_node.specs.Shown.{Descendant, descendants, descendants_below}
use Rattle.host_views.specs.declared.HostView.{HostView}
use Rattle.host_views.specs.Plain.{PlainPlacedView, PlainHostTree}
use Rattle.view_flatten.specs.HostTree.{host_parent, view_of, viewed, by_z, placed_below, views_below, host_tree_of}
use Rattle.view_flatten.specs.Places.{placed_at}
use Rattle.view_flatten.proofs.Shorthands.{is_child_of, has_view}
use Rattle.view_flatten.proofs.Distinct.{each_in_both, each_in_first, each_in_second, each_then, each_of_two}
use Rattle.view_flatten.proofs.Order.{tag_at, each_kept, each_passes, each_by_z, each_placed}

-- of the children of a host parent
pub each_child : (P : ℕ → HostView → Type 0) (nodes : List Descendant) (parent : ℕ) → AllByRecursion (λ here. P (tag_at here) (view_of here)) nodes
    → AllByRecursion (λ placed. P placed.tag placed.view) (placed_below nodes parent)
each_child P nodes parent h =
    let own = λ (here : Descendant). P (tag_at here) (view_of here) in
    let below = filter (is_child_of parent) nodes in
    each_placed (λ placed. P placed.tag placed.view) parent 0 (by_z below)
    (each_then own (λ here. (at : ℕ) → P (tag_at here) (view_of here)) (λ here p at. p) (by_z below)
    (each_by_z own below (each_kept own (is_child_of parent) nodes h)))

-- of the children of a host parent, wherever they stand there
pub each_child_at : (P : PlainPlacedView → Type 0) (nodes : List Descendant) → AllByRecursion (λ here. (index : ℕ) → P (placed_at index here)) nodes → (parent : ℕ)
    → AllByRecursion P (placed_below nodes parent)
each_child_at P nodes h parent =
    let kept = filter (is_child_of parent) nodes in
    let own = λ (here : Descendant). (index : ℕ) → P (placed_at index here) in
    let each = λ (here : Descendant). (at : ℕ) → P (record { tag = tag_at here; parent = parent; index = at; view = view_of here }) in
    each_placed P parent 0 (by_z kept)
    (each_by_z each kept
    (each_then (λ here. own here × (is_child_of parent here ≡ true)) each
    (λ here h at. subst (λ p. P (record { tag = tag_at here; parent = p; index = at; view = view_of here })) (eqb-true (host_parent here.above) parent h.1) (h.0 at)) kept
    (each_of_two own (λ here. is_child_of parent here ≡ true) kept (each_kept own (is_child_of parent) nodes h) (each_passes (is_child_of parent) nodes))))

-- of the blocks of children
each_block : (P : PlainPlacedView → Type 0) (levels : ℕ) (nodes : List Descendant) → ((q : ℕ) → AllByRecursion P (views_below levels nodes q))
    → (children : PlainHostTree) → AllByRecursion P children → AllByRecursion P (flat_map (λ placed. placed ∷ views_below levels nodes placed.tag) children)
each_block P levels nodes below [] h = tt
each_block P levels nodes below (child ∷ children) h = (
  h.0,
  each_in_both P (views_below levels nodes child.tag) (flat_map (λ placed. placed ∷ views_below levels nodes placed.tag) children) (below child.tag)
      (each_block P levels nodes below children h.1),
)

-- what holds of the children of each host parent holds of the views below one
pub each_below : (P : PlainPlacedView → Type 0) (levels : ℕ) (nodes : List Descendant) → ((parent : ℕ) → AllByRecursion P (placed_below nodes parent)) → (parent : ℕ)
    → AllByRecursion P (views_below levels nodes parent)
each_below P zero nodes h parent = tt
each_below P (suc levels) nodes h parent = each_block P levels nodes (each_below P levels nodes h) (placed_below nodes parent) (h parent)

-- what holds of each node's view, wherever it stands below its host parent, holds of the views of a host tree
pub each_placed_view : (P : PlainPlacedView → Type 0) (forest : PlainForest SettledFields) → AllByRecursion (λ here. (index : ℕ) → P (placed_at index here)) (viewed forest)
    → AllByRecursion P (host_tree_of forest)
each_placed_view P forest h = each_below P (length (viewed forest)) (viewed forest) (each_child_at P (viewed forest) h) 0

-- of the views of a host tree
pub each_view : (P : ℕ → HostView → Type 0) (forest : PlainForest SettledFields) → AllByRecursion (λ here. P (tag_at here) (view_of here)) (descendants forest)
    → AllByRecursion (λ placed. P placed.tag placed.view) (host_tree_of forest)
each_view P forest h =
    let own = each_kept (λ here. P (tag_at here) (view_of here)) has_view (descendants forest) h in
    each_below (λ placed. P placed.tag placed.view) (length (viewed forest)) (viewed forest) (λ parent. each_child P (viewed forest) parent own) 0

-- what holds of each node's fields holds of each node with its ancestors
each_descendant : (P : NodeFields → Type 0) (above : List SettledFields) (forest : PlainForest SettledFields) → AllByRecursion P (preorder (contents_of forest))
    → AllByRecursion (λ here. P here.settled.fields) (descendants_below above forest)
each_descendant P above none h = tt
each_descendant P above (node settled children siblings) h = (
  h.0,
  each_in_both (λ here. P here.settled.fields) (descendants_below (settled ∷ above) children) (descendants_below above siblings)
      (each_descendant P (settled ∷ above) children (each_in_first P (preorder (contents_of children)) (preorder (contents_of siblings)) h.1))
      (each_descendant P above siblings (each_in_second P (preorder (contents_of children)) (preorder (contents_of siblings)) h.1)),
)

-- what holds of each node's tag and kind holds of each view's
pub each_kind : (P : ℕ → Kind → Type 0) (forest : PlainForest SettledFields) → AllByRecursion (λ fields. P fields.tag fields.kind) (preorder (contents_of forest))
    → AllByRecursion (λ placed. P placed.tag placed.view.kind) (host_tree_of forest)
each_kind P forest h = each_view (λ tag view. P tag view.kind) forest (each_descendant (λ fields. P fields.tag fields.kind) [] forest h)
