-- A host tree has no more views than its forest has nodes.
use Rattle.std.proofs.Common.{◌≡◌, ◌≤◌, ℕ, suc, List, [], ◌∷◌, length, length-append, filter, Bool, true, false, cond, nat_eq, inl, inr, refl, sym, subst, arith}
use Rattle.std.specs.List.{AllByRecursion, IsDistinct, list_any}
use Rattle.std.proofs.lemmas.Bool.{or_cases, eqb-true, eq-eqb, or_left, or_right}
use Rattle.std.proofs.lemmas.Cmp.{nat_eq_equiv}
use Rattle.std.proofs.lemmas.List.{length-map}
use Rattle.std.proofs.lemmas.Map.Made.{length-le_from_is_member}
use Rattle.shadow_node.specs.Forest.{PlainForest, none, node, node_count}
use Rattle.shadow_node.specs.Fields.{SettledFields, contents_of, tags_of}
use Rattle.shadow_node.specs.Shown.{Descendant, descendants, descendants_below}
use Rattle.host_views.specs.Plain.{PlainHostTree, host_tags}
use Rattle.view_flatten.specs.HostTree.{viewed, host_tree_of}
use Rattle.view_flatten.proofs.Shorthands.{has_view}
use Rattle.view_flatten.proofs.Below.{is_host_tree}
use Rattle.view_flatten.proofs.Distinct.{each_then}
use Rattle.view_flatten.proofs.Order.{tag_at, tags_at}
use Rattle.view_flatten.proofs.Views.{each_below, each_child}

-- a tag that one of some nodes has
abbrev IsTagOf : List Descendant → ℕ → Type 0
IsTagOf nodes tag = list_any (nat_eq tag) (tags_at nodes) ≡ true

-- each node has its own tag
own_tags : (nodes : List Descendant) → AllByRecursion (λ here. IsTagOf nodes (tag_at here)) nodes
own_tags [] = tt
own_tags (here ∷ others) = (
  or_left (nat_eq (tag_at here) (tag_at here)) (list_any (nat_eq (tag_at here)) (tags_at others)) (eq-eqb (tag_at here) (tag_at here) refl),
  each_then (λ other. IsTagOf others (tag_at other)) (λ other. IsTagOf (here ∷ others) (tag_at other)) (λ other h. or_right (nat_eq (tag_at other) (tag_at here)) (list_any (nat_eq (tag_at other)) (tags_at others)) h) others (own_tags others),
)

-- a tag of a tree whose views are those of nodes is one of a node
tag_among : (nodes : List Descendant) (tag : ℕ) (tree : PlainHostTree) → AllByRecursion (λ placed. IsTagOf nodes placed.tag) tree → list_any (nat_eq tag) (host_tags tree) ≡ true → IsTagOf nodes tag
tag_among nodes tag [] h e = cc
tag_among nodes tag (placed ∷ others) h e =
    elim (or_cases (nat_eq tag placed.tag) (list_any (nat_eq tag) (host_tags others)) e) [
      | inl own ↦ subst (IsTagOf nodes) (sym (eqb-true tag placed.tag own)) h.0
      | inr later ↦ tag_among nodes tag others h.1 later
    ]

-- no more nodes pass a test than there are
pub kept_le : (test : Descendant → Bool) (nodes : List Descendant) → length (filter test nodes) ≤ length nodes
kept_le test [] = omega arith
kept_le test (here ∷ nodes) =
    elim (test here) as (λ b. length (cond b (here ∷ filter test nodes) (filter test nodes)) ≤ suc (length nodes)) [
      | true ↦ omega (arith, kept_le test nodes)
      | false ↦ omega (arith, kept_le test nodes)
    ]

-- each node of a forest comes once in preorder
descendants_count : (above : List SettledFields) (forest : PlainForest SettledFields) → length (descendants_below above forest) ≡ node_count forest
descendants_count above none = refl
descendants_count above (node settled children siblings) =
    omega (arith, length-append (descendants_below (settled ∷ above) children) (descendants_below above siblings), descendants_count (settled ∷ above) children, descendants_count above siblings)

-- no more nodes have a view than there are
pub viewed_le : (forest : PlainForest SettledFields) → length (viewed forest) ≤ node_count forest
viewed_le forest = omega (arith, kept_le has_view (descendants forest), descendants_count [] forest)

-- a host tree whose tags are those of nodes has no more views than these
tree_le : (forest : PlainForest SettledFields) → IsDistinct nat_eq (tags_of (contents_of forest)) → AllByRecursion (λ tag. 1 ≤ tag) (tags_of (contents_of forest))
    → length (host_tree_of forest) ≤ length (viewed forest)
tree_le forest distinct low =
    let nodes = viewed forest in
    let tree = host_tree_of forest in
    let among = each_below (λ placed. IsTagOf nodes placed.tag) (length nodes) nodes (λ parent. each_child (λ tag view. IsTagOf nodes tag) nodes parent (own_tags nodes)) 0 in
    let fewer : length (host_tags tree) ≤ length (tags_at nodes) =
    length-le_from_is_member nat_eq_equiv (host_tags tree) (tags_at nodes) (is_host_tree forest distinct low).tags (λ tag e. tag_among nodes tag tree among e) in
    omega (arith, fewer, length-map tree (λ placed. placed.tag), length-map nodes tag_at)

-- and so no more than the forest has nodes
pub host_tree_le : (forest : PlainForest SettledFields) → IsDistinct nat_eq (tags_of (contents_of forest)) → AllByRecursion (λ tag. 1 ≤ tag) (tags_of (contents_of forest))
    → length (host_tree_of forest) ≤ node_count forest
host_tree_le forest distinct low = omega (arith, tree_le forest distinct low, viewed_le forest)
