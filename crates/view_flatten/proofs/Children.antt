-- The children of each host parent in a host tree: the views of its nodes by z.
use Rattle.std.proofs.Common.{◌≡◌, ◌≤◌, ◌+◌, inl, inr, ℕ, List, [], ◌∷◌, map, length, filter, Bool, true, false, cond, nat_eq, refl, ap, sym, ◌∙◌, subst}
use Rattle.std.specs.List.{AllByRecursion, IsDistinct, list_any}
use Rattle.std.proofs.lemmas.Bool.{both_ways, cases_Bool, eq-eqb, eqb-true, false_from_ne_true}
use Rattle.std.proofs.lemmas.Map.Keys.{IsDistinct-head, IsDistinct-tail}
use Rattle.shadow_node.specs.Forest.{PlainForest}
use Rattle.shadow_node.specs.Fields.{SettledFields, contents_of, tags_of}
use Rattle.shadow_node.specs.Shown.{Descendant}
use Rattle.host_views.specs.Plain.{PlainPlacedView, PlainHostTree, host_tags, children_at}
use Rattle.view_flatten.specs.HostTree.{host_parent, viewed, by_z, placed_from, placed_below, host_tree_of}
use Rattle.view_flatten.proofs.Shorthands.{is_child_of}
use Rattle.view_flatten.proofs.Agree.{IsPart, none_kept, none_found, where_any}
use Rattle.view_flatten.proofs.Distinct.{each_then, each_of_two}
use Rattle.view_flatten.proofs.Order.{tag_at, tags_placed}
use Rattle.view_flatten.proofs.Below.{is_host_tree}
use Rattle.view_flatten.proofs.Views.{each_below}
use Rattle.view_flatten.proofs.Viewed.{IsIn, IsHostReached, each_in, each_host_reached, in_part}

-- a view of another tag than the others is none of them
not_later : (y : PlainPlacedView) (ys : PlainHostTree) → AllByRecursion (λ tag. nat_eq y.tag tag ≡ false) (host_tags ys) → IsIn y ys → ⊥
not_later y [] h i = i
not_later y (z ∷ ys) h (inl e) = both_ways (nat_eq y.tag z.tag) h.0 (eq-eqb y.tag z.tag (ap (λ v. v.tag) e))
not_later y (z ∷ ys) h (inr i) = not_later y ys h.1 i

-- views of other tags than the first of a list are among the others
past_first : (p : PlainPlacedView → Bool) (x : PlainPlacedView) (xs ys : PlainHostTree) → AllByRecursion (λ tag. nat_eq x.tag tag ≡ false) (host_tags ys)
    → AllByRecursion (λ y. p y ≡ true → IsIn y (x ∷ xs)) ys → AllByRecursion (λ y. p y ≡ true → IsIn y xs) ys
past_first p x xs [] apart h = tt
past_first p x xs (z ∷ ys) apart h = (λ e. among_others (h.0 e), past_first p x xs ys apart.1 h.1)
  where
    among_others : IsIn z (x ∷ xs) → IsIn z xs
    among_others (inl e) = absurd (both_ways (nat_eq x.tag z.tag) apart.0 (eq-eqb x.tag z.tag (ap (λ v. v.tag) (sym e))))
    among_others (inr i) = i

-- a part of a tree whose tags differ, which has all that pass a test and no other view, is what the test keeps
same_part : (p : PlainPlacedView → Bool) (xs ys : PlainHostTree) → IsDistinct nat_eq (host_tags ys) → IsPart xs ys → AllByRecursion (λ x. p x ≡ true) xs
    → AllByRecursion (λ y. p y ≡ true → IsIn y xs) ys → filter p ys ≡ xs
same_part p [] ys d h own each = none_kept p ys (each_then (λ y. p y ≡ true → ⊥) (λ y. p y ≡ false) (λ y no. false_from_ne_true (p y) no) ys each)
same_part p (x ∷ xs) [] d h own each = absurd h
same_part p (x ∷ xs) (y ∷ ys) d (inl h) own each =
    let apart = subst (λ (v : PlainPlacedView). AllByRecursion (λ tag. nat_eq v.tag tag ≡ false) (host_tags ys)) (sym h.0) (IsDistinct-head nat_eq y.tag (host_tags ys) d) in
    let others = same_part p xs ys (IsDistinct-tail nat_eq y.tag (host_tags ys) d) h.1 own.1 (past_first p x xs ys apart each.1) in
    ap (λ b. cond b (y ∷ filter p ys) (filter p ys)) (ap p (sym h.0) ∙ own.0) ∙ (λ i. sym h.0 i ∷ others i)
same_part p (x ∷ xs) (y ∷ ys) d (inr h) own each =
    let gone : p y ≡ false = false_from_ne_true (p y) (λ e. not_later y ys (IsDistinct-head nat_eq y.tag (host_tags ys) d) (in_part y (x ∷ xs) ys (each.0 e) h)) in
    ap (λ b. cond b (y ∷ filter p ys) (filter p ys)) gone ∙ same_part p (x ∷ xs) ys (IsDistinct-tail nat_eq y.tag (host_tags ys) d) h own each.1

-- nodes that are placed below a parent have it as their parent
pub have_parent : (parent index : ℕ) (nodes : List Descendant) → AllByRecursion (λ placed. nat_eq placed.parent parent ≡ true) (placed_from parent index nodes)
have_parent parent index [] = tt
have_parent parent index (here ∷ others) = (eq-eqb parent parent refl, have_parent parent (index + 1) others)

-- each child of a host parent is among those of its own
own_children : (nodes : List Descendant) (parent : ℕ) → AllByRecursion (λ placed. IsIn placed (placed_below nodes placed.parent)) (placed_below nodes parent)
own_children nodes parent =
    let kids = placed_below nodes parent in
    each_then (λ placed. IsIn placed kids × (nat_eq placed.parent parent ≡ true)) (λ placed. IsIn placed (placed_below nodes placed.parent))
    (λ placed h. subst (λ p. IsIn placed (placed_below nodes p)) (sym (eqb-true placed.parent parent h.1)) h.0) kids
    (each_of_two (λ placed. IsIn placed kids) (λ placed. nat_eq placed.parent parent ≡ true) kids (each_in kids kids (λ x i. i)) (have_parent parent 0 (by_z (filter (is_child_of parent) nodes))))

-- the children of each host parent are a part of the host tree
pub children_part : (forest : PlainForest SettledFields) (parent : ℕ) → IsPart (placed_below (viewed forest) parent) (host_tree_of forest)
children_part forest parent =
    let nodes = viewed forest in
    let there = IsPart (placed_below nodes parent) (host_tree_of forest) in
    elim (cases_Bool (list_any (is_child_of parent) nodes)) as (λ c. there) [
      | inl some ↦
          where_any there (is_child_of parent) nodes
          (each_then (IsHostReached nodes (length nodes)) (λ here. is_child_of parent here ≡ true → there)
          (λ here h e. subst (λ p. IsPart (placed_below nodes p) (host_tree_of forest)) (eqb-true (host_parent here.above) parent e) h.part) nodes (each_host_reached forest)) some
      | inr none ↦ subst (λ kept. IsPart (placed_from parent 0 (by_z kept)) (host_tree_of forest)) (sym (none_found (is_child_of parent) nodes none)) tt
    ]

-- the views of a host tree below each host parent are its children
pub views_at : (forest : PlainForest SettledFields) → IsDistinct nat_eq (tags_of (contents_of forest)) → AllByRecursion (λ tag. 1 ≤ tag) (tags_of (contents_of forest)) → (parent : ℕ)
    → filter (λ placed. nat_eq placed.parent parent) (host_tree_of forest) ≡ placed_below (viewed forest) parent
views_at forest distinct low parent =
    let nodes = viewed forest in
    let tree = host_tree_of forest in
    same_part (λ placed. nat_eq placed.parent parent) (placed_below nodes parent) tree (is_host_tree forest distinct low).tags (children_part forest parent)
    (have_parent parent 0 (by_z (filter (is_child_of parent) nodes)))
    (each_then (λ placed. IsIn placed (placed_below nodes placed.parent)) (λ placed. nat_eq placed.parent parent ≡ true → IsIn placed (placed_below nodes parent))
    (λ placed h e. subst (λ p. IsIn placed (placed_below nodes p)) (eqb-true placed.parent parent e) h) tree
    (each_below (λ placed. IsIn placed (placed_below nodes placed.parent)) (length nodes) nodes (own_children nodes) 0))

-- their tags are those of its nodes by z
pub children_by_z : (forest : PlainForest SettledFields) → IsDistinct nat_eq (tags_of (contents_of forest)) → AllByRecursion (λ tag. 1 ≤ tag) (tags_of (contents_of forest)) → (parent : ℕ)
    → children_at (host_tree_of forest) parent ≡ map tag_at (by_z (filter (is_child_of parent) (viewed forest)))
children_by_z forest distinct low parent = ap host_tags (views_at forest distinct low parent) ∙ tags_placed parent 0 (by_z (filter (is_child_of parent) (viewed forest)))
