-- A forest without what lies below the nodes that pass a test: its nodes, and its host tree.
use Rattle.std.proofs.Common.{◌≡◌, ◌≤◌, ◌+◌, ◌-◌, ℕ, zero, suc, List, [], ◌∷◌, ◌++◌, length, map, filter, Bool, true, false, cond, not, ◌&&◌, ◌||◌, nat_eq, refl, ap, sym, ◌∙◌, subst, inl, inr, arith}
use Rattle.std.specs.List.{AllByRecursion, IsDistinct, flat_map, list_any}
use Rattle.std.proofs.lemmas.Bool.{and_right, cases_Bool, eqb-true, or_from, or_right}
use Rattle.std.proofs.lemmas.List.{map-append}
use Rattle.std.proofs.lemmas.List.Elements.{filter-append}
use Rattle.shadow_node.specs.Forest.{PlainForest, none, node, preorder}
use Rattle.shadow_node.specs.Fields.{SettledFields, contents_of, tags_of}
use Rattle.shadow_node.specs.Pruned.{pruned, skipped_tags, has_one_of}
use Rattle.shadow_node.specs.Shown.{Descendant, descendants, descendants_below}
use Rattle.host_views.specs.Plain.{PlainPlacedView, PlainHostTree}
use Rattle.view_flatten.specs.HostTree.{host_parent, by_z, viewed, placed_from, placed_below, views_below, host_tree_of}
use Rattle.view_flatten.proofs.Shorthands.{has_view, is_child_of, is_context}
use Rattle.view_flatten.proofs.Agree.{filter_flat_map, none_kept, either_any, same_any, same_filter, same_flat_map, swapped_any}
use Rattle.view_flatten.proofs.Children.{have_parent}
use Rattle.view_flatten.proofs.Distinct.{each_in_first, each_in_second, each_then, each_of_two}
use Rattle.view_flatten.proofs.Few.{kept_le}
use Rattle.view_flatten.proofs.Inside.{each_below_passes, each_host_within, each_inside, inside, is_within, lies_below, passes_by_key}
use Rattle.view_flatten.proofs.Levels.{more_levels}
use Rattle.view_flatten.proofs.Lines.{tags_below}
use Rattle.view_flatten.proofs.Order.{tag_at, tags_at, each_kept, distinct_kept}
use Rattle.view_flatten.proofs.Stable.{filter_twice}
use Rattle.view_flatten.proofs.Views.{each_child_at, each_placed_view}

-- no ancestor of a node passes a test
abbrev pub is_outside : (SettledFields → Bool) → Descendant → Bool
is_outside test here = not (list_any test here.above)

-- the nodes that are left are those outside
pub pruned_below : (test : SettledFields → Bool) (above : List SettledFields) (forest : PlainForest SettledFields) → list_any test above ≡ false
    → descendants_below above (pruned test forest) ≡ filter (is_outside test) (descendants_below above forest)
pruned_below test above none h = refl
pruned_below test above (node settled children siblings) h =
    let here : Descendant = record { settled = settled; above = above } in
    let below = descendants_below (settled ∷ above) children in
    let beside = descendants_below above siblings in
    let first : filter (is_outside test) (here ∷ below ++ beside) ≡ here ∷ filter (is_outside test) below ++ filter (is_outside test) beside =
    ap (λ b. cond (not b) (here ∷ filter (is_outside test) (below ++ beside)) (filter (is_outside test) (below ++ beside))) h
    ∙ ap (λ r. here ∷ r) (filter-append (is_outside test) below beside) in
    elim (cases_Bool (test settled)) [
      | inl cut ↦
          let gone : filter (is_outside test) below ≡ [] =
          none_kept (is_outside test) below
          (each_then (λ here. list_any test here.above ≡ true) (λ here. is_outside test here ≡ false) (λ here e. ap not e) below
          (each_below_passes test (settled ∷ above) children (ap (λ b. b || list_any test above) cut))) in
          ap (λ b. descendants_below above (node settled (cond b none (pruned test children)) (pruned test siblings))) cut
          ∙ (λ i. here ∷ sym gone i ++ pruned_below test above siblings h i) ∙ sym first
      | inr free ↦
          ap (λ b. descendants_below above (node settled (cond b none (pruned test children)) (pruned test siblings))) free
          ∙ (λ i. here ∷ pruned_below test (settled ∷ above) children (or_from (test settled) (list_any test above) free h) i ++ pruned_below test above siblings h i) ∙ sym first
    ]

-- filters in either order
pub filter_swapped : {X : Type 0} (p q : X → Bool) (xs : List X) → filter p (filter q xs) ≡ filter q (filter p xs)
filter_swapped p q xs = filter_twice p q xs ∙ (λ i. filter (λ x. swapped (q x) (p x) i) xs) ∙ sym (filter_twice q p xs)
  where
    swapped : (a b : Bool) → (a && b) ≡ (b && a)
    swapped true true = refl
    swapped true false = refl
    swapped false true = refl
    swapped false false = refl

-- those of them that have a view
pub viewed_pruned : (test : SettledFields → Bool) (forest : PlainForest SettledFields) → viewed (pruned test forest) ≡ filter (is_outside test) (viewed forest)
viewed_pruned test forest = ap (filter has_view) (pruned_below test [] forest refl) ∙ filter_swapped has_view (is_outside test) (descendants forest)

-- what holds of each tag, and of the tag of each node
pub of_tags : (P : ℕ → Type 0) (nodes : List Descendant) → AllByRecursion P (tags_at nodes) → AllByRecursion (λ here. P (tag_at here)) nodes
of_tags P [] h = tt
of_tags P (here ∷ nodes) h = (h.0, of_tags P nodes h.1)

pub to_tags : (P : ℕ → Type 0) (nodes : List Descendant) → AllByRecursion (λ here. P (tag_at here)) nodes → AllByRecursion P (tags_at nodes)
to_tags P [] h = tt
to_tags P (here ∷ nodes) h = (h.0, to_tags P nodes h.1)

-- the tags of the nodes that are left differ, and are tags of nodes, where those of all are
pub pruned_distinct : (test : SettledFields → Bool) (forest : PlainForest SettledFields) → IsDistinct nat_eq (tags_of (contents_of forest)) → IsDistinct nat_eq (tags_of (contents_of (pruned test forest)))
pruned_distinct test forest d =
    subst (IsDistinct nat_eq) (ap tags_at (sym (pruned_below test [] forest refl)) ∙ tags_below [] (pruned test forest))
    (distinct_kept (is_outside test) (descendants forest) (subst (IsDistinct nat_eq) (sym (tags_below [] forest)) d))

pub pruned_low : (test : SettledFields → Bool) (forest : PlainForest SettledFields) → AllByRecursion (λ tag. 1 ≤ tag) (tags_of (contents_of forest))
    → AllByRecursion (λ tag. 1 ≤ tag) (tags_of (contents_of (pruned test forest)))
pruned_low test forest h =
    let low = λ (tag : ℕ). 1 ≤ tag in
    let nodes = descendants forest in
    subst (AllByRecursion low) (ap tags_at (sym (pruned_below test [] forest refl)) ∙ tags_below [] (pruned test forest))
    (to_tags low (filter (is_outside test) nodes) (each_kept (λ here. low (tag_at here)) (is_outside test) nodes (of_tags low nodes (subst (AllByRecursion low) (sym (tags_below [] forest)) h))))

-- tests that agree on what is left leave the same
same_pruned : (p q : SettledFields → Bool) (forest : PlainForest SettledFields) → AllByRecursion (λ settled. p settled ≡ q settled) (preorder (pruned p forest)) → pruned p forest ≡ pruned q forest
same_pruned p q none h = refl
same_pruned p q (node settled children siblings) h =
    let each = λ (settled : SettledFields). p settled ≡ q settled in
    let first = each_in_first each (preorder (cond (p settled) none (pruned p children))) (preorder (pruned p siblings)) h.1 in
    let beside = same_pruned p q siblings (each_in_second each (preorder (cond (p settled) none (pruned p children))) (preorder (pruned p siblings)) h.1) in
    elim (cases_Bool (p settled)) [
      | inl cut ↦
          ap (λ b. node settled (cond b none (pruned p children)) (pruned p siblings)) cut ∙ ap (node settled none) beside
          ∙ sym (ap (λ b. node settled (cond b none (pruned q children)) (pruned q siblings)) (sym h.0 ∙ cut))
      | inr free ↦
          let below = same_pruned p q children (subst (λ b. AllByRecursion each (preorder (cond b none (pruned p children)))) free first) in
          ap (λ b. node settled (cond b none (pruned p children)) (pruned p siblings)) free ∙ (λ i. node settled (below i) (beside i))
          ∙ sym (ap (λ b. node settled (cond b none (pruned q children)) (pruned q siblings)) (sym h.0 ∙ free))
    ]

-- the tags of nodes in preorder
pub tags_in_preorder : (forest : PlainForest SettledFields) → map (λ settled. settled.fields.tag) (preorder forest) ≡ tags_of (contents_of forest)
tags_in_preorder none = refl
tags_in_preorder (node settled children siblings) =
    ap (λ r. settled.fields.tag ∷ r)
    (map-append (λ settled. settled.fields.tag) (preorder children) (preorder siblings) ∙ (λ i. tags_in_preorder children i ++ tags_in_preorder siblings i)
    ∙ sym (map-append (λ fields. fields.tag) (preorder (contents_of children)) (preorder (contents_of siblings))))

-- the tags of the nodes that pass and are left say what passes
pub pruned_by_tags : (test : SettledFields → Bool) (forest : PlainForest SettledFields) → IsDistinct nat_eq (tags_of (contents_of forest))
    → pruned test forest ≡ pruned (has_one_of (skipped_tags test forest)) forest
pruned_by_tags test forest d =
    let left = preorder (pruned test forest) in
    let apart : IsDistinct nat_eq (map (λ settled. settled.fields.tag) left) = subst (IsDistinct nat_eq) (sym (tags_in_preorder (pruned test forest))) (pruned_distinct test forest d) in
    same_pruned test (has_one_of (skipped_tags test forest)) forest
    (each_then (λ (settled : SettledFields). has_one_of (skipped_tags test forest) settled ≡ test settled) (λ settled. test settled ≡ has_one_of (skipped_tags test forest) settled) (λ settled e. sym e) left
    (passes_by_key (λ (settled : SettledFields). settled.fields.tag) test left apart))

-- a tag is that of a node of one of the tags, or of a node below one
abbrev pub is_closed : PlainForest SettledFields → List ℕ → ℕ → Bool
is_closed forest tags other = list_any (λ tag. is_within forest tag other) tags

-- a tag is that of a node below one of the tags
abbrev pub is_inner : PlainForest SettledFields → List ℕ → ℕ → Bool
is_inner forest tags other = list_any (λ tag. list_any (nat_eq other) (tags_at (inside forest tag))) tags

pub inner_closed : (forest : PlainForest SettledFields) (tags : List ℕ) (other : ℕ) → is_inner forest tags other ≡ true → is_closed forest tags other ≡ true
inner_closed forest tags other e =
    sym (either_any (nat_eq other) (λ tag. list_any (nat_eq other) (tags_at (inside forest tag))) tags) ∙ or_right (list_any (nat_eq other) tags) (is_inner forest tags other) e

-- what holds of each of one list with each of another
pub each_of_each : {X Y : Type 0} (R : X → Y → Type 0) (xs : List X) (ys : List Y) → AllByRecursion (λ x. AllByRecursion (R x) ys) xs → AllByRecursion (λ y. AllByRecursion (λ x. R x y) xs) ys
each_of_each {Y = Y} R [] ys h = nothing ys
  where
    nothing : (ys : List Y) → AllByRecursion (λ y. Unit {0}) ys
    nothing [] = tt
    nothing (y ∷ ys) = (tt, nothing ys)
each_of_each R (x ∷ xs) ys h = each_of_two (R x) (λ y. AllByRecursion (λ x. R x y) xs) ys h.0 (each_of_each R xs ys h.1)

-- tags of contexts alone
pub record IsOfContext (forest : PlainForest SettledFields) (tag : ℕ) : Type 0 where
  pub low : 1 ≤ tag
  pub context : AllByRecursion (λ here. nat_eq (tag_at here) tag ≡ true → is_context here.settled ≡ true) (descendants forest)

module _ (forest : PlainForest SettledFields) (distinct : IsDistinct nat_eq (tags_of (contents_of forest))) (low : AllByRecursion (λ tag. 1 ≤ tag) (tags_of (contents_of forest))) (tags : List ℕ)
    (contexts : AllByRecursion (IsOfContext forest) tags) where
  apart : IsDistinct nat_eq (tags_at (descendants forest))
  apart = subst (IsDistinct nat_eq) (sym (tags_below [] forest)) distinct

  abbrev test : SettledFields → Bool
  test = has_one_of tags

  -- a node lies below one of the contexts exactly where its host parent is closed
  pub each_host_closed : AllByRecursion (λ here. list_any (has_one_of tags) here.above ≡ is_closed forest tags (host_parent here.above)) (descendants forest)
  each_host_closed =
      let nodes = descendants forest in
      let one = λ (tag : ℕ) (here : Descendant). is_within forest tag (host_parent here.above) ≡ lies_below tag here in
      let each = each_then (IsOfContext forest) (λ tag. AllByRecursion (one tag) nodes)
      (λ tag h. each_host_within forest apart (subst (AllByRecursion (λ tag. 1 ≤ tag)) (sym (tags_below [] forest)) low) tag h.low h.context) tags contexts in
      each_then (λ here. AllByRecursion (λ tag. one tag here) tags) (λ here. list_any test here.above ≡ is_closed forest tags (host_parent here.above))
      (λ here h. swapped_any (λ (settled : SettledFields) tag. nat_eq settled.fields.tag tag) here.above tags
      ∙ sym (same_any (λ tag. is_within forest tag (host_parent here.above)) (λ tag. lies_below tag here) tags h)) nodes
      (each_of_each one tags nodes each)

  -- and exactly where its own tag is inner
  pub each_tag_inner : AllByRecursion (λ here. list_any (has_one_of tags) here.above ≡ is_inner forest tags (tag_at here)) (descendants forest)
  each_tag_inner =
      let nodes = descendants forest in
      let one = λ (tag : ℕ) (here : Descendant). list_any (nat_eq (tag_at here)) (tags_at (inside forest tag)) ≡ lies_below tag here in
      each_then (λ here. AllByRecursion (λ tag. one tag here) tags) (λ here. list_any test here.above ≡ is_inner forest tags (tag_at here))
      (λ here h. swapped_any (λ (settled : SettledFields) tag. nat_eq settled.fields.tag tag) here.above tags
      ∙ sym (same_any (λ tag. list_any (nat_eq (tag_at here)) (tags_at (inside forest tag))) (λ tag. lies_below tag here) tags h)) nodes
      (each_of_each one tags nodes (each_then (IsOfContext forest) (λ tag. AllByRecursion (one tag) nodes) (λ tag h. each_inside forest apart tag) tags contexts))

  abbrev nodes : List Descendant
  nodes = viewed forest

  abbrev left : List Descendant
  left = filter (is_outside test) nodes

  host_closed : AllByRecursion (λ here. list_any test here.above ≡ is_closed forest tags (host_parent here.above)) nodes
  host_closed = each_kept (λ here. list_any test here.above ≡ is_closed forest tags (host_parent here.above)) has_view (descendants forest) each_host_closed

  -- a view's host parent is closed exactly where its own tag is inner
  abbrev IsEven : PlainPlacedView → Type 0
  IsEven placed = is_closed forest tags placed.parent ≡ is_inner forest tags placed.tag

  even_nodes : AllByRecursion (λ here. is_closed forest tags (host_parent here.above) ≡ is_inner forest tags (tag_at here)) nodes
  even_nodes =
      each_kept (λ here. is_closed forest tags (host_parent here.above) ≡ is_inner forest tags (tag_at here)) has_view (descendants forest)
      (each_then (λ here. (list_any test here.above ≡ is_closed forest tags (host_parent here.above)) × (list_any test here.above ≡ is_inner forest tags (tag_at here)))
      (λ here. is_closed forest tags (host_parent here.above) ≡ is_inner forest tags (tag_at here)) (λ here h. sym h.0 ∙ h.1) (descendants forest)
      (each_of_two (λ here. list_any test here.above ≡ is_closed forest tags (host_parent here.above)) (λ here. list_any test here.above ≡ is_inner forest tags (tag_at here)) (descendants forest) each_host_closed each_tag_inner))

  even_places : AllByRecursion (λ here. (index : ℕ) → is_closed forest tags (host_parent here.above) ≡ is_inner forest tags (tag_at here)) nodes
  even_places =
      each_then (λ here. is_closed forest tags (host_parent here.above) ≡ is_inner forest tags (tag_at here)) (λ here. (index : ℕ) → is_closed forest tags (host_parent here.above) ≡ is_inner forest tags (tag_at here))
      (λ here e index. e) nodes even_nodes

  -- and so each view of the host tree
  pub each_even : AllByRecursion (λ placed. is_closed forest tags placed.parent ≡ is_inner forest tags placed.tag) (host_tree_of forest)
  each_even = each_placed_view IsEven forest even_places

  -- the children of a closed host parent are left out, and those of each other one are left
  children_left : (parent : ℕ) → filter (is_child_of parent) left ≡ cond (is_closed forest tags parent) [] (filter (is_child_of parent) nodes)
  children_left parent =
      filter_twice (is_child_of parent) (is_outside test) nodes
      ∙ same_filter (λ here. is_outside test here && is_child_of parent here) (λ here. not (is_closed forest tags parent) && is_child_of parent here) nodes
      (each_then (λ here. list_any test here.above ≡ is_closed forest tags (host_parent here.above))
      (λ here. (is_outside test here && is_child_of parent here) ≡ (not (is_closed forest tags parent) && is_child_of parent here)) by_parent nodes host_closed)
      ∙ whole (is_closed forest tags parent)
    where
      by_parent : (here : Descendant) → list_any test here.above ≡ is_closed forest tags (host_parent here.above)
          → (is_outside test here && is_child_of parent here) ≡ (not (is_closed forest tags parent) && is_child_of parent here)
      by_parent here e =
          elim (cases_Bool (is_child_of parent here)) [
            | inl child ↦ ap (λ b. not b && is_child_of parent here) (e ∙ ap (is_closed forest tags) (eqb-true (host_parent here.above) parent child))
            | inr other ↦ and_right (is_outside test here) (is_child_of parent here) other ∙ sym (and_right (not (is_closed forest tags parent)) (is_child_of parent here) other)
          ]

      nothing : (nodes : List Descendant) → filter (λ here. false) nodes ≡ []
      nothing [] = refl
      nothing (here ∷ nodes) = nothing nodes

      whole : (b : Bool) → filter (λ here. not b && is_child_of parent here) nodes ≡ cond b [] (filter (is_child_of parent) nodes)
      whole true = nothing nodes
      whole false = refl

  placed_left : (parent : ℕ) (b : Bool) → is_closed forest tags parent ≡ b → placed_below left parent ≡ placed_from parent 0 (by_z (cond b [] (filter (is_child_of parent) nodes)))
  placed_left parent b e = ap (λ kept. placed_from parent 0 (by_z kept)) (children_left parent ∙ ap (λ b. cond b [] (filter (is_child_of parent) nodes)) e)

  -- below a closed host parent nothing is left
  nothing_left : (levels parent : ℕ) → is_closed forest tags parent ≡ true → views_below levels left parent ≡ []
  nothing_left zero parent e = refl
  nothing_left (suc levels) parent e = ap (flat_map (λ placed. placed ∷ views_below levels left placed.tag)) (placed_left parent true e)

  abbrev is_left : PlainPlacedView → Bool
  is_left placed = not (is_closed forest tags placed.parent)

  no_blocks : (f : PlainPlacedView → PlainHostTree) (children : PlainHostTree) → AllByRecursion (λ child. f child ≡ []) children → flat_map f children ≡ []
  no_blocks f [] h = refl
  no_blocks f (child ∷ children) h = ap (λ r. r ++ flat_map f children) h.0 ∙ no_blocks f children h.1

  -- the views that are left are those whose host parents are not closed
  views_left : (levels parent : ℕ) → views_below levels left parent ≡ filter is_left (views_below levels nodes parent)
  views_left zero parent = refl
  views_left (suc levels) parent =
      let children = placed_below nodes parent in
      let blocks = λ (placed : PlainPlacedView). placed ∷ views_below levels nodes placed.tag in
      let own = have_parent parent 0 (by_z (filter (is_child_of parent) nodes)) in
      let even = each_child_at IsEven nodes even_places parent in
      let each = each_of_two (λ (placed : PlainPlacedView). nat_eq placed.parent parent ≡ true) IsEven children own even in
      let inside = filter_flat_map is_left blocks children (filter-append is_left) in
      elim (cases_Bool (is_closed forest tags parent)) [
        | inl shut ↦
            nothing_left (suc levels) parent shut
            ∙ sym (inside
            ∙ no_blocks (λ placed. filter is_left (blocks placed)) children
            (each_then (λ (placed : PlainPlacedView). (nat_eq placed.parent parent ≡ true) × IsEven placed) (λ placed. filter is_left (blocks placed) ≡ [])
            (λ placed h. let closed : is_closed forest tags placed.parent ≡ true = ap (is_closed forest tags) (eqb-true placed.parent parent h.0) ∙ shut in
            ap (λ b. cond (not b) (placed ∷ filter is_left (views_below levels nodes placed.tag)) (filter is_left (views_below levels nodes placed.tag))) closed
            ∙ sym (views_left levels placed.tag) ∙ nothing_left levels placed.tag (inner_closed forest tags placed.tag (sym h.1 ∙ closed))) children each))
        | inr free ↦
            ap (flat_map (λ placed. placed ∷ views_below levels left placed.tag)) (placed_left parent false free)
            ∙ same_flat_map (λ placed. placed ∷ views_below levels left placed.tag) (λ placed. filter is_left (blocks placed)) children
            (each_then (λ (placed : PlainPlacedView). (nat_eq placed.parent parent ≡ true) × IsEven placed) (λ placed. placed ∷ views_below levels left placed.tag ≡ filter is_left (blocks placed))
            (λ placed h. let open_here : is_closed forest tags placed.parent ≡ false = ap (is_closed forest tags) (eqb-true placed.parent parent h.0) ∙ free in
            ap (λ r. placed ∷ r) (views_left levels placed.tag)
            ∙ sym (ap (λ b. cond (not b) (placed ∷ filter is_left (views_below levels nodes placed.tag)) (filter is_left (views_below levels nodes placed.tag))) open_here)) children each)
            ∙ sym inside
      ]

  -- the views of the host tree whose own tags are not inner
  pub host_tree_left : host_tree_of (pruned (has_one_of tags) forest) ≡ filter (λ placed. not (is_inner forest tags placed.tag)) (host_tree_of forest)
  host_tree_left =
      let few = viewed (pruned test forest) in
      let fewer : length few ≤ length nodes = subst (λ some. length some ≤ length nodes) (sym (viewed_pruned test forest)) (kept_le (is_outside test) nodes) in
      let e : (length nodes - length few) + length few ≡ length nodes = omega arith in
      sym (more_levels (pruned test forest) (pruned_distinct test forest distinct) (pruned_low test forest low) (length nodes - length few))
      ∙ ap (λ levels. views_below levels few 0) e
      ∙ ap (λ some. views_below (length nodes) some 0) (viewed_pruned test forest)
      ∙ views_left (length nodes) 0
      ∙ same_filter is_left (λ placed. not (is_inner forest tags placed.tag)) (host_tree_of forest)
      (each_then IsEven (λ placed. is_left placed ≡ not (is_inner forest tags placed.tag)) (λ placed e. ap not e) (host_tree_of forest) each_even)
