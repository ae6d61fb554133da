-- What holds of the children in a host tree.
use Rattle.std.proofs.Common.{◌≡◌, ◌≢◌, ◌≤◌, inl, inr, ℕ, zero, suc, List, [], ◌∷◌, ◌++◌, take, drop, filter, Bool, true, false, cond, ◌||◌, Some, None, nat_eq, append_assoc, arith, refl, ap, sym, ◌∙◌, subst}
use Rattle.std.specs.List.{AllByRecursion, IsDistinct, list_any}
use Rattle.std.proofs.lemmas.Bool.{cases_eq, cases_Bool, eq-eqb, ne_eqb, eqb-false, or_parts, or_from, both_ways, true_from_ne_false}
use Rattle.std.proofs.lemmas.Bool.Decides.{nat_tests}
use Rattle.std.proofs.lemmas.Map.Keys.{IsDistinct-head, IsDistinct-tail, IsDistinct-cons}
use Rattle.host_views.specs.declared.HostView.{HostView}
use Rattle.host_views.specs.HostTree.{IsHostTree, IsPlacedIn, has_tag}
use Rattle.host_views.specs.Plain.{PlainPlacedView, PlainHostTree, host_tags, children_at}
use Rattle.view_mutation.specs.Mutations.{view_at}
use Rattle.view_mutation.specs.Shorthands.{host_parents}
use Rattle.view_flatten.proofs.Distinct.{not_among}
use Rattle.view_mutation.proofs.Leading.{AreNew}
use Rattle.view_mutation.proofs.Shows.{IsParent}

-- a tag is there exactly where it is among the tags
pub has_tag_among : (tree : PlainHostTree) (tag : ℕ) → has_tag tree tag ≡ list_any (nat_eq tag) (host_tags tree)
has_tag_among [] tag = refl
has_tag_among (x ∷ xs) tag = let flip : nat_eq x.tag tag ≡ nat_eq tag x.tag = grind (arith, nat_tests) in λ i. flip i || has_tag_among xs tag i

-- a tag that is not there has no view
pub no_view : (tree : PlainHostTree) (tag : ℕ) → has_tag tree tag ≡ false → view_at tree tag ≡ None
no_view [] tag h = refl
no_view (x ∷ xs) tag h =
    let parts = or_parts (nat_eq x.tag tag) (has_tag xs tag) h in
    ap (λ b. cond b (Some x.view) (view_at xs tag)) parts.0 ∙ no_view xs tag parts.1

-- a tag that is there has a view
pub some_view : (tree : PlainHostTree) (tag : ℕ) → has_tag tree tag ≡ true → (view : HostView) × (view_at tree tag ≡ Some view)
some_view [] tag h = absurd (both_ways false refl h)
some_view (x ∷ xs) tag h =
    elim (cases_Bool (nat_eq x.tag tag)) as (λ c. (view : HostView) × (view_at (x ∷ xs) tag ≡ Some view)) [
      | inl here ↦ (x.view, ap (λ b. cond b (Some x.view) (view_at xs tag)) here)
      | inr other ↦
          let later = some_view xs tag (ap (λ b. b || has_tag xs tag) (sym other) ∙ h) in
          (later.0, ap (λ b. cond b (Some x.view) (view_at xs tag)) other ∙ later.1)
    ]

-- what is not in a list is not in a part of it
pub not_in_take : (tag k : ℕ) (xs : List ℕ) → list_any (nat_eq tag) xs ≡ false → list_any (nat_eq tag) (take k xs) ≡ false
not_in_take tag zero xs h = refl
not_in_take tag (suc k) [] h = refl
not_in_take tag (suc k) (x ∷ xs) h =
    let parts = or_parts (nat_eq tag x) (list_any (nat_eq tag) xs) h in
    or_from (nat_eq tag x) (list_any (nat_eq tag) (take k xs)) parts.0 (not_in_take tag k xs parts.1)

-- what holds of each in a list holds of each after some
pub each_after : (P : ℕ → Type 0) (xs : List ℕ) → ((tag : ℕ) → list_any (nat_eq tag) xs ≡ true → P tag) → (k : ℕ) → AllByRecursion P (drop k xs)
each_after P [] h zero = tt
each_after P [] h (suc k) = tt
each_after P (x ∷ xs) h zero = (h x (ap (λ b. b || list_any (nat_eq x) xs) (eq-eqb x x refl)), each_after P xs (λ tag e. h tag (later tag e)) zero)
  where
    later : (tag : ℕ) → list_any (nat_eq tag) xs ≡ true → list_any (nat_eq tag) (x ∷ xs) ≡ true
    later tag e = elim (nat_eq tag x) as (λ b. (b || list_any (nat_eq tag) xs) ≡ true) [ true ↦ refl | false ↦ e ]
each_after P (x ∷ xs) h (suc k) = each_after P xs (λ tag e. h tag (later tag e)) k
  where
    later : (tag : ℕ) → list_any (nat_eq tag) xs ≡ true → list_any (nat_eq tag) (x ∷ xs) ≡ true
    later tag e = elim (nat_eq tag x) as (λ b. (b || list_any (nat_eq tag) xs) ≡ true) [ true ↦ refl | false ↦ e ]

-- a tag that is not in the tree is no one's child
pub no_child_of : (tree : PlainHostTree) (tag parent : ℕ) → list_any (nat_eq tag) (host_tags tree) ≡ false → list_any (nat_eq tag) (children_at tree parent) ≡ false
no_child_of [] tag parent h = refl
no_child_of (x ∷ xs) tag parent h =
    let parts = or_parts (nat_eq tag x.tag) (list_any (nat_eq tag) (host_tags xs)) h in
    elim (nat_eq x.parent parent) as (λ b. list_any (nat_eq tag) (host_tags (cond b (x ∷ filter (λ placed. nat_eq placed.parent parent) xs) (filter (λ placed. nat_eq placed.parent parent) xs))) ≡ false) [
      | true ↦ or_from (nat_eq tag x.tag) (list_any (nat_eq tag) (children_at xs parent)) parts.0 (no_child_of xs tag parent parts.1)
      | false ↦ no_child_of xs tag parent parts.1
    ]

-- the first view is a child of its parent
child_here : (x : PlainPlacedView) (xs : PlainHostTree) (parent : ℕ) → x.parent ≡ parent → children_at (x ∷ xs) parent ≡ x.tag ∷ children_at xs parent
child_here x xs parent e = rw (eq-eqb x.parent parent e) refl

-- the first view is no child of another parent
child_other : (x : PlainPlacedView) (xs : PlainHostTree) (parent : ℕ) → (x.parent ≡ parent → ⊥) → children_at (x ∷ xs) parent ≡ children_at xs parent
child_other x xs parent n = rw (ne_eqb x.parent parent n) refl

-- a child of a parent is in the tree
pub child_there : (tree : PlainHostTree) (tag parent : ℕ) → list_any (nat_eq tag) (children_at tree parent) ≡ true → has_tag tree tag ≡ true
child_there tree tag parent h = true_from_ne_false (has_tag tree tag) (λ e. both_ways _ (no_child_of tree tag parent (sym (has_tag_among tree tag) ∙ e)) h)

-- a view with another tag makes no difference to that tag
child_past : (x : PlainPlacedView) (xs : PlainHostTree) (tag parent : ℕ) → (tag ≡ x.tag → ⊥)
    → list_any (nat_eq tag) (children_at (x ∷ xs) parent) ≡ list_any (nat_eq tag) (children_at xs parent)
child_past x xs tag parent n =
    elim (cases_eq x.parent parent) as (λ c. list_any (nat_eq tag) (children_at (x ∷ xs) parent) ≡ list_any (nat_eq tag) (children_at xs parent)) [
      | inl under ↦ ap (list_any (nat_eq tag)) (child_here x xs parent under) ∙ ap (λ b. b || list_any (nat_eq tag) (children_at xs parent)) (ne_eqb tag x.tag n)
      | inr away ↦ ap (list_any (nat_eq tag)) (child_other x xs parent away)
    ]

-- a child of one parent is a child of no other
pub one_parent : (tree : PlainHostTree) (tag p q : ℕ) → IsDistinct nat_eq (host_tags tree) → list_any (nat_eq tag) (children_at tree p) ≡ true → (q ≡ p → ⊥)
    → list_any (nat_eq tag) (children_at tree q) ≡ false
one_parent [] tag p q d h n = refl
one_parent (x ∷ xs) tag p q d h n =
    elim (cases_eq tag x.tag) as (λ c. list_any (nat_eq tag) (children_at (x ∷ xs) q) ≡ false) [
      | inl here ↦
          let gone : list_any (nat_eq tag) (host_tags xs) ≡ false = rw here (not_among x.tag (host_tags xs) (IsDistinct-head nat_eq x.tag (host_tags xs) d)) in
          elim (cases_eq x.parent p) as (λ c. list_any (nat_eq tag) (children_at (x ∷ xs) q) ≡ false) [
            | inl under ↦ ap (list_any (nat_eq tag)) (child_other x xs q (λ e. n (sym e ∙ under))) ∙ no_child_of xs tag q gone
            | inr away ↦ absurd (both_ways _ (no_child_of xs tag p gone) (ap (list_any (nat_eq tag)) (sym (child_other x xs p away)) ∙ h))
          ]
      | inr other ↦
          child_past x xs tag q other
          ∙ one_parent xs tag p q (IsDistinct-tail nat_eq x.tag (host_tags xs) d) (sym (child_past x xs tag p other) ∙ h) n
    ]

-- a tag that is neither the root nor there has no children
pub no_children_of : (tree xs : PlainHostTree) (parent : ℕ) → AllByRecursion (IsPlacedIn tree) xs → (parent ≡ 0 → ⊥) → has_tag tree parent ≡ false → children_at xs parent ≡ []
no_children_of tree [] parent each n e = refl
no_children_of tree (x ∷ xs) parent each n e =
    child_other x xs parent
    (λ under. both_ways _ (or_from (nat_eq parent 0) (has_tag tree parent) (ne_eqb parent 0 n) e) (subst (λ p. (nat_eq p 0 || has_tag tree p) ≡ true) under each.0.parent))
    ∙ no_children_of tree xs parent each.1 n e

-- a child differs from its parent
pub child_differs : (tree xs : PlainHostTree) (tag parent : ℕ) → AllByRecursion (IsPlacedIn tree) xs → list_any (nat_eq tag) (children_at xs parent) ≡ true → tag ≢ parent
child_differs tree [] tag parent each h = absurd (both_ways false refl h)
child_differs tree (x ∷ xs) tag parent each h =
    elim (cases_eq tag x.tag) as (λ c. tag ≢ parent) [
      | inl here ↦
          elim (cases_eq x.parent parent) as (λ c. tag ≢ parent) [
            | inl under ↦ λ e. each.0.other (under ∙ sym e ∙ here)
            | inr away ↦ child_differs tree xs tag parent each.1 (ap (list_any (nat_eq tag)) (sym (child_other x xs parent away)) ∙ h)
          ]
      | inr other ↦ child_differs tree xs tag parent each.1 (sym (child_past x xs tag parent other) ∙ h)
    ]

-- what holds of each tag holds of each that passes a test
each_kept : (P : ℕ → Type 0) (test : PlainPlacedView → Bool) (xs : PlainHostTree) → AllByRecursion P (host_tags xs) → AllByRecursion P (host_tags (filter test xs))
each_kept P test [] h = tt
each_kept P test (x ∷ xs) h =
    elim (test x) as (λ b. AllByRecursion P (host_tags (cond b (x ∷ filter test xs) (filter test xs)))) [
      | true ↦ (h.0, each_kept P test xs h.1)
      | false ↦ each_kept P test xs h.1
    ]

-- tags that differ still differ where some pass a test
pub distinct_kept : (test : PlainPlacedView → Bool) (xs : PlainHostTree) → IsDistinct nat_eq (host_tags xs) → IsDistinct nat_eq (host_tags (filter test xs))
distinct_kept test [] d = d
distinct_kept test (x ∷ xs) d =
    let others = distinct_kept test xs (IsDistinct-tail nat_eq x.tag (host_tags xs) d) in
    elim (test x) as (λ b. IsDistinct nat_eq (host_tags (cond b (x ∷ filter test xs) (filter test xs)))) [
      | true ↦ IsDistinct-cons nat_eq x.tag (host_tags (filter test xs)) (each_kept (λ y. nat_eq x.tag y ≡ false) test xs (IsDistinct-head nat_eq x.tag (host_tags xs) d)) others
      | false ↦ others
    ]

-- what holds of each holds of one in the middle
in_middle : (P : ℕ → Type 0) (front : List ℕ) (tag : ℕ) (tags : List ℕ) → AllByRecursion P (front ++ tag ∷ tags) → P tag
in_middle P [] tag tags h = h.0
in_middle P (x ∷ front) tag tags h = in_middle P front tag tags h.1

-- of tags that differ none stands before itself
not_before : (front : List ℕ) (tag : ℕ) (tags : List ℕ) → IsDistinct nat_eq (front ++ tag ∷ tags) → list_any (nat_eq tag) front ≡ false
not_before [] tag tags d = refl
not_before (x ∷ front) tag tags d =
    let apart : nat_eq x tag ≡ false = in_middle (λ y. nat_eq x y ≡ false) front tag tags (IsDistinct-head nat_eq x (front ++ tag ∷ tags) d) in
    let flipped : nat_eq tag x ≡ false = grind (arith, nat_tests) in
    or_from (nat_eq tag x) (list_any (nat_eq tag) front) flipped (not_before front tag tags (IsDistinct-tail nat_eq x (front ++ tag ∷ tags) d))

-- tags that differ are new one after the other
pub parts_new : (front tags : List ℕ) → IsDistinct nat_eq (front ++ tags) → AreNew front tags
parts_new front [] d = tt
parts_new front (tag ∷ tags) d = (not_before front tag tags d, parts_new (front ++ tag ∷ []) tags (subst (IsDistinct nat_eq) (sym (append_assoc front (tag ∷ []) tags)) d))

-- a view is found behind one of another tag
found_behind : (x : PlainPlacedView) (xs zs : PlainHostTree) → AllByRecursion (λ tag. nat_eq x.tag tag ≡ false) (host_tags zs)
    → AllByRecursion (λ placed. view_at xs placed.tag ≡ Some placed.view) zs → AllByRecursion (λ placed. view_at (x ∷ xs) placed.tag ≡ Some placed.view) zs
found_behind x xs [] h k = tt
found_behind x xs (z ∷ zs) h k = (ap (λ b. cond b (Some x.view) (view_at xs z.tag)) h.0 ∙ k.0, found_behind x xs zs h.1 k.1)

-- each view is found by its tag
own_views : (tree : PlainHostTree) → IsDistinct nat_eq (host_tags tree) → AllByRecursion (λ placed. view_at tree placed.tag ≡ Some placed.view) tree
own_views [] d = tt
own_views (x ∷ xs) d = (
  ap (λ b. cond b (Some x.view) (view_at xs x.tag)) (eq-eqb x.tag x.tag refl),
  found_behind x xs xs (IsDistinct-head nat_eq x.tag (host_tags xs) d) (own_views xs (IsDistinct-tail nat_eq x.tag (host_tags xs) d)),
)

-- a view of a tree: its tag is a node's, and the view is found by it
pub record IsFoundIn (tree : PlainHostTree) (placed : PlainPlacedView) : Type 0 where
  pub tag : 1 ≤ placed.tag
  pub view : view_at tree placed.tag ≡ Some placed.view

-- placed views whose tags find them are found
found_each : (tree xs : PlainHostTree) → AllByRecursion (IsPlacedIn tree) xs → AllByRecursion (λ placed. view_at tree placed.tag ≡ Some placed.view) xs → AllByRecursion (IsFoundIn tree) xs
found_each tree [] h k = tt
found_each tree (x ∷ xs) h k = (record { tag = h.0.tag; view = k.0 }, found_each tree xs h.1 k.1)

-- each view of a host tree is found in it
pub all_found : (tree : PlainHostTree) → IsHostTree tree → AllByRecursion (IsFoundIn tree) tree
all_found tree h = found_each tree tree h.views (own_views tree h.tags)

-- each found view may be a parent
parents_each : (tree xs : PlainHostTree) → AllByRecursion (IsFoundIn tree) xs → AllByRecursion (IsParent (view_at tree)) (host_tags xs)
parents_each tree [] h = tt
parents_each tree (x ∷ xs) h = (inr (x.view, h.0.view), parents_each tree xs h.1)

-- each host parent may be a parent
pub all_parents : (tree : PlainHostTree) → IsHostTree tree → AllByRecursion (IsParent (view_at tree)) (host_parents tree)
all_parents tree h = (inl refl, parents_each tree tree (all_found tree h))

-- no tag of a host tree is 0
pub none_zero : (tree xs : PlainHostTree) → AllByRecursion (IsPlacedIn tree) xs → AllByRecursion (λ tag. nat_eq 0 tag ≡ false) (host_tags xs)
none_zero tree [] h = tt
none_zero tree (x ∷ xs) h = let low : 1 ≤ x.tag = h.0.tag in (ne_eqb 0 x.tag (λ e. omega arith), none_zero tree xs h.1)

-- the host parents differ
pub distinct_parents : (tree : PlainHostTree) → IsHostTree tree → IsDistinct nat_eq (host_parents tree)
distinct_parents tree h = IsDistinct-cons nat_eq 0 (host_tags tree) (none_zero tree tree h.views) h.tags

-- a tag that is no host parent has no children
pub no_children_past : (tree : PlainHostTree) (q : ℕ) → IsHostTree tree → list_any (nat_eq q) (host_parents tree) ≡ false → children_at tree q ≡ []
no_children_past tree q h e =
    let parts = or_parts (nat_eq q 0) (list_any (nat_eq q) (host_tags tree)) e in
    no_children_of tree tree q h.views (eqb-false q 0 parts.0) (has_tag_among tree q ∙ parts.1)
