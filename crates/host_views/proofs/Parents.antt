-- The parents fit the children, before and after each mutation.
use Rattle.std.proofs.Common.{◌≡◌, ◌≢◌, ℕ, ◌+◌, ◌<◌, List, [], ◌∷◌, Bool, true, false, cond, ◌||◌, Option, None, Some, IsSome, refl, ap, sym, ◌∙◌, subst, arith, inl, inr}
use Rattle.std.specs.Prelude.{nat_eq, slice_get, count_by}
use Rattle.std.specs.List.{list_any}
use Rattle.std.specs.List as list
use Rattle.std.specs.Option.{option_map, option_and_then, option_eq, unwrap_or}
use Rattle.std.specs.Ordering.{nat_cmp}
use Rattle.std.specs.FinMap.{FinMap, get}
use Rattle.std.specs.FinMap as table
use Rattle.std.proofs.lemmas.Bool.{cases_eq}
use Rattle.std.proofs.lemmas.Bool.Decides.{nat_tests}
use Rattle.std.proofs.lemmas.Option.{slice_get_within, get_or_from_slice_get}
use Rattle.std.proofs.lemmas.List.Sums.{sum_by-cons, sum_by-insert, sum_by-remove}
use Rattle.host_views.specs.declared.HostView.{HostView}
use Rattle.host_views.specs.Registry.{changed_at, IsNoChild}
use Rattle.host_views.specs.Links.{PlainLinkedView, PlainLinks, KeepsParents, linked_children, linked_parent, registry_in, unlinked, with_linked_children, with_parent, with_view}
use Rattle.host_views.proofs.AtOneTag.{children_changed}
use Rattle.host_views.proofs.Tables.{get_changed, get_inserted, get_removed}
use Rattle.host_views.proofs.Shown.{shown_children}

-- the children of a tag, and none where it is not there
abbrev pub children_listed : PlainLinks → ℕ → List ℕ
children_listed links parent = unwrap_or (linked_children links parent) []

-- how often a tag stands in a list
abbrev pub times : ℕ → List ℕ → ℕ
times tag tags = count_by (nat_eq tag) tags

-- how often a tag is to stand among the children of a parent, where that is its own
abbrev pub wanted : Option ℕ → ℕ → ℕ
wanted own parent = cond (option_eq nat_eq own (Some parent)) 1 0

-- what does not stand in a list stands there no times, and the other way round
pub none_counted : (tag : ℕ) (tags : List ℕ) → list_any (nat_eq tag) tags ≡ false → times tag tags ≡ 0
none_counted tag [] h = refl
none_counted tag (x ∷ xs) h =
    sum_by-cons (λ y. cond (nat_eq tag y) 1 0) x xs
    ∙ elim (nat_eq tag x) as (λ b. (b || list_any (nat_eq tag) xs) ≡ false → cond b 1 0 + times tag xs ≡ 0) [
      | true ↦ λ k. cc
      | false ↦ λ k. let rest : times tag xs ≡ 0 = none_counted tag xs k in omega (arith, rest)
    ] h

pub none_listed : (tag : ℕ) (tags : List ℕ) → times tag tags ≡ 0 → list_any (nat_eq tag) tags ≡ false
none_listed tag [] h = refl
none_listed tag (x ∷ xs) h =
    elim (nat_eq tag x) as (λ b. cond b 1 0 + times tag xs ≡ 0 → (b || list_any (nat_eq tag) xs) ≡ false) [
      | true ↦ λ k. absurd (omega (arith, k))
      | false ↦ λ k. let rest : times tag xs ≡ 0 = omega (arith, k) in none_listed tag xs rest
    ] (sym (sum_by-cons (λ y. cond (nat_eq tag y) 1 0) x xs) ∙ h)

-- a tag without a parent is no one's child
pub no_child_from_none : (links : PlainLinks) (tag : ℕ) → KeepsParents links → linked_parent links tag ≡ None → IsNoChild (registry_in links) tag
no_child_from_none links tag k e parent =
    ap (λ o. list_any (nat_eq tag) (unwrap_or o [])) (shown_children links parent)
    ∙ none_listed tag (children_listed links parent) (k.standing parent tag ∙ ap (λ o. wanted o parent) e)

none_from_no_child : (links : PlainLinks) (tag : ℕ) → KeepsParents links → IsNoChild (registry_in links) tag → (own : Option ℕ) → linked_parent links tag ≡ own → own ≡ None
none_from_no_child links tag k h None e = refl
none_from_no_child links tag k h (Some parent) e =
    let absent : times tag (children_listed links parent) ≡ 0
    = none_counted tag (children_listed links parent) (sym (ap (λ o. list_any (nat_eq tag) (unwrap_or o [])) (shown_children links parent)) ∙ h parent) in
    let once : times tag (children_listed links parent) ≡ cond (nat_eq parent parent) 1 0 = k.standing parent tag ∙ ap (λ o. wanted o parent) e in
    absurd (grind (arith, nat_tests))

-- a tag that is no one's child has no parent
pub none_from_no_child_of : (links : PlainLinks) (tag : ℕ) → KeepsParents links → IsNoChild (registry_in links) tag → linked_parent links tag ≡ None
none_from_no_child_of links tag k h = none_from_no_child links tag k h (linked_parent links tag) refl

-- the children of a view, and its parent, where it is there
abbrev pub kept_children : Option PlainLinkedView → List ℕ
kept_children o = unwrap_or (option_map (λ linked. linked.children) o) []

abbrev pub kept_parent : Option PlainLinkedView → Option ℕ
kept_parent o = option_and_then (λ linked. linked.parent) o

children_alike : (root : List ℕ) (m n : Option PlainLinkedView) (b : Bool) → kept_children n ≡ kept_children m
    → unwrap_or (cond b (Some root) (option_map (λ linked. linked.children) n)) [] ≡ unwrap_or (cond b (Some root) (option_map (λ linked. linked.children) m)) []
children_alike root m n true e = refl
children_alike root m n false e = e

-- where all children and all parents are as before, they still fit
pub kept_alike : (root : List ℕ) (m n : FinMap nat_cmp PlainLinkedView) → KeepsParents (record { root = root; views = m })
    → ((q : ℕ) → kept_children (get n q) ≡ kept_children (get m q)) → ((q : ℕ) → kept_parent (get n q) ≡ kept_parent (get m q)) → get n 0 ≡ None
    → KeepsParents (record { root = root; views = n })
kept_alike root m n k children parents rooted = record {
  standing = λ parent tag.
      ap (times tag) (children_alike root (get m parent) (get n parent) (nat_eq parent 0) (children parent))
      ∙ k.standing parent tag
      ∙ ap (λ o. wanted o parent) (sym (parents tag));
  rooted = rooted;
}

same_number : (a b : ℕ) → nat_eq a b ≡ true → a ≡ b
same_number a b h = grind (arith, nat_tests)

-- the root alone
pub kept_start : KeepsParents (record { root = []; views = table.empty })
kept_start = record {
  standing = λ parent tag.
      ap (λ o. times tag (unwrap_or (cond (nat_eq parent 0) (Some []) (option_map (λ linked. linked.children) o)) [])) (table.get-empty nat_cmp parent)
      ∙ elim (nat_eq parent 0) as (λ b. times tag (unwrap_or (cond b (Some []) None) []) ≡ 0) [ true ↦ refl | false ↦ refl ]
      ∙ ap (λ o. wanted (kept_parent o) parent) (sym (table.get-empty nat_cmp tag));
  rooted = table.get-empty nat_cmp 0;
}

-- after a create
pub kept_create : (root : List ℕ) (m : FinMap nat_cmp PlainLinkedView) (tag : ℕ) (view : HostView) → KeepsParents (record { root = root; views = m }) → tag ≢ 0 → get m tag ≡ None
    → KeepsParents (record { root = root; views = table.insert m tag (unlinked view) })
kept_create root m tag view k low absent =
    kept_alike root m (table.insert m tag (unlinked view)) k (λ q. ap kept_children (get_inserted m tag (unlinked view) q) ∙ as_before kept_children refl q)
    (λ q. ap kept_parent (get_inserted m tag (unlinked view) q) ∙ as_before kept_parent refl q)
    (get_inserted m tag (unlinked view) 0 ∙ ap (λ b. cond b (Some (unlinked view)) (get m 0)) (zero_apart tag low) ∙ k.rooted)
  where
    zero_apart : (t : ℕ) → t ≢ 0 → nat_eq 0 t ≡ false
    zero_apart t h = grind (arith, nat_tests)

    as_before : {Y : Type 0} (f : Option PlainLinkedView → Y) → f (Some (unlinked view)) ≡ f None → (q : ℕ) → f (cond (nat_eq q tag) (Some (unlinked view)) (get m q)) ≡ f (get m q)
    as_before f e q =
        elim (nat_eq q tag) as (λ b. nat_eq q tag ≡ b → f (cond b (Some (unlinked view)) (get m q)) ≡ f (get m q)) [
          | true ↦ λ is. e ∙ ap f (sym absent) ∙ ap (λ t. f (get m t)) (sym (same_number q tag is))
          | false ↦ λ _. refl
        ] refl

-- after a delete
pub kept_delete : (root : List ℕ) (m : FinMap nat_cmp PlainLinkedView) (tag : ℕ) → KeepsParents (record { root = root; views = m })
    → kept_children (get m tag) ≡ [] → kept_parent (get m tag) ≡ None → KeepsParents (record { root = root; views = table.remove m tag })
kept_delete root m tag k bare loose =
    kept_alike root m (table.remove m tag) k (λ q. ap kept_children (get_removed m tag q) ∙ as_before kept_children (sym bare) q)
    (λ q. ap kept_parent (get_removed m tag q) ∙ as_before kept_parent (sym loose) q)
    (get_removed m tag 0 ∙ none_either (nat_eq 0 tag) (get m 0) k.rooted)
  where
    none_either : (b : Bool) (o : Option PlainLinkedView) → o ≡ None → cond b None o ≡ None
    none_either true o e = refl
    none_either false o e = e

    as_before : {Y : Type 0} (f : Option PlainLinkedView → Y) → f None ≡ f (get m tag) → (q : ℕ) → f (cond (nat_eq q tag) None (get m q)) ≡ f (get m q)
    as_before f e q =
        elim (nat_eq q tag) as (λ b. nat_eq q tag ≡ b → f (cond b None (get m q)) ≡ f (get m q)) [
          | true ↦ λ is. e ∙ ap (λ t. f (get m t)) (sym (same_number q tag is))
          | false ↦ λ _. refl
        ] refl

-- a change at a tag leaves what it leaves of a view
as_it_was : {Y : Type 0} (f : Option PlainLinkedView → Y) (change : PlainLinkedView → PlainLinkedView) → ((v : PlainLinkedView) → f (Some (change v)) ≡ f (Some v))
    → (b : Bool) (o : Option PlainLinkedView) → f (cond b (option_map change o) o) ≡ f o
as_it_was f change h true None = refl
as_it_was f change h true (Some v) = h v
as_it_was f change h false o = refl

still_none : (b : Bool) (change : PlainLinkedView → PlainLinkedView) (o : Option PlainLinkedView) → o ≡ None → cond b (option_map change o) o ≡ None
still_none true change o e = ap (option_map change) e
still_none false change o e = e

-- 0 has no view after a change
pub rooted_changed : (m : FinMap nat_cmp PlainLinkedView) (tag : ℕ) (change : PlainLinkedView → PlainLinkedView) → get m 0 ≡ None → get (changed_at tag change m) 0 ≡ None
rooted_changed m tag change e = get_changed m tag change 0 ∙ still_none (nat_eq 0 tag) change (get m 0) e

-- after an update
pub kept_update : (links : PlainLinks) (tag : ℕ) (view : HostView) → KeepsParents links → KeepsParents (with_view tag view links)
kept_update links tag view k =
    let change : PlainLinkedView → PlainLinkedView = λ linked. record { view = view; parent = linked.parent; children = linked.children } in
    kept_alike links.root links.views (changed_at tag change links.views) k
    (λ q. ap kept_children (get_changed links.views tag change q) ∙ as_it_was kept_children change (λ v. refl) (nat_eq q tag) (get links.views q))
    (λ q. ap kept_parent (get_changed links.views tag change q) ∙ as_it_was kept_parent change (λ v. refl) (nat_eq q tag) (get links.views q))
    (rooted_changed links.views tag change k.rooted)

mapped_children : (change : List ℕ → List ℕ) (b : Bool) (o : Option PlainLinkedView)
    → option_map (λ linked. linked.children) (cond b (option_map (children_changed change) o) o)
    ≡ cond b (option_map change (option_map (λ linked. linked.children) o)) (option_map (λ linked. linked.children) o)
mapped_children change true None = refl
mapped_children change true (Some v) = refl
mapped_children change false o = refl

at_root : (change : List ℕ → List ℕ) (root : List ℕ) (o : Option (List ℕ)) (b : Bool)
    → cond b (Some (change root)) o ≡ cond b (option_map change (cond b (Some root) o)) (cond b (Some root) o)
at_root change root o true = refl
at_root change root o false = refl

-- the links with a change of the root's children, or of those of that view
abbrev pub children_by : PlainLinks → ℕ → (List ℕ → List ℕ) → Bool → PlainLinks
children_by links parent change at_root = cond at_root (record { root = change links.root; views = links.views })
    (record { root = links.root; views = changed_at parent (children_changed change) links.views })

-- the children of each tag after a change of those of one parent
pub children_after : (links : PlainLinks) (parent : ℕ) (change : List ℕ → List ℕ) (p : ℕ)
    → linked_children (with_linked_children parent change links) p ≡ cond (nat_eq p parent) (option_map change (linked_children links p)) (linked_children links p)
children_after links parent change p =
    let found = get links.views p in
    let changed = get (changed_at parent (children_changed change) links.views) p in
    let was = linked_children links p in
    elim (nat_eq parent 0) as (λ b. nat_eq parent 0 ≡ b
    → linked_children (children_by links parent change b) p
    ≡ cond (nat_eq p parent) (option_map change was) was) [
      | true ↦ λ is.
          at_root change links.root (option_map (λ linked. linked.children) found) (nat_eq p 0)
          ∙ ap (λ t. cond (nat_eq p t) (option_map change was) was) (sym (same_number parent 0 is))
      | false ↦ λ is.
          elim (nat_eq p 0) as (λ b. nat_eq p 0 ≡ b → cond b (Some links.root) (option_map (λ linked. linked.children) changed)
          ≡ cond (nat_eq p parent) (option_map change (cond b (Some links.root) (option_map (λ linked. linked.children) found)))
          (cond b (Some links.root) (option_map (λ linked. linked.children) found))) [
            | true ↦ λ low. ap (λ b. cond b (Some (change links.root)) (Some links.root)) (sym (apart_by_zero p parent low is))
            | false ↦ λ _.
                ap (option_map (λ linked. linked.children)) (get_changed links.views parent (children_changed change) p) ∙ mapped_children change (nat_eq p parent) found
          ] refl
    ] refl
  where
    apart_by_zero : (a b : ℕ) → nat_eq a 0 ≡ true → nat_eq b 0 ≡ false → nat_eq a b ≡ false
    apart_by_zero a b h k = grind (arith, nat_tests)

-- the parents stay
pub parents_after : (links : PlainLinks) (parent : ℕ) (change : List ℕ → List ℕ) (t : ℕ) → linked_parent (with_linked_children parent change links) t ≡ linked_parent links t
parents_after links parent change t =
    elim (nat_eq parent 0) as (λ b.
    linked_parent (children_by links parent change b) t
    ≡ linked_parent links t) [
      | true ↦ refl
      | false ↦
          ap kept_parent (get_changed links.views parent (children_changed change) t)
          ∙ as_it_was kept_parent (children_changed change) (λ v. refl) (nat_eq t parent) (get links.views t)
    ]

rooted_after : (links : PlainLinks) (parent : ℕ) (change : List ℕ → List ℕ) → get links.views 0 ≡ None → get (with_linked_children parent change links).views 0 ≡ None
rooted_after links parent change e =
    elim (nat_eq parent 0) as (λ b.
    get (children_by links parent change b).views 0 ≡ None) [
      | true ↦ e
      | false ↦ rooted_changed links.views parent (children_changed change) e
    ]

-- a view with another parent
abbrev pub parent_changed : Option ℕ → PlainLinkedView → PlainLinkedView
parent_changed own linked = record { view = linked.view; parent = own; children = linked.children }

-- the children stay after a change of a parent
pub children_stay : (links : PlainLinks) (tag : ℕ) (own : Option ℕ) (p : ℕ) → linked_children (with_parent tag own links) p ≡ linked_children links p
children_stay links tag own p =
    ap (cond (nat_eq p 0) (Some links.root))
    (ap (option_map (λ linked. linked.children)) (get_changed links.views tag (parent_changed own) p)
    ∙ as_it_was (option_map (λ linked. linked.children)) (parent_changed own) (λ v. refl) (nat_eq p tag) (get links.views p))

own_there : (own : Option ℕ) (o : Option PlainLinkedView) → IsSome o → kept_parent (option_map (parent_changed own) o) ≡ own
own_there own None h = absurd (grind arith)
own_there own (Some v) h = refl

-- the parent of a tag that is there, after it was changed
pub parent_set : (links : PlainLinks) (tag : ℕ) (own : Option ℕ) → IsSome (get links.views tag) → linked_parent (with_parent tag own links) tag ≡ own
parent_set links tag own h =
    ap kept_parent (get_changed links.views tag (parent_changed own) tag ∙ ap (λ b. cond b (option_map (parent_changed own) (get links.views tag)) (get links.views tag)) (itself tag))
    ∙ own_there own (get links.views tag) h
  where
    itself : (t : ℕ) → nat_eq t t ≡ true
    itself t = grind (arith, nat_tests)

apart : (a b : ℕ) → (a ≡ b → ⊥) → nat_eq a b ≡ false
apart a b h = grind (arith, nat_tests)

-- the parents of other tags stay
pub other_parents_stay : (links : PlainLinks) (tag : ℕ) (own : Option ℕ) (t : ℕ) → (t ≡ tag → ⊥) → linked_parent (with_parent tag own links) t ≡ linked_parent links t
other_parents_stay links tag own t h =
    ap kept_parent (get_changed links.views tag (parent_changed own) t ∙ ap (λ b. cond b (option_map (parent_changed own) (get links.views t)) (get links.views t)) (apart t tag h))

there_after : (b : Bool) (change : PlainLinkedView → PlainLinkedView) (o : Option PlainLinkedView) → IsSome o → IsSome (cond b (option_map change o) o)
there_after true change None h = h
there_after true change (Some v) h = refl
there_after false change o h = h

-- a view is there still after a change of children
pub still_there : (links : PlainLinks) (parent : ℕ) (change : List ℕ → List ℕ) (tag : ℕ) → IsSome (get links.views tag) → IsSome (get (with_linked_children parent change links).views tag)
still_there links parent change tag h =
    elim (nat_eq parent 0) as (λ b.
    IsSome (get (children_by links parent change b).views tag)) [
      | true ↦ h
      | false ↦ subst IsSome (sym (get_changed links.views parent (children_changed change) tag)) (there_after (nat_eq tag parent) (children_changed change) (get links.views tag) h)
    ]

-- a change of one parent's children and of one tag's parent, after which that tag stands where it is to stand, and the other tags as before
pub kept_moved : (links : PlainLinks) (parent tag : ℕ) (change : List ℕ → List ℕ) (own : Option ℕ) (children : List ℕ) → KeepsParents links → IsSome (get links.views tag)
    → linked_children links parent ≡ Some children
    → ((t : ℕ) → (t ≡ tag → ⊥) → times t (change children) ≡ times t children)
    → ((p : ℕ) → times tag (cond (nat_eq p parent) (change children) (children_listed links p)) ≡ wanted own p)
    → KeepsParents (with_parent tag own (with_linked_children parent change links))
kept_moved links parent tag change own children k present is others itself =
    let moved = with_linked_children parent change links in
    record {
      standing = λ p t.
          ap (λ o. times t (unwrap_or o [])) (children_stay moved tag own p ∙ children_after links parent change p)
          ∙ ap (times t) (changed_list p)
          ∙ elim (cases_eq t tag) as (λ _. times t (cond (nat_eq p parent) (change children) (children_listed links p)) ≡ wanted (linked_parent (with_parent tag own moved) t) p) [
            | inl same ↦
                subst (λ u. times u (cond (nat_eq p parent) (change children) (children_listed links p)) ≡ wanted (linked_parent (with_parent tag own moved) u) p) (sym same)
                (itself p ∙ ap (λ o. wanted o p) (sym (parent_set moved tag own (still_there links parent change tag present))))
            | inr other ↦
                other_list p t other
                ∙ k.standing p t
                ∙ ap (λ o. wanted o p) (sym (other_parents_stay moved tag own t other ∙ parents_after links parent change t))
          ];
      rooted = rooted_changed moved.views tag (parent_changed own) (rooted_after links parent change k.rooted);
    }
  where
    in_cond : (b : Bool) (o : Option (List ℕ)) → (b ≡ true → o ≡ Some children) → unwrap_or (cond b (option_map change o) o) [] ≡ cond b (change children) (unwrap_or o [])
    in_cond true o h = ap (λ o. unwrap_or (option_map change o) []) (h refl)
    in_cond false o h = refl

    at_parent : (p : ℕ) → nat_eq p parent ≡ true → linked_children links p ≡ Some children
    at_parent p h = ap (linked_children links) (same_number p parent h) ∙ is

    changed_list : (p : ℕ) → unwrap_or (cond (nat_eq p parent) (option_map change (linked_children links p)) (linked_children links p)) []
        ≡ cond (nat_eq p parent) (change children) (children_listed links p)
    changed_list p = in_cond (nat_eq p parent) (linked_children links p) (at_parent p)

    other_list : (p t : ℕ) → (t ≡ tag → ⊥) → times t (cond (nat_eq p parent) (change children) (children_listed links p)) ≡ times t (children_listed links p)
    other_list p t other =
        elim (nat_eq p parent) as (λ b. nat_eq p parent ≡ b → times t (cond b (change children) (children_listed links p)) ≡ times t (children_listed links p)) [
          | true ↦ λ h. others t other ∙ ap (λ o. times t (unwrap_or o [])) (sym (at_parent p h))
          | false ↦ λ _. refl
        ] refl

one_more : (t tag n m : ℕ) → (t ≡ tag → ⊥) → m ≡ n + cond (nat_eq t tag) 1 0 → m ≡ n
one_more t tag n m h e = grind (arith, nat_tests)

split_times : (t p parent : ℕ) (xs ys : List ℕ) → times t (cond (nat_eq p parent) xs ys) ≡ cond (nat_eq p parent) (times t xs) (times t ys)
split_times t p parent xs ys = elim (nat_eq p parent) as (λ b. times t (cond b xs ys) ≡ cond b (times t xs) (times t ys)) [ true ↦ refl | false ↦ refl ]

inserted_once : (tag p parent n m z : ℕ) → m ≡ n + cond (nat_eq tag tag) 1 0 → n ≡ 0 → z ≡ 0 → cond (nat_eq p parent) m z ≡ cond (nat_eq parent p) 1 0
inserted_once tag p parent n m z h k e = grind (arith, nat_tests)

removed_once : (tag p parent n m z : ℕ) → m + cond (nat_eq tag tag) 1 0 ≡ n → n ≡ cond (nat_eq parent parent) 1 0 → z ≡ cond (nat_eq parent p) 1 0 → cond (nat_eq p parent) m z ≡ 0
removed_once tag p parent n m z h k e = grind (arith, nat_tests)

-- after an insert of a tag that had no parent
pub kept_insert : (links : PlainLinks) (parent tag index : ℕ) (children : List ℕ) → KeepsParents links → IsSome (get links.views tag) → linked_children links parent ≡ Some children
    → linked_parent links tag ≡ None
    → KeepsParents (with_parent tag (Some parent) (with_linked_children parent (λ tags. list.insert tags index tag) links))
kept_insert links parent tag index children k present is loose =
    kept_moved links parent tag (λ tags. list.insert tags index tag) (Some parent) children k present is
    (λ t other. one_more t tag (times t children) (times t (list.insert children index tag)) other (sum_by-insert (λ y. cond (nat_eq t y) 1 0) children index tag))
    (λ p. split_times tag p parent (list.insert children index tag) (children_listed links p)
    ∙ inserted_once tag p parent (times tag children) (times tag (list.insert children index tag)) (times tag (children_listed links p))
    (sum_by-insert (λ y. cond (nat_eq tag y) 1 0) children index tag) (ap (λ o. times tag (unwrap_or o [])) (sym is) ∙ nowhere parent) (nowhere p))
  where
    nowhere : (p : ℕ) → times tag (children_listed links p) ≡ 0
    nowhere p = k.standing p tag ∙ ap (λ o. wanted o p) loose

wanted_there : (own : Option ℕ) (parent : ℕ) → 0 < wanted own parent → own ≡ Some parent
wanted_there None parent h = absurd (omega (arith, h))
wanted_there (Some q) parent h = ap Some (one_number q parent h)
  where
    one_number : (a b : ℕ) → 0 < cond (nat_eq a b) 1 0 → a ≡ b
    one_number a b h = grind (arith, nat_tests)

listed_there : (children : List ℕ) (index tag : ℕ) → slice_get children index ≡ Some tag → (t : ℕ)
    → times t (list.remove children index) + cond (nat_eq t tag) 1 0 ≡ times t children
listed_there children index tag h t =
    ap (λ x. times t (list.remove children index) + cond (nat_eq t x) 1 0) (sym (get_or_from_slice_get children index tag 0 h))
    ∙ sum_by-remove (λ y. cond (nat_eq t y) 1 0) children index 0 (slice_get_within children index tag h)

-- a tag that stands among the children of a parent has that parent
pub parent_of_child : (links : PlainLinks) (parent tag index : ℕ) (children : List ℕ) → KeepsParents links → linked_children links parent ≡ Some children
    → slice_get children index ≡ Some tag → linked_parent links tag ≡ Some parent
parent_of_child links parent tag index children k is h =
    wanted_there (linked_parent links tag) parent
    (above_none tag (times tag (list.remove children index)) (times tag children) (wanted (linked_parent links tag) parent) (listed_there children index tag h tag)
    (ap (λ o. times tag (unwrap_or o [])) (sym is) ∙ k.standing parent tag))
  where
    above_none : (t a b w : ℕ) → a + cond (nat_eq t t) 1 0 ≡ b → b ≡ w → 0 < w
    above_none t a b w e f = grind (arith, nat_tests)

there_by_parent : (o : Option PlainLinkedView) (parent : ℕ) → kept_parent o ≡ Some parent → IsSome o
there_by_parent None parent e = cc
there_by_parent (Some v) parent e = refl

-- after a remove of the tag that stands there
pub kept_remove : (links : PlainLinks) (parent tag index : ℕ) (children : List ℕ) → KeepsParents links → linked_children links parent ≡ Some children
    → slice_get children index ≡ Some tag
    → KeepsParents (with_parent tag None (with_linked_children parent (λ tags. list.remove tags index) links))
kept_remove links parent tag index children k is h =
    let own = parent_of_child links parent tag index children k is h in
    kept_moved links parent tag (λ tags. list.remove tags index) None children k (there_by_parent (get links.views tag) parent own) is
    (λ t other. one_less t tag (times t children) (times t (list.remove children index)) other (listed_there children index tag h t))
    (λ p. split_times tag p parent (list.remove children index) (children_listed links p)
    ∙ removed_once tag p parent (times tag children) (times tag (list.remove children index)) (times tag (children_listed links p)) (listed_there children index tag h tag)
    (ap (λ o. times tag (unwrap_or o [])) (sym is) ∙ k.standing parent tag ∙ ap (λ o. wanted o parent) own) (k.standing p tag ∙ ap (λ o. wanted o p) own))
  where
    one_less : (t tag n m : ℕ) → (t ≡ tag → ⊥) → m + cond (nat_eq t tag) 1 0 ≡ n → m ≡ n
    one_less t tag n m h e = grind (arith, nat_tests)
