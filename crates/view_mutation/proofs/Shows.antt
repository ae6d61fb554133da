-- What a registry shows: the view of each tag, and the children of each parent. And what one mutation makes of it.
use Rattle.std.proofs.Common.{◌≡◌, ◌≢◌, ◌≤◌, ◌⊎◌, inl, inr, ℕ, suc, List, [], ◌∷◌, ◌++◌, length, length-append, take_at, append-nil, le_refl, false, cond, Option, Some, None, is_some, IsSomeAnd, nat_eq, slice_get, arith, refl, ap, sym, ◌∙◌, subst}
use Rattle.std.proofs.lemmas.List.{drop_all}
use Rattle.std.proofs.lemmas.List.Edits.{insert_end}
use Rattle.std.specs.List.{list_any}
use Rattle.std.specs.List as list
use Rattle.std.specs.Option.{option_map, unwrap_or}
use Rattle.std.specs.Ordering.{nat_cmp, is_eq}
use Rattle.std.specs.Cmp.{nat_cmp_total}
use Rattle.std.specs.FinMap.{FinMap, get, get-insert, get-remove}
use Rattle.std.specs.FinMap as table
use Rattle.std.proofs.lemmas.Bool.{cases_eq, eq-eqb, ne_eqb}
use Rattle.std.proofs.lemmas.Bool.Decides.{nat_tests}
use Rattle.host_views.specs.declared.HostView.{HostView}
use Rattle.host_views.specs.Plain.{create, delete, insert, remove, update}
use Rattle.host_views.specs.Registry.{ShownView, PlainRegistry, Fits, after_mutation, changed_at, with_children, children_in, IsNoChild}

-- a function with another value at one place
abbrev pub changed : {X : Type 0} → (ℕ → X) → ℕ → X → ℕ → X
changed f place x q = cond (nat_eq q place) x (f q)

-- a view with its children, where there is one
abbrev pub shown_of : Option HostView → List ℕ → Option ShownView
shown_of None children = None
shown_of (Some view) children = Some (record { view = view; children = children })

-- a registry has these views and these children; no view has the tag 0
pub record Shows (registry : PlainRegistry) (views : ℕ → Option HostView) (children : ℕ → List ℕ) : Type 0 where
  pub none : views 0 ≡ None
  pub root : registry.root ≡ children 0
  pub shown : (tag : ℕ) → get registry.views tag ≡ shown_of (views tag) (children tag)

-- a tag may be a parent: it is the root, or it has a view
abbrev pub IsParent : (ℕ → Option HostView) → ℕ → Type 0
IsParent views parent = (parent ≡ 0) ⊎ ((view : HostView) × (views parent ≡ Some view))

-- the value at the changed place
pub changed_here : {X : Type 0} (f : ℕ → X) (place : ℕ) (x : X) → changed f place x place ≡ x
changed_here f place x = rw (eq-eqb place place refl) refl

-- the values at the other places
pub changed_other : {X : Type 0} (f : ℕ → X) (place : ℕ) (x : X) (q : ℕ) → (q ≡ place → ⊥) → changed f place x q ≡ f q
changed_other f place x q n = rw (ne_eqb q place n) refl

-- a change to what stands there already
pub changed_same : {X : Type 0} (f : ℕ → X) (place : ℕ) (x : X) → f place ≡ x → (q : ℕ) → changed f place x q ≡ f q
changed_same f place x e q =
    elim (cases_eq q place) as (λ c. changed f place x q ≡ f q) [
      | inl here ↦ rw here (changed_here f place x ∙ sym e)
      | inr other ↦ changed_other f place x q other
    ]

-- tags tie exactly where they are equal
pub tie : (q k : ℕ) → is_eq (nat_cmp q k) ≡ nat_eq q k
tie q k = grind (arith, nat_tests)

-- what is got after an insert
pub got_insert : {X : Type 0} (m : FinMap nat_cmp X) (k : ℕ) (v : X) (q : ℕ) → get (table.insert m k v) q ≡ cond (nat_eq q k) (Some v) (get m q)
got_insert m k v q = get-insert nat_cmp_total m k v q ∙ ap (λ b. cond b (Some v) (get m q)) (tie q k)

-- what is got after a remove
pub got_remove : {X : Type 0} (m : FinMap nat_cmp X) (k q : ℕ) → get (table.remove m k) q ≡ cond (nat_eq q k) None (get m q)
got_remove m k q = get-remove nat_cmp_total m k q ∙ ap (λ b. cond b None (get m q)) (tie q k)

-- a change of what stands at a tag is an insert
changed_there : {X : Type 0} (m : FinMap nat_cmp X) (tag : ℕ) (change : X → X) (value : X) → get m tag ≡ Some value
    → changed_at tag change m ≡ table.insert m tag (change value)
changed_there m tag change value e = ap (λ o. unwrap_or (option_map (λ x. table.insert m tag (change x)) o) m) e

-- one view changes, and its children stay
view_changed : (views : ℕ → Option HostView) (children : ℕ → List ℕ) (tag : ℕ) (was is : Option HostView) (q : ℕ)
    → cond (nat_eq q tag) (shown_of is (children tag)) (shown_of (changed views tag was q) (children q)) ≡ shown_of (changed views tag is q) (children q)
view_changed views children tag was is q =
    elim (cases_eq q tag) as (λ c. cond (nat_eq q tag) (shown_of is (children tag)) (shown_of (changed views tag was q) (children q)) ≡ shown_of (changed views tag is q) (children q)) [
      | inl here ↦ rw (here, eq-eqb tag tag refl) refl
      | inr other ↦ rw (ne_eqb q tag other) refl
    ]

-- one list of children changes, and the view stays
children_changed_at : (views : ℕ → Option HostView) (children : ℕ → List ℕ) (parent : ℕ) (was is : List ℕ) (q : ℕ)
    → cond (nat_eq q parent) (shown_of (views parent) is) (shown_of (views q) (changed children parent was q)) ≡ shown_of (views q) (changed children parent is q)
children_changed_at views children parent was is q =
    elim (cases_eq q parent) as (λ c. cond (nat_eq q parent) (shown_of (views parent) is) (shown_of (views q) (changed children parent was q)) ≡ shown_of (views q) (changed children parent is q)) [
      | inl here ↦ rw (here, eq-eqb parent parent refl) refl
      | inr other ↦ rw (ne_eqb q parent other) refl
    ]

-- a change at another tag than 0 leaves 0 without a view
none_at_zero : (views : ℕ → Option HostView) (tag : ℕ) (was is : Option HostView) → 1 ≤ tag → changed views tag was 0 ≡ None → changed views tag is 0 ≡ None
none_at_zero views tag was is low e =
    let other : 0 ≡ tag → ⊥ = λ z. omega arith in
    changed_other views tag is 0 other ∙ sym (changed_other views tag was 0 other) ∙ e

-- what is got at a tag whose view is known
got_here : (registry : PlainRegistry) (views : ℕ → Option HostView) (children : ℕ → List ℕ) (tag : ℕ) (was : Option HostView)
    → Shows registry (changed views tag was) children → get registry.views tag ≡ shown_of was (children tag)
got_here registry views children tag was s = s.shown tag ∙ ap (λ o. shown_of o (children tag)) (changed_here views tag was)

-- a create of a tag that has no view
pub created : (registry : PlainRegistry) (views : ℕ → Option HostView) (children : ℕ → List ℕ) (tag : ℕ) (view : HostView)
    → 1 ≤ tag → children tag ≡ [] → Shows registry (changed views tag None) children
    → Fits registry (create tag view) × Shows (after_mutation (create tag view) registry) (changed views tag (Some view)) children
created registry views children tag view low bare s = (
  (λ e. omega arith, ap is_some (got_here registry views children tag None s)),
  record {
    none = none_at_zero views tag None (Some view) low s.none;
    root = s.root;
    shown = λ q.
        got_insert registry.views tag (record { view = view; children = [] }) q
        ∙ ap (λ kids. cond (nat_eq q tag) (Some (record { view = view; children = kids })) (get registry.views q)) (sym bare)
        ∙ ap (cond (nat_eq q tag) (shown_of (Some view) (children tag))) (s.shown q)
        ∙ view_changed views children tag None (Some view) q;
  },
)

-- what stands in an option that is known
some_and : {X : Type 0} (o : Option X) (x : X) (P : X → Type 0) → o ≡ Some x → P x → IsSomeAnd o P
some_and o x P e p = subst (λ o. IsSomeAnd o P) (sym e) p

-- a tag that is in no list of children is no child
pub no_child : (registry : PlainRegistry) (views : ℕ → Option HostView) (children : ℕ → List ℕ) (tag : ℕ) → Shows registry views children
    → ((q : ℕ) → list_any (nat_eq tag) (children q) ≡ false) → IsNoChild registry tag
no_child registry views children tag s apart parent =
    let below : (o : Option HostView) (kids : List ℕ) → list_any (nat_eq tag) kids ≡ false → list_any (nat_eq tag) (unwrap_or (option_map (λ shown. shown.children) (shown_of o kids)) []) ≡ false =
    elim [ None ↦ λ kids e. refl | Some view ↦ λ kids e. e ] in
    elim (cases_eq parent 0) as (λ c. list_any (nat_eq tag) (unwrap_or (children_in registry parent) []) ≡ false) [
      | inl root ↦ rw (root, s.root) (apart 0)
      | inr other ↦ rw (ne_eqb parent 0 other, s.shown parent) (below (views parent) (children parent) (apart parent))
    ]

-- a delete of a tag that is no one's child and has no children
pub deleted : (registry : PlainRegistry) (views : ℕ → Option HostView) (children : ℕ → List ℕ) (tag : ℕ) (view : HostView)
    → 1 ≤ tag → children tag ≡ [] → ((q : ℕ) → list_any (nat_eq tag) (children q) ≡ false) → Shows registry (changed views tag (Some view)) children
    → Fits registry (delete tag) × Shows (after_mutation (delete tag) registry) (changed views tag None) children
deleted registry views children tag view low bare apart s = (
  (some_and _ _ (λ shown. shown.children ≡ []) (got_here registry views children tag (Some view) s) bare, no_child registry (changed views tag (Some view)) children tag s apart),
  record {
    none = none_at_zero views tag (Some view) None low s.none;
    root = s.root;
    shown = λ q.
        got_remove registry.views tag q
        ∙ ap (cond (nat_eq q tag) None) (s.shown q)
        ∙ view_changed views children tag (Some view) None q;
  },
)

-- an update of a tag to a view of one kind with its own
pub updated : (registry : PlainRegistry) (views : ℕ → Option HostView) (children : ℕ → List ℕ) (tag : ℕ) (was view : HostView)
    → 1 ≤ tag → was.kind ≡ view.kind → Shows registry (changed views tag (Some was)) children
    → Fits registry (update tag view) × Shows (after_mutation (update tag view) registry) (changed views tag (Some view)) children
updated registry views children tag was view low kind s =
    let here = got_here registry views children tag (Some was) s in (
      some_and _ _ (λ shown. shown.view.kind ≡ view.kind) here kind,
      record {
        none = none_at_zero views tag (Some was) (Some view) low s.none;
        root = s.root;
        shown = λ q.
            ap (λ m. get m q) (changed_there registry.views tag (λ shown. record { view = view; children = shown.children }) _ here)
            ∙ got_insert registry.views tag (record { view = view; children = children tag }) q
            ∙ ap (cond (nat_eq q tag) (shown_of (Some view) (children tag))) (s.shown q)
            ∙ view_changed views children tag (Some was) (Some view) q;
      },
    )

-- a tag that has a view is not the root
not_root : (registry : PlainRegistry) (views : ℕ → Option HostView) (children : ℕ → List ℕ) (parent : ℕ) (view : HostView)
    → Shows registry views children → views parent ≡ Some view → parent ≡ 0 → ⊥
not_root registry views children parent view s e z = let none : views 0 ≡ None = s.none in cc

-- what is got at a tag that has a view, and whose children are known
got_parent : (registry : PlainRegistry) (views : ℕ → Option HostView) (children : ℕ → List ℕ) (parent : ℕ) (kids : List ℕ) (view : HostView)
    → Shows registry views (changed children parent kids) → views parent ≡ Some view → get registry.views parent ≡ Some (record { view = view; children = kids })
got_parent registry views children parent kids view s e =
    s.shown parent ∙ ap (λ o. shown_of o (changed children parent kids parent)) e ∙ ap (λ k. Some (record { view = view; children = k })) (changed_here children parent kids)

-- the children of what may be a parent
pub children_known : (registry : PlainRegistry) (views : ℕ → Option HostView) (children : ℕ → List ℕ) (parent : ℕ) (kids : List ℕ)
    → IsParent views parent → Shows registry views (changed children parent kids) → children_in registry parent ≡ Some kids
children_known registry views children parent kids h s =
    elim h as (λ c. children_in registry parent ≡ Some kids) [
      | inl root ↦ rw root (ap Some (s.root ∙ ap (changed children parent kids) (sym root) ∙ changed_here children parent kids))
      | inr there ↦
          let other : parent ≡ 0 → ⊥ = not_root registry views (changed children parent kids) parent there.0 s there.1 in
          rw (ne_eqb parent 0 other, got_parent registry views children parent kids there.0 s there.1) refl
    ]

-- the root's children change
root_changed : (registry : PlainRegistry) (views : ℕ → Option HostView) (children : ℕ → List ℕ) (was is : List ℕ) (change : List ℕ → List ℕ)
    → change was ≡ is → Shows registry views (changed children 0 was) → Shows (record { root = change registry.root; views = registry.views }) views (changed children 0 is)
root_changed registry views children was is change e s = record {
  none = s.none;
  root = ap change s.root ∙ e;
  shown = λ q.
      elim (cases_eq q 0) as (λ c. get registry.views q ≡ shown_of (views q) (changed children 0 is q)) [
        | inl here ↦
            let bare : views q ≡ None = ap views here ∙ s.none in
            s.shown q ∙ ap (λ o. shown_of o (changed children 0 was q)) bare ∙ sym (ap (λ o. shown_of o (changed children 0 is q)) bare)
        | inr other ↦ s.shown q ∙ ap (shown_of (views q)) (changed_other children 0 was q other ∙ sym (changed_other children 0 is q other))
      ];
}

-- the children of a view change
below_changed : (registry : PlainRegistry) (views : ℕ → Option HostView) (children : ℕ → List ℕ) (parent : ℕ) (was is : List ℕ) (change : List ℕ → List ℕ) (view : HostView)
    → change was ≡ is → views parent ≡ Some view → Shows registry views (changed children parent was)
    → Shows (record { root = registry.root; views = changed_at parent (λ shown. record { view = shown.view; children = change shown.children }) registry.views }) views (changed children parent is)
below_changed registry views children parent was is change view e there s =
    let other : 0 ≡ parent → ⊥ = λ z. not_root registry views (changed children parent was) parent view s there (sym z) in
    record {
      none = s.none;
      root = s.root ∙ changed_other children parent was 0 other ∙ sym (changed_other children parent is 0 other);
      shown = λ q.
          ap (λ m. get m q) (changed_there registry.views parent (λ shown. record { view = shown.view; children = change shown.children }) (record { view = view; children = was }) (got_parent registry views children parent was view s there))
          ∙ got_insert registry.views parent (record { view = view; children = change was }) q
          ∙ ap (λ kids. cond (nat_eq q parent) (Some (record { view = view; children = kids })) (get registry.views q)) e
          ∙ ap (cond (nat_eq q parent) (Some (record { view = view; children = is }))) (s.shown q)
          ∙ ap (λ o. cond (nat_eq q parent) (shown_of o is) (shown_of (views q) (changed children parent was q))) (sym there)
          ∙ children_changed_at views children parent was is q;
    }

-- the children of what may be a parent change
pub parent_changed : (registry : PlainRegistry) (views : ℕ → Option HostView) (children : ℕ → List ℕ) (parent : ℕ) (was is : List ℕ) (change : List ℕ → List ℕ)
    → IsParent views parent → change was ≡ is → Shows registry views (changed children parent was) → Shows (with_children parent change registry) views (changed children parent is)
parent_changed registry views children parent was is change h e s =
    elim h as (λ c. Shows (with_children parent change registry) views (changed children parent is)) [
      | inl root ↦
          subst (λ p. Shows registry views (changed children p was) → Shows (with_children p change registry) views (changed children p is)) (sym root)
          (root_changed registry views children was is change e) s
      | inr there ↦
          let other : parent ≡ 0 → ⊥ = not_root registry views (changed children parent was) parent there.0 s there.1 in
          rw (ne_eqb parent 0 other) (below_changed registry views children parent was is change there.0 e there.1 s)
    ]

-- the last of a list
last_of : (front : List ℕ) (tag : ℕ) → slice_get (front ++ tag ∷ []) (length front) ≡ Some tag
last_of [] tag = refl
last_of (x ∷ front) tag = last_of front tag

-- a list without its last
without_last : (front : List ℕ) (tag : ℕ) → list.remove (front ++ tag ∷ []) (length front) ≡ front
without_last front tag =
    let past : length (front ++ tag ∷ []) ≤ suc (length front) = omega (arith, length-append front (tag ∷ [])) in
    rw (take_at front (tag ∷ []) (length front) refl, drop_all (suc (length front)) (front ++ tag ∷ []) past) (append-nil front)

-- a remove of the last child
pub removed : (registry : PlainRegistry) (views : ℕ → Option HostView) (children : ℕ → List ℕ) (parent tag : ℕ) (front : List ℕ)
    → IsParent views parent → Shows registry views (changed children parent (front ++ tag ∷ []))
    → Fits registry (remove parent tag (length front)) × Shows (after_mutation (remove parent tag (length front)) registry) views (changed children parent front)
removed registry views children parent tag front h s = (
  some_and _ _ (λ kids. slice_get kids (length front) ≡ Some tag) (children_known registry views children parent (front ++ tag ∷ []) h s) (last_of front tag),
  parent_changed registry views children parent (front ++ tag ∷ []) front (λ kids. list.remove kids (length front)) h (without_last front tag) s,
)

-- an insert of a tag that has a view and is no one's child, after the last child
pub inserted : (registry : PlainRegistry) (views : ℕ → Option HostView) (children : ℕ → List ℕ) (parent tag : ℕ) (front : List ℕ) (view : HostView)
    → IsParent views parent → views tag ≡ Some view → tag ≢ parent → ((q : ℕ) → list_any (nat_eq tag) (changed children parent front q) ≡ false)
    → Shows registry views (changed children parent front)
    → Fits registry (insert parent tag (length front)) × Shows (after_mutation (insert parent tag (length front)) registry) views (changed children parent (front ++ tag ∷ []))
inserted registry views children parent tag front view h there other apart s = (
  (
    some_and _ _ (λ kids. length front ≤ length kids) (children_known registry views children parent front h s) (le_refl (length front)),
    ap is_some (s.shown tag ∙ ap (λ o. shown_of o (changed children parent front tag)) there),
    other,
    no_child registry views (changed children parent front) tag s apart,
  ),
  parent_changed registry views children parent front (front ++ tag ∷ []) (λ kids. list.insert kids (length front) tag) h (insert_end front tag) s,
)
