-- Mounts of a few views of one kind.
use Rattle.std.proofs.Common.{◌≡◌, inl, inr, ℕ, [], ◌∷◌, ◌≤◌, cond, Some, true, false, nat_eq, refl, ap, sym, ◌∙◌, arith}
use Rattle.std.specs.Prelude.{◌||◌}
use Rattle.std.specs.List.{AllByRecursion, IsDistinct}
use Rattle.std.proofs.lemmas.Bool.{cases_Bool, eq-eqb, false≢true}
use Rattle.std.proofs.lemmas.Option.{same_Some}
use Rattle.shadow_kinds.specs.declared.Kind.{Kind}
use Rattle.host_views.specs.declared.HostView.{HostView}
use Rattle.host_views.specs.HostTree.{IsHostTree, IsPlacedIn, has_tag}
use Rattle.host_views.specs.Plain.{PlainPlacedView, PlainHostTree, create, insert, remove, update}
use Rattle.host_views.specs.Registry.{PlainRegistry, registry_of}
use Rattle.host_views.specs.Same.{is_same_view}
use Rattle.view_mutation.specs.Mutations.{view_at}
use Rattle.view_mutation.specs.Leads.{HaveOneKind}
use Rattle.frame_watch.specs.Mounts.{IsMount}

-- each view of a host tree has that kind
abbrev AreOfKind : Kind → PlainHostTree → Type 0
AreOfKind kind tree = AllByRecursion (λ placed. placed.view.kind ≡ kind) tree

-- so has the view that is found by a tag
kind_at : (kind : Kind) (tree : PlainHostTree) (tag : ℕ) (view : HostView) → AreOfKind kind tree → view_at tree tag ≡ Some view → view.kind ≡ kind
kind_at kind [] tag view kinds found = absurd cc
kind_at kind (x ∷ xs) tag view kinds found =
    elim (cases_Bool (nat_eq x.tag tag)) as (λ c. view.kind ≡ kind) [
      | inl here ↦ ap (λ (v : HostView). v.kind) (sym (same_Some x.view view (ap (λ b. cond b (Some x.view) (view_at xs tag)) (sym here) ∙ found))) ∙ kinds.0
      | inr other ↦ kind_at kind xs tag view kinds.1 (ap (λ b. cond b (Some x.view) (view_at xs tag)) (sym other) ∙ found)
    ]

-- host trees of one kind
one_kind : (kind : Kind) (old new : PlainHostTree) → AreOfKind kind old → AreOfKind kind new → HaveOneKind old new
one_kind kind old new before after tag was is found shown = kind_at kind old tag was before found ∙ sym (kind_at kind new tag is after shown)

-- views 3 and 4 at the root
abbrev pub outer_tree : (three four : HostView) → PlainHostTree
outer_tree three four = (record { tag = 3; parent = 0; index = 0; view = three }) ∷ (record { tag = 4; parent = 0; index = 1; view = four }) ∷ []

-- view 2 at the root, and 3 and 4 in it
abbrev pub inner_tree : (two three four : HostView) → PlainHostTree
inner_tree two three four =
    (record { tag = 2; parent = 0; index = 0; view = two }) ∷ (record { tag = 3; parent = 2; index = 0; view = three })
    ∷ (record { tag = 4; parent = 2; index = 1; view = four }) ∷ []

-- view 7 at the root
abbrev pub lone_tree : HostView → PlainHostTree
lone_tree seven = (record { tag = 7; parent = 0; index = 0; view = seven }) ∷ []

-- a view that stands among others of a tree
placed_in : (tree : PlainHostTree) (placed : PlainPlacedView) → 1 ≤ placed.tag → nat_eq placed.parent placed.tag ≡ false
    → nat_eq placed.parent 0 || has_tag tree placed.parent ≡ true → IsPlacedIn tree placed
placed_in tree placed low apart parent = record { tag = low; other = λ same. absurd (false≢true (sym apart ∙ eq-eqb placed.parent placed.tag same)); parent = parent }

-- the tags of these trees differ
tags_differ : (IsDistinct nat_eq [] × IsDistinct nat_eq (7 ∷ [])) × (IsDistinct nat_eq (3 ∷ 4 ∷ []) × IsDistinct nat_eq (2 ∷ 3 ∷ 4 ∷ []))
unfolding IsDistinct
tags_differ = ((tt, (tt, tt)), (((refl, tt), (tt, tt)), ((refl, (refl, tt)), ((refl, tt), (tt, tt)))))

-- no view makes a host tree
no_tree : IsHostTree []
no_tree = record { tags = tags_differ.0.0; views = tt }

outer_is_tree : (three four : HostView) → IsHostTree (outer_tree three four)
outer_is_tree three four = record {
  tags = tags_differ.1.0;
  views = (placed_in (outer_tree three four) _ (omega arith) refl refl, (placed_in (outer_tree three four) _ (omega arith) refl refl, tt));
}

inner_is_tree : (two three four : HostView) → IsHostTree (inner_tree two three four)
inner_is_tree two three four =
    let tree = inner_tree two three four in
    record {
      tags = tags_differ.1.1;
      views = (placed_in tree _ (omega arith) refl refl, (placed_in tree _ (omega arith) refl refl, (placed_in tree _ (omega arith) refl refl, tt)));
    }

lone_is_tree : (seven : HostView) → IsHostTree (lone_tree seven)
lone_is_tree seven = record { tags = tags_differ.0.1; views = (placed_in (lone_tree seven) _ (omega arith) refl refl, tt) }

-- 3 and 4 come
pub outer_mount : (registry : PlainRegistry) (kind : Kind) (three four : HostView) → registry ≡ registry_of [] → three.kind ≡ kind → four.kind ≡ kind
    → IsMount registry (create 3 three ∷ create 4 four ∷ insert 0 3 0 ∷ insert 0 4 1 ∷ []) [] (outer_tree three four)
outer_mount registry kind three four empty k3 k4 = record {
  old_tree = no_tree;
  new_tree = outer_is_tree three four;
  kinds = one_kind kind [] (outer_tree three four) tt (k3, (k4, tt));
  stands = empty;
  leads = refl;
}

-- 2 comes, and they go into it
pub inner_mount : (registry : PlainRegistry) (kind : Kind) (two three four inner_three inner_four : HostView) → registry ≡ registry_of (outer_tree three four)
    → two.kind ≡ kind → three.kind ≡ kind → four.kind ≡ kind → inner_three.kind ≡ kind → inner_four.kind ≡ kind
    → is_same_view three inner_three ≡ false → is_same_view four inner_four ≡ false
    → IsMount registry
    (remove 0 4 1 ∷ remove 0 3 0 ∷ create 2 two ∷ update 3 inner_three ∷ update 4 inner_four ∷ insert 0 2 0 ∷ insert 2 3 0 ∷ insert 2 4 1 ∷ [])
    (outer_tree three four) (inner_tree two inner_three inner_four)
inner_mount registry kind two three four inner_three inner_four stands k2 k3 k4 i3 i4 other_three other_four = record {
  old_tree = outer_is_tree three four;
  new_tree = inner_is_tree two inner_three inner_four;
  kinds = one_kind kind (outer_tree three four) (inner_tree two inner_three inner_four) (k3, (k4, tt)) (k2, (i3, (i4, tt)));
  stands = stands;
  leads = rw (other_three, other_four) refl;
}

-- 7 comes
pub lone_mount : (registry : PlainRegistry) (kind : Kind) (seven : HostView) → registry ≡ registry_of [] → seven.kind ≡ kind
    → IsMount registry (create 7 seven ∷ insert 0 7 0 ∷ []) [] (lone_tree seven)
lone_mount registry kind seven empty k7 = record {
  old_tree = no_tree;
  new_tree = lone_is_tree seven;
  kinds = one_kind kind [] (lone_tree seven) tt (k7, tt);
  stands = empty;
  leads = refl;
}

-- 7 changes
pub changed_mount : (registry : PlainRegistry) (kind : Kind) (was is : HostView) → registry ≡ registry_of (lone_tree was) → was.kind ≡ kind → is.kind ≡ kind
    → is_same_view was is ≡ false → IsMount registry (update 7 is ∷ []) (lone_tree was) (lone_tree is)
changed_mount registry kind was is stands before after other = record {
  old_tree = lone_is_tree was;
  new_tree = lone_is_tree is;
  kinds = one_kind kind (lone_tree was) (lone_tree is) (before, tt) (after, tt);
  stands = stands;
  leads = rw other refl;
}
