-- What each mutation does to views with their links: the parents still fit, and what is shown is the registry after it.
use Rattle.std.proofs.Common.{◌≡◌, ℕ, List, [], length, ◌≤◌, true, false, cond, Option, None, Some, is_some, IsSomeAnd, refl, ap, sym, ◌∙◌, subst}
use Rattle.std.specs.Prelude.{nat_eq, slice_get}
use Rattle.std.specs.List as list
use Rattle.std.specs.Option.{option_map}
use Rattle.std.specs.FinMap.{get}
use Rattle.std.specs.FinMap as table
use Rattle.host_views.specs.declared.HostView.{HostView}
use Rattle.host_views.specs.Plain.{create, delete, insert, remove, update}
use Rattle.host_views.specs.Registry.{Fits, after_mutation, changed_at, children_in, with_children}
use Rattle.host_views.specs.Links.{PlainLinkedView, PlainLinks, KeepsParents, linked_children, registry_in, shown_of, unlinked, with_linked_children, with_parent, with_view}
use Rattle.host_views.proofs.AtOneTag.{children_changed}
use Rattle.host_views.proofs.Shown.{get_shown, shown_children, shown_insert, shown_remove, shown_change, shown_alike}
use Rattle.host_views.proofs.Parents.{children_by, kept_children, kept_create, kept_delete, kept_insert, kept_remove, none_from_no_child_of, parent_changed}

-- a view is shown exactly where there is one
some_shown : (o : Option PlainLinkedView) → is_some (option_map shown_of o) ≡ is_some o
some_shown None = refl
some_shown (Some v) = refl

pub is_some_shown : (links : PlainLinks) (tag : ℕ) → is_some (get (registry_in links).views tag) ≡ is_some (get links.views tag)
is_some_shown links tag = ap is_some (get_shown links.views tag) ∙ some_shown (get links.views tag)

missing : (o : Option PlainLinkedView) → is_some o ≡ false → o ≡ None
missing None h = refl
missing (Some x) h = cc

pub create_kept : (links : PlainLinks) (tag : ℕ) (view : HostView) → KeepsParents links → Fits (registry_in links) (create tag view)
    → KeepsParents (record { root = links.root; views = table.insert links.views tag (unlinked view) })
create_kept links tag view k h = kept_create links.root links.views tag view k h.0 (missing (get links.views tag) (sym (is_some_shown links tag) ∙ h.1))

pub create_shown : (links : PlainLinks) (tag : ℕ) (view : HostView)
    → registry_in (record { root = links.root; views = table.insert links.views tag (unlinked view) }) ≡ after_mutation (create tag view) (registry_in links)
create_shown links tag view = λ i. record { root = links.root; views = shown_insert links.views tag (unlinked view) i }

bare : (o : Option PlainLinkedView) → IsSomeAnd (option_map shown_of o) (λ shown. shown.children ≡ []) → kept_children o ≡ []
bare None h = absurd h
bare (Some v) h = h

pub delete_kept : (links : PlainLinks) (tag : ℕ) → KeepsParents links → Fits (registry_in links) (delete tag) → KeepsParents (record { root = links.root; views = table.remove links.views tag })
delete_kept links tag k h =
    kept_delete links.root links.views tag k (bare (get links.views tag) (subst (λ o. IsSomeAnd o (λ shown. shown.children ≡ [])) (get_shown links.views tag) h.0))
    (none_from_no_child_of links tag k h.1)

pub delete_shown : (links : PlainLinks) (tag : ℕ) → registry_in (record { root = links.root; views = table.remove links.views tag }) ≡ after_mutation (delete tag) (registry_in links)
delete_shown links tag = λ i. record { root = links.root; views = shown_remove links.views tag i }

-- what is said of the children that are shown is said of those of the links
pub of_shown_children : (P : List ℕ → Type 0) (links : PlainLinks) (parent : ℕ) → IsSomeAnd (children_in (registry_in links) parent) P → IsSomeAnd (linked_children links parent) P
of_shown_children P links parent h = subst (λ o. IsSomeAnd o P) (shown_children links parent) h

the_children : (P : List ℕ → Type 0) (o : Option (List ℕ)) → IsSomeAnd o P → (children : List ℕ) × (o ≡ Some children) × P children
the_children P None h = absurd h
the_children P (Some children) h = (children, refl, h)

pub insert_kept : (links : PlainLinks) (parent tag index : ℕ) → KeepsParents links → Fits (registry_in links) (insert parent tag index)
    → KeepsParents (with_parent tag (Some parent) (with_linked_children parent (λ tags. list.insert tags index tag) links))
insert_kept links parent tag index k h =
    let found = the_children (λ children. index ≤ length children) (linked_children links parent) (of_shown_children (λ children. index ≤ length children) links parent h.0) in
    kept_insert links parent tag index found.0 k (sym (is_some_shown links tag) ∙ h.1) found.1 (none_from_no_child_of links tag k h.3)

pub remove_kept : (links : PlainLinks) (parent tag index : ℕ) → KeepsParents links → Fits (registry_in links) (remove parent tag index)
    → KeepsParents (with_parent tag None (with_linked_children parent (λ tags. list.remove tags index) links))
remove_kept links parent tag index k h =
    let found = the_children (λ children. slice_get children index ≡ Some tag) (linked_children links parent)
    (of_shown_children (λ children. slice_get children index ≡ Some tag) links parent h) in
    kept_remove links parent tag index found.0 k found.1 found.2

-- a change of children is shown
children_shown : (links : PlainLinks) (parent : ℕ) (change : List ℕ → List ℕ) → registry_in (with_linked_children parent change links) ≡ with_children parent change (registry_in links)
children_shown links parent change =
    elim (nat_eq parent 0) as (λ b. registry_in (children_by links parent change b)
    ≡ cond b (record { root = change links.root; views = (registry_in links).views })
    (record { root = links.root; views = changed_at parent (λ shown. record { view = shown.view; children = change shown.children }) (registry_in links).views })) [
      | true ↦ refl
      | false ↦ λ i. record {
        root = links.root;
        views = shown_change links.views parent (children_changed change) (λ shown. record { view = shown.view; children = change shown.children }) (λ v. refl) i;
      }
    ]

-- a change of children and of a parent shows the one alone
pub moved_shown : (links : PlainLinks) (parent tag : ℕ) (change : List ℕ → List ℕ) (own : Option ℕ)
    → registry_in (with_parent tag own (with_linked_children parent change links)) ≡ with_children parent change (registry_in links)
moved_shown links parent tag change own =
    let moved = with_linked_children parent change links in
    (λ i. record { root = moved.root; views = shown_alike moved.views tag (parent_changed own) (λ v. refl) i }) ∙ children_shown links parent change

pub update_shown : (links : PlainLinks) (tag : ℕ) (view : HostView) → registry_in (with_view tag view links) ≡ after_mutation (update tag view) (registry_in links)
update_shown links tag view = λ i. record {
  root = links.root;
  views = shown_change links.views tag (λ linked. record { view = view; parent = linked.parent; children = linked.children })
      (λ shown. record { view = view; children = shown.children }) (λ v. refl) i;
}
