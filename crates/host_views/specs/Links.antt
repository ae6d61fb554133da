-- Views with their links: each with its children and its parent.
use Rattle.std.specs.Prelude.{◌≡◌, ℕ, List, [], map, Option, Some, None, nat_eq, if◌then◌else◌, count_by}
use Rattle.std.specs.Option.{option_map, option_and_then, option_eq, unwrap_or}
use Rattle.std.specs.Ordering.{nat_cmp}
use Rattle.std.specs.FinMap.{FinMap, get, entries, from_entries}
use Rattle.host_views.specs.declared.HostView.{HostView}
use Rattle.host_views.specs.Registry.{ShownView, PlainRegistry, changed_at}

-- a view, the tag of its parent where it has one, and the tags of its children in their order
pub record PlainLinkedView : Type 0 where
  pub view : HostView
  pub parent : Option ℕ
  pub children : List ℕ

-- the tags of the root's children in their order, and the views by their tags
pub record PlainLinks : Type 0 where
  pub root : List ℕ
  pub views : FinMap nat_cmp PlainLinkedView

-- a view as it is before it has a place: no parent, and no children
abbrev pub unlinked : HostView → PlainLinkedView
unlinked view = record { view = view; parent = None; children = [] }

-- the children of a tag: of 0 those of the root, and else those of its view, where there is one
abbrev pub linked_children : PlainLinks → ℕ → Option (List ℕ)
linked_children links tag = if nat_eq tag 0 then Some links.root else option_map (λ linked. linked.children) (get links.views tag)

-- the parent of a tag, where it has one
abbrev pub linked_parent : PlainLinks → ℕ → Option ℕ
linked_parent links tag = option_and_then (λ linked. linked.parent) (get links.views tag)

-- the links with another view of that tag
abbrev pub with_view : ℕ → HostView → PlainLinks → PlainLinks
with_view tag view links =
    record { root = links.root; views = changed_at tag (λ linked. record { view = view; parent = linked.parent; children = linked.children }) links.views }

-- the links with another parent of that tag
abbrev pub with_parent : ℕ → Option ℕ → PlainLinks → PlainLinks
with_parent tag parent links =
    record { root = links.root; views = changed_at tag (λ linked. record { view = linked.view; parent = parent; children = linked.children }) links.views }

-- the links with a change of the children of that parent
abbrev pub with_linked_children : ℕ → (List ℕ → List ℕ) → PlainLinks → PlainLinks
with_linked_children parent change links =
    if nat_eq parent 0
    then record { root = change links.root; views = links.views }
    else record { root = links.root; views = changed_at parent (λ linked. record { view = linked.view; parent = linked.parent; children = change linked.children }) links.views }

-- what is shown of a view: all but its parent
abbrev pub shown_of : PlainLinkedView → ShownView
shown_of linked = record { view = linked.view; children = linked.children }

-- the registry that the links make: all but the parents
abbrev pub registry_in : PlainLinks → PlainRegistry
registry_in links = record { root = links.root; views = from_entries (map (λ entry. (entry.0, shown_of entry.1)) (entries links.views)) }

-- the parents fit the children: a tag stands once among the children of its parent, and not at all among those of another; and 0 has no view
pub record KeepsParents (links : PlainLinks) : Type 0 where
  pub standing : (parent tag : ℕ)
      → count_by (nat_eq tag) (unwrap_or (linked_children links parent) []) ≡ (if option_eq nat_eq (linked_parent links tag) (Some parent) then 1 else 0)
  pub rooted : get links.views 0 ≡ None
