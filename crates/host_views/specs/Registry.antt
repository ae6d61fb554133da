-- The registry of a platform's views: what it has, when a mutation fits it, and what a mutation makes of it.
use Rattle.std.specs.Prelude.{◌≡◌, ◌≢◌, ◌≤◌, ℕ, List, [], ◌∷◌, length, map, false, Option, Some, IsSome, IsSomeAnd, IsNone, nat_eq, if◌then◌else◌, slice_get, ⊤}
use Rattle.std.specs.Option.{option_map, unwrap_or}
use Rattle.std.specs.List.{list_any}
use Rattle.std.specs.List as list
use Rattle.std.specs.Ordering.{nat_cmp}
use Rattle.std.specs.FinMap.{FinMap, get, from_entries}
use Rattle.std.specs.FinMap as table
use Rattle.host_views.specs.declared.HostView.{HostView}
use Rattle.host_views.specs.Plain.{PlainHostTree, PlainMutation, create, delete, insert, remove, update, children_at}

-- a view, and the tags of its children in their order
pub record ShownView : Type 0 where
  pub view : HostView
  pub children : List ℕ

-- the tags of the root's children in their order, and the views by their tags; 0 is the root and has no view
pub record PlainRegistry : Type 0 where
  pub root : List ℕ
  pub views : FinMap nat_cmp ShownView

-- the children of a tag: of 0 those of the root, and else those of its view, where there is one
abbrev pub children_in : PlainRegistry → ℕ → Option (List ℕ)
children_in registry tag = if nat_eq tag 0 then Some registry.root else option_map (λ shown. shown.children) (get registry.views tag)

-- no parent has that tag among its children
abbrev pub IsNoChild : PlainRegistry → ℕ → Type 0
IsNoChild registry tag = (parent : ℕ) → list_any (nat_eq tag) (unwrap_or (children_in registry parent) []) ≡ false

-- when a mutation may be applied: a create, where its tag is neither 0 nor present; a delete, where its tag is present, no one's child and without children;
-- an insert, where its parent is 0 or present, its tag is present, differs from the parent and is no one's child, and its index is at most the number of children;
-- a remove, where its parent is 0 or present, and its tag stands at its index of the children; an update, where its tag is present and its kind is the same
abbrev pub Fits : PlainRegistry → PlainMutation → Type 0
Fits registry (create tag view) = (tag ≢ 0) × IsNone (get registry.views tag)
Fits registry (delete tag) = IsSomeAnd (get registry.views tag) (λ shown. shown.children ≡ []) × IsNoChild registry tag
Fits registry (insert parent tag index) =
    IsSomeAnd (children_in registry parent) (λ children. index ≤ length children) × IsSome (get registry.views tag) × (tag ≢ parent) × IsNoChild registry tag
Fits registry (remove parent tag index) = IsSomeAnd (children_in registry parent) (λ children. slice_get children index ≡ Some tag)
Fits registry (update tag view) = IsSomeAnd (get registry.views tag) (λ shown. shown.view.kind ≡ view.kind)

-- a map with a change of what stands at that tag, where something does
abbrev pub changed_at : {X : Type 0} → ℕ → (X → X) → FinMap nat_cmp X → FinMap nat_cmp X
changed_at tag change values = unwrap_or (option_map (λ value. table.insert values tag (change value)) (get values tag)) values

-- the registry with a change of the children of that parent
abbrev pub with_children : ℕ → (List ℕ → List ℕ) → PlainRegistry → PlainRegistry
with_children parent change registry =
    if nat_eq parent 0 then record registry { root = change registry.root }
    else record registry { views = changed_at parent (λ shown. record shown { children = change shown.children }) registry.views }

-- the registry after a mutation: what the mutation names is changed, and nothing else
abbrev pub after_mutation : PlainMutation → PlainRegistry → PlainRegistry
after_mutation (create tag view) registry = record registry { views = table.insert registry.views tag (record { view = view; children = [] }) }
after_mutation (delete tag) registry = record registry { views = table.remove registry.views tag }
after_mutation (insert parent tag index) registry = with_children parent (λ children. list.insert children index tag) registry
after_mutation (remove parent tag index) registry = with_children parent (λ children. list.remove children index) registry
after_mutation (update tag view) registry = record registry { views = changed_at tag (λ shown. record shown { view = view }) registry.views }

-- the mutations may be applied one after the other: each fits when its turn comes
abbrev pub MayApply : List PlainMutation → PlainRegistry → Type 0
MayApply [] registry = ⊤
MayApply (mutation ∷ mutations) registry = Fits registry mutation × MayApply mutations (after_mutation mutation registry)

-- the registry after these mutations, one after the other
abbrev pub mutated : List PlainMutation → PlainRegistry → PlainRegistry
mutated [] registry = registry
mutated (mutation ∷ mutations) registry = mutated mutations (after_mutation mutation registry)

-- a host tree as a registry: each view by its tag, with the tags of its children
abbrev pub registry_of : PlainHostTree → PlainRegistry
registry_of tree =
    record { root = children_at tree 0; views = from_entries (map (λ placed. (placed.tag, record { view = placed.view; children = children_at tree placed.tag })) tree) }
