-- Host trees and mutations as plain data.
use Rattle.std.specs.Prelude.{ℕ, List, nat_eq, filter, map}
use Rattle.host_views.specs.declared.HostView.{HostView}
use Rattle.host_views.specs.declared.PlacedView.{PlacedView}
use Rattle.host_views.specs.declared.HostTree.{HostTree}
use Rattle.host_views.specs.declared.Mutation.{Mutation}
use Rattle.host_views.specs.declared.Mutation.TheVariants.{Create, Delete, Insert, Remove, Update}

-- a view at its place; parent 0 is the root
abbrev pub PlainPlacedView : Type 0
PlainPlacedView = record { tag : ℕ; parent : ℕ; index : ℕ; view : HostView }

-- a host tree: its views in host preorder
abbrev pub PlainHostTree : Type 0
PlainHostTree = List PlainPlacedView

-- the tags of a host tree
abbrev pub host_tags : PlainHostTree → List ℕ
host_tags tree = map (λ placed. placed.tag) tree

-- the tags of a host parent's children, in their order
abbrev pub children_at : PlainHostTree → ℕ → List ℕ
children_at tree parent = host_tags (filter (λ placed. nat_eq placed.parent parent) tree)

-- a change of the platform's views
pub data PlainMutation : Type 0 where
  create update : ℕ → HostView → PlainMutation
  delete : ℕ → PlainMutation
  insert remove : (parent tag index : ℕ) → PlainMutation

-- a placed view without its pointer
abbrev pub plain_placed : PlacedView → PlainPlacedView
plain_placed placed = record { tag = placed.tag; parent = placed.parent; index = placed.index; view = placed.view.value }

-- the views of a tree without their pointers
abbrev pub plain_tree : HostTree → PlainHostTree
plain_tree tree = map plain_placed tree.views

-- a mutation without its pointers
abbrev pub plain_mutation : Mutation → PlainMutation
plain_mutation (Create tag view) = create tag view.value
plain_mutation (Delete tag) = delete tag
plain_mutation (Insert parent tag index) = insert parent tag index
plain_mutation (Remove parent tag index) = remove parent tag index
plain_mutation (Update tag view) = update tag view.value
