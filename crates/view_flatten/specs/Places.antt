-- Where the view of a node stands in a host tree, and of which node a view is.
use Rattle.std.specs.Prelude.{◌≡◌, ℕ, List, Contains, not, ◌&&◌, count_by, int_lt, nat_eq}
use Rattle.shadow_kinds.specs.Axes.{z_order_of}
use Rattle.shadow_node.specs.Shown.{Descendant}
use Rattle.host_views.specs.Plain.{PlainPlacedView, PlainHostTree}
use Rattle.view_flatten.specs.HostTree.{host_parent, view_of}

-- the view of a node, below its host parent at that index
abbrev pub placed_at : ℕ → Descendant → PlainPlacedView
placed_at index here = record { tag = here.settled.fields.tag; parent = host_parent here.above; index = index; view = view_of here }

-- the view of a node stands in a tree below its host parent
abbrev pub HasItsPlace : PlainHostTree → Descendant → Type 0
HasItsPlace tree here = (index : ℕ) × Contains tree (placed_at index here)

-- a view is that of one of these nodes, below its host parent
abbrev pub IsOfOne : List Descendant → PlainPlacedView → Type 0
IsOfOne nodes placed = (here : Descendant) × Contains nodes here × (placed ≡ placed_at placed.index here)

-- of some nodes, how many have a node's host parent and no greater z than it has
abbrev pub count_up_to_z : Descendant → List Descendant → ℕ
count_up_to_z here nodes =
    count_by (λ other. nat_eq (host_parent other.above) (host_parent here.above) && not (int_lt (z_order_of here.settled.fields.props) (z_order_of other.settled.fields.props))) nodes

-- of some nodes, how many have a node's host parent and a lower z than it has
abbrev pub count_below_z : Descendant → List Descendant → ℕ
count_below_z here nodes =
    count_by (λ other. nat_eq (host_parent other.above) (host_parent here.above) && int_lt (z_order_of other.settled.fields.props) (z_order_of here.settled.fields.props)) nodes
