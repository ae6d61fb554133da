-- The host tree of a forest: which nodes have a view, and where it stands.
use Rattle.std.specs.Prelude.{ℕ, zero, suc, ◌+◌, ◌+ℤ◌, List, [], ◌∷◌, length, ◌&&◌, nat_eq, int_lt, if◌then◌else◌, filter}
use Rattle.std.specs.List.{flat_map}
use Rattle.shadow_frame.specs.declared.Point.{Point}
use Rattle.shadow_kinds.specs.Axes.{z_order_of}
use Rattle.shadow_kinds.specs.Traits.{forms_context_of, forms_view_of}
use Rattle.shadow_node.specs.Forest.{PlainForest}
use Rattle.shadow_node.specs.Fields.{SettledFields}
use Rattle.shadow_node.specs.Shown.{Descendant, descendants, is_shown}
use Rattle.host_views.specs.declared.HostView.{HostView}
use Rattle.host_views.specs.Plain.{PlainHostTree}

-- the host parent below some ancestors, the nearest first: the nearest one that forms a context, at last the root, 0
abbrev pub host_parent : List SettledFields → ℕ
host_parent [] = 0
host_parent (parent ∷ above) = if forms_context_of parent.fields.kind parent.fields.props then parent.fields.tag else host_parent above

-- one place moved by another
abbrev pub moved : Point → Point → Point
moved a b = record { x = a.x +ℤ b.x; y = a.y +ℤ b.y }

-- where a node begins in its host parent: the sum of the frame origins of the node and of its ancestors below that parent
abbrev pub host_origin : SettledFields → List SettledFields → Point
host_origin settled [] = settled.frame.origin
host_origin settled (parent ∷ above) =
    if forms_context_of parent.fields.kind parent.fields.props then settled.frame.origin else moved (host_origin parent above) settled.frame.origin

-- the view of a node
abbrev pub view_of : Descendant → HostView
view_of here =
    let fields = here.settled.fields in let frame = record here.settled.frame { origin = host_origin here.settled here.above } in
    record { kind = fields.kind; props = fields.props; label = fields.label; state = here.settled.state; frame = frame }

-- the nodes of a forest that have a view, in preorder: those that form one and are shown
abbrev pub viewed : PlainForest SettledFields → List Descendant
viewed forest = filter (λ here. forms_view_of here.settled.fields.kind here.settled.fields.props && is_shown here) (descendants forest)

-- a node among others that go by z: before the first with a greater or an equal z, since it comes before them in preorder
abbrev pub put_by_z : Descendant → List Descendant → List Descendant
put_by_z here [] = here ∷ []
put_by_z here (other ∷ others) =
    if int_lt (z_order_of other.settled.fields.props) (z_order_of here.settled.fields.props) then other ∷ put_by_z here others else here ∷ other ∷ others

-- nodes ordered by z, and where z is equal as they stand
abbrev pub by_z : List Descendant → List Descendant
by_z [] = []
by_z (here ∷ others) = put_by_z here (by_z others)

-- nodes as children of a host parent, from that index on
abbrev pub placed_from : (parent index : ℕ) → List Descendant → PlainHostTree
placed_from parent index [] = []
placed_from parent index (here ∷ others) =
    record { tag = here.settled.fields.tag; parent = parent; index = index; view = view_of here } ∷ placed_from parent (index + 1) others

-- of nodes that have a view, the children of a host parent, in their order
abbrev pub placed_below : List Descendant → ℕ → PlainHostTree
placed_below nodes parent = placed_from parent 0 (by_z (filter (λ here. nat_eq (host_parent here.above) parent) nodes))

-- the views below a host parent, down to so many levels: each child, and then those below it
abbrev pub views_below : (levels : ℕ) → List Descendant → ℕ → PlainHostTree
views_below zero nodes parent = []
views_below (suc levels) nodes parent = flat_map (λ placed. placed ∷ views_below levels nodes placed.tag) (placed_below nodes parent)

-- the host tree of a forest, in host preorder: the views below the root; there are at most as many levels as views
abbrev pub host_tree_of : PlainForest SettledFields → PlainHostTree
host_tree_of forest = views_below (length (viewed forest)) (viewed forest) 0
