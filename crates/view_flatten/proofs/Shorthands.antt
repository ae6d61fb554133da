-- Names for parts of the definition of a host tree, by which the proofs speak of them.
use Rattle.std.specs.Prelude.{ℕ, Bool, ◌&&◌, nat_eq}
use Rattle.shadow_kinds.specs.Traits.{forms_view_of}
use Rattle.shadow_node.specs.Shown.{Descendant, is_shown}
use Rattle.view_flatten.specs.HostTree.{host_parent}
pub use Rattle.view_flatten.specs.Sites.{is_context}

-- a node has a view where it forms one and is shown
abbrev pub has_view : Descendant → Bool
has_view here = forms_view_of here.settled.fields.kind here.settled.fields.props && is_shown here

-- a node's view is a child of that host parent
abbrev pub is_child_of : ℕ → Descendant → Bool
is_child_of parent here = nat_eq (host_parent here.above) parent
