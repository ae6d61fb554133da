-- When two views are the same, part by part.
use Rattle.std.specs.Prelude.{Bool, ◌&&◌, nat_eq}
use Rattle.std.specs.Cmp.Lexicographic.{pointwise}
use Rattle.std.specs.Option.{option_eq}
use Rattle.shadow_frame.specs.Same.{is_same_frame}
use Rattle.native_state.specs.Same.{is_same_cell}
use Rattle.shadow_kinds.specs.SameProps.{is_same_props}
use Rattle.shadow_kinds.specs.Words.{code_of}
use Rattle.host_views.specs.declared.HostView.{HostView}

-- the same view: its kind, props, label, state and frame
abbrev pub is_same_view : HostView → HostView → Bool
is_same_view a b =
    nat_eq (code_of a.kind) (code_of b.kind) && is_same_props a.props b.props && pointwise nat_eq a.label b.label
    && option_eq is_same_cell a.state b.state && is_same_frame a.frame b.frame
