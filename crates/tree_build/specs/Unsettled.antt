-- A node before it is settled.
use Rattle.std.specs.Prelude.{pos}
use Rattle.shadow_frame.specs.declared.Rect.{Rect}
use Rattle.native_state.specs.State.{start_cell}
use Rattle.shadow_kinds.specs.Traits.{has_state_of}
use Rattle.shadow_node.specs.Fields.{NodeFields, SettledFields}
use Rattle.shadow_node.specs.Frames.{state_when}

-- a frame of zeros
abbrev pub no_frame : Rect
no_frame = record { origin = record { x = pos 0; y = pos 0 }; size = record { width = pos 0; height = pos 0 } }

-- a written node as it is built: with a starting state where its kind has one, and a frame of zeros
abbrev pub unsettled : NodeFields → SettledFields
unsettled fields = record { fields = fields; state = state_when (has_state_of fields.kind) start_cell; frame = no_frame }
