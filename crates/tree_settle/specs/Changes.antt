-- Which nodes settling changes.
use Rattle.std.specs.Prelude.{ℕ, zero, suc, ◌+◌, Bool, true, false, ◌&&◌}
use Rattle.std.specs.Option.{option_eq}
use Rattle.shadow_frame.specs.declared.Size.{Size}
use Rattle.shadow_frame.specs.Same.{is_same_frame}
use Rattle.native_state.specs.declared.StateCell.{StateCell}
use Rattle.native_state.specs.Same.{is_same_cell}
use Rattle.shadow_kinds.specs.Traits.{has_state_of}
use Rattle.shadow_node.specs.Forest.{PlainForest, none, node}
use Rattle.shadow_node.specs.Fields.{SettledFields}
use Rattle.shadow_node.specs.Frames.{frame_in, state_when}

-- a node in a parent of that size has its family's state and its frame already
abbrev pub is_settled : Size → (newest : ℕ → StateCell) → SettledFields → Bool
is_settled parent newest settled =
    option_eq is_same_cell (state_when (has_state_of settled.fields.kind) (newest settled.fields.tag)) settled.state
    && is_same_frame (frame_in parent settled.fields) settled.frame

-- how many nodes of a tree change, where so many below its top node do: that one as well, where it is not settled or one below it changes
abbrev pub changes_with : (is_settled : Bool) → (below : ℕ) → ℕ
changes_with false below = below + 1
changes_with true zero = 0
changes_with true (suc below) = suc below + 1

-- how many nodes of a forest in a parent of that size change
abbrev pub changes_in : Size → (newest : ℕ → StateCell) → PlainForest SettledFields → ℕ
changes_in parent newest none = 0
changes_in parent newest (node settled children siblings) =
    changes_with (is_settled parent newest settled) (changes_in (frame_in parent settled.fields).size newest children)
    + changes_in parent newest siblings
