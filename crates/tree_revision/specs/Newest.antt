-- The newest state of a family.
use Rattle.std.specs.Prelude.{ℕ, List, [], ◌∷◌, nat_eq, if◌then◌else◌}
use Rattle.std.specs.List.{flat_map}
use Rattle.native_state.specs.declared.StateCell.{StateCell}
use Rattle.native_state.specs.declared.StateChange.{StateChange}
use Rattle.native_state.specs.State.{newest_cell}
use Rattle.tree_revision.specs.Records.{PlainOp, state, PlainRecord}

-- the change of a family's state that a commit makes, where it makes one
abbrev pub change_of : ℕ → PlainOp → List StateChange
change_of tag (state changed change) = if nat_eq changed tag then change ∷ [] else []
change_of tag _ = []

-- a family's newest state: what its changes, in their order, make of the cell that it began with; no tree is looked at
abbrev pub newest_state : List PlainRecord → ℕ → StateCell
newest_state entries tag = newest_cell (flat_map (λ entry. change_of tag entry.op) entries)
