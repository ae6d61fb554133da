-- Native state: how a change moves a cell.
use Rattle.std.specs.Prelude.{ℤ, pos, negsuc, ◌+◌, ◌+ℤ◌, ◌==◌, List, [], ◌∷◌, Result, Ok, Err, if◌then◌else◌}
use Rattle.std.specs.Int.{int_max, int_min}
use Rattle.shadow_frame.specs.declared.Point.{Point}
use Rattle.native_state.specs.declared.StateCell.{StateCell}
use Rattle.native_state.specs.declared.Stale.{Stale}
use Rattle.native_state.specs.declared.StateChange.{StateChange}
use Rattle.native_state.specs.declared.StateChange.TheVariants.{Set, Add, SetIf}

-- a coordinate within -1,000,000 to 1,000,000
abbrev pub clamped : ℤ → ℤ
clamped x = int_max (negsuc 999999) (int_min (pos 1000000) x)

-- the point that a change leads to
abbrev pub point_after : StateChange → Point → Point
point_after (Set point) before = record { x = clamped point.x; y = clamped point.y }
point_after (Add by) before = record { x = clamped (before.x +ℤ by.x); y = clamped (before.y +ℤ by.y) }
point_after (SetIf count point) before = record { x = clamped point.x; y = clamped point.y }

-- the cell after one more change
abbrev pub cell_after : StateChange → StateCell → StateCell
cell_after change before = record { count = before.count + 1; point = point_after change before.point }

-- the cell of a family that never changed
abbrev pub start_cell : StateCell
start_cell = record { count = 0; point = record { x = pos 0; y = pos 0 } }

-- the answer to a change: the cell after it, or what the cell's count is where a SetIf names another count
abbrev pub applied : StateChange → StateCell → Result StateCell Stale
applied (Set point) cell = Ok (cell_after (Set point) cell)
applied (Add by) cell = Ok (cell_after (Add by) cell)
applied (SetIf count point) cell = if count == cell.count then Ok (cell_after (SetIf count point) cell) else Err (record { count = cell.count })

-- the cell after a list of changes, in their order
abbrev pub cell_from : StateCell → List StateChange → StateCell
cell_from cell [] = cell
cell_from cell (change ∷ changes) = cell_from (cell_after change cell) changes

-- a family's newest state: what its changes make of the cell that it began with; no tree is looked at
abbrev pub newest_cell : List StateChange → StateCell
newest_cell changes = cell_from start_cell changes
