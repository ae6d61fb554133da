-- Coordinates that fit in 64 bits, and the newest states of a history.
use Rattle.std.proofs.Common.{◌≡◌, ℕ, ℤ, pos, negsuc, ◌+◌, ◌≤◌, ◌<◌, ◌^◌, ◌≤ℤ◌, List, [], ◌∷◌, Bool, true, false, cond, nat_eq, length, length-append, arith}
use Rattle.std.specs.List.{flat_map}
use Rattle.std.proofs.lemmas.Int.{ints, clamps}
use Rattle.shadow_frame.specs.declared.Point.{Point}
use Rattle.native_state.specs.declared.StateCell.{StateCell}
use Rattle.native_state.specs.declared.StateChange.{StateChange}
use Rattle.native_state.specs.declared.StateChange.TheVariants.{Set, Add, SetIf}
use Rattle.native_state.specs.State.{point_after, cell_after, start_cell, cell_from}
use Rattle.shadow_node.specs.Frames.{state_when}
use Rattle.tree_revision.specs.Records.{PlainOp, complete, state, props, resize, stop, suspend, resume, PlainRecord}
use Rattle.tree_revision.specs.Newest.{change_of, newest_state}
use Rattle.run_report.specs.Ranges.{IsCoordinate, IsCellInRange, IsStateInRange}

-- a number at most 2^62 away from 0 is a coordinate
pub is_coordinate : (n : ℤ) → negsuc 4611686018427387903 ≤ℤ n → n ≤ℤ pos 4611686018427387904 → IsCoordinate n
is_coordinate (pos n) low high = omega (arith, ints)
is_coordinate (negsuc n) low high = omega (arith, ints)

-- a point that is clamped
record IsClamped (point : Point) : Type 0 where
  x_low : negsuc 999999 ≤ℤ point.x
  x_high : point.x ≤ℤ pos 1000000
  y_low : negsuc 999999 ≤ℤ point.y
  y_high : point.y ≤ℤ pos 1000000

-- each change leads to such a point
after_clamped : (change : StateChange) (before : Point) → IsClamped (point_after change before)
after_clamped (Set point) before = record { x_low = omega (arith, ints, clamps); x_high = omega (arith, ints, clamps); y_low = omega (arith, ints, clamps); y_high = omega (arith, ints, clamps) }
after_clamped (Add by) before = record { x_low = omega (arith, ints, clamps); x_high = omega (arith, ints, clamps); y_low = omega (arith, ints, clamps); y_high = omega (arith, ints, clamps) }
after_clamped (SetIf count point) before = record { x_low = omega (arith, ints, clamps); x_high = omega (arith, ints, clamps); y_low = omega (arith, ints, clamps); y_high = omega (arith, ints, clamps) }

-- and so do some changes
from_clamped : (cell : StateCell) (changes : List StateChange) → IsClamped cell.point → IsClamped (cell_from cell changes).point
from_clamped cell [] h = h
from_clamped cell (change ∷ changes) h = from_clamped (cell_after change cell) changes (after_clamped change cell.point)

-- each of them counts one
from_count : (cell : StateCell) (changes : List StateChange) → (cell_from cell changes).count ≡ cell.count + length changes
from_count cell [] = omega arith
from_count cell (change ∷ changes) = omega (arith, from_count (cell_after change cell) changes)

-- one commit makes one change at most
one_change : (tag : ℕ) (op : PlainOp) → length (change_of tag op) ≤ 1
one_change tag (complete nodes) = omega arith
one_change tag (state changed change) =
    elim (nat_eq changed tag) as (λ b. length (cond b (change ∷ []) []) ≤ 1) [ true ↦ omega arith | false ↦ omega arith ]
one_change tag (props changed change) = omega arith
one_change tag (resize size) = omega arith
one_change tag stop = omega arith
one_change tag suspend = omega arith
one_change tag resume = omega arith

-- a tag's state changes no more often than there are records
changes_le : (tag : ℕ) (entries : List PlainRecord) → length (flat_map (λ entry. change_of tag entry.op) entries) ≤ length entries
changes_le tag [] = omega arith
changes_le tag (entry ∷ entries) =
    omega (arith, length-append (change_of tag entry.op) (flat_map (λ (each : PlainRecord). change_of tag each.op) entries), one_change tag entry.op, changes_le tag entries)

pub newest_count : (entries : List PlainRecord) (tag : ℕ) → (newest_state entries tag).count ≤ length entries
newest_count entries tag = omega (arith, from_count start_cell (flat_map (λ (entry : PlainRecord). change_of tag entry.op) entries), changes_le tag entries)

-- the newest state of a tag in a history that is not too long
pub newest_in_range : (entries : List PlainRecord) (tag : ℕ) → length entries < 2 ^ 63 → IsCellInRange (newest_state entries tag)
newest_in_range entries tag small =
    let start : IsClamped start_cell.point = record { x_low = omega (arith, ints); x_high = omega (arith, ints); y_low = omega (arith, ints); y_high = omega (arith, ints) } in
    let at = from_clamped start_cell (flat_map (λ (entry : PlainRecord). change_of tag entry.op) entries) start in
    record {
      count = omega (arith, small, newest_count entries tag);
      x = is_coordinate (newest_state entries tag).point.x (omega (arith, ints, at.x_low)) (omega (arith, ints, at.x_high));
      y = is_coordinate (newest_state entries tag).point.y (omega (arith, ints, at.y_low)) (omega (arith, ints, at.y_high));
    }

-- a node's state, where its kind has one
pub state_in_range : (has_state : Bool) (cell : StateCell) → IsCellInRange cell → IsStateInRange (state_when has_state cell)
state_in_range true cell h = h
state_in_range false cell h = tt
