-- The props of a node: one optional number for each row of its table.
use Rattle.std.specs.Prelude.{ℕ, ℤ, List, Option, None, slice_index_or}

-- the props that contracts speak of, row by row
abbrev pub PropList : Type 0
PropList = List (Option ℤ)

-- the number in a row, None where it is absent
abbrev pub value_at : PropList → ℕ → Option ℤ
value_at props row = slice_index_or props row None
