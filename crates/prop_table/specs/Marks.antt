-- How an edit is kept: a mark for each row, beside the number that it then is.
use Rattle.std.specs.Prelude.{ℕ, ℤ, pos, List, Option, Some, None}
use Rattle.prop_table.specs.Joined.{zipped, AreZipped}
use Rattle.prop_table.specs.Edits.{EditList}
use Rattle.prop_table.specs.declared.mark.Mark.{Mark}
use Rattle.prop_table.specs.declared.mark.Mark.TheVariants.{Unnamed, Absent, Given}

-- what a mark and a number say of a row
abbrev pub named_if : Mark → ℤ → Option (Option ℤ)
named_if Unnamed number = None
named_if Absent number = Some None
named_if Given number = Some (Some number)

-- the mark of what an edit holds for a row
abbrev pub mark_of : Option (Option ℤ) → Mark
mark_of None = Unnamed
mark_of (Some None) = Absent
mark_of (Some (Some number)) = Given

-- the number that is kept of it, 0 where there is none
abbrev pub number_of : Option (Option ℤ) → ℤ
number_of None = pos 0
number_of (Some None) = pos 0
number_of (Some (Some number)) = number

-- the edit that is kept so
abbrev pub marked : List Mark → List ℤ → EditList
marked marks numbers = zipped named_if marks numbers

-- as many as there are rows, and 0 where no number is given
abbrev pub AreMarks : ℕ → List Mark → List ℤ → Type 0
AreMarks n marks numbers = AreZipped named_if mark_of number_of n marks numbers
