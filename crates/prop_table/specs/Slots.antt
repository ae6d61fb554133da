-- How optional numbers are kept: whether each is given, beside the number that it then is.
use Rattle.std.specs.Prelude.{ℕ, ℤ, pos, Bool, true, false, List, Option, Some, None, is_some, unwrap_or}
use Rattle.prop_table.specs.Props.{PropList}
use Rattle.prop_table.specs.Joined.{zipped, AreZipped}

-- a number, where it is given
abbrev pub number_if : Bool → ℤ → Option ℤ
number_if false number = None
number_if true number = Some number

-- a number, or 0 where it is absent
abbrev pub number_or_zero : Option ℤ → ℤ
number_or_zero value = unwrap_or value (pos 0)

-- the props that are kept so
abbrev pub slots : List Bool → List ℤ → PropList
slots given numbers = zipped number_if given numbers

-- as many as there are rows, and 0 where no number is given
abbrev pub AreSlots : ℕ → List Bool → List ℤ → Type 0
AreSlots n given numbers = AreZipped number_if is_some number_or_zero n given numbers
