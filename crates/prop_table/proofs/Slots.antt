-- Optional numbers and edits, as they are kept.
use Rattle.std.proofs.Common.{◌≡◌, ℤ, Option, Some, None, is_some, refl}
use Rattle.prop_table.specs.Slots.{number_if, number_or_zero}
use Rattle.prop_table.specs.Marks.{named_if, mark_of, number_of}

-- what is kept of a number is that number
pub number_back : (value : Option ℤ) → number_if (is_some value) (number_or_zero value) ≡ value
number_back None = refl
number_back (Some value) = refl

-- what is kept of a named row is what it was
pub named_back : (named : Option (Option ℤ)) → named_if (mark_of named) (number_of named) ≡ named
named_back None = refl
named_back (Some None) = refl
named_back (Some (Some number)) = refl
