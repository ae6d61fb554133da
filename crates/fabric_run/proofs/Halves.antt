-- Half of a number of 64 bits.
use Rattle.std.proofs.Common.{◌≤ℤ◌, ◌+ℤ◌, ℤ, pos, negsuc, arith, w64}
use Rattle.std.specs.Prelude.{int_div, FitsSigned}
use Rattle.std.proofs.lemmas.Int.{ints}

-- it is at most 2^62 in amount
pub half_within : (n : ℤ) → FitsSigned w64 n → (pos 0 ≤ℤ (int_div n (pos 2) +ℤ pos 4611686018427387904)) × (int_div n (pos 2) ≤ℤ pos 4611686018427387904)
half_within (pos n) fits = (omega (arith, ints), omega (arith, ints, fits.sfits))
half_within (negsuc n) fits = (omega (arith, ints, fits.sfits), omega (arith, ints))
