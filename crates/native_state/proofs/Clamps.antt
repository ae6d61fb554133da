-- A sum that stops at the ends of 64 bits is clamped as the exact sum is.
use Rattle.std.proofs.Common.{◌≡◌, ℤ, pos, negsuc, w64, arith}
use Rattle.std.specs.Int.{saturate_signed}
use Rattle.std.proofs.lemmas.Int.{ints, clamps}
use Rattle.native_state.specs.State.{clamped}

pub clamped-saturated : (z : ℤ) → clamped (saturate_signed w64 z) ≡ clamped z
clamped-saturated (pos n) = omega (arith, ints, clamps)
clamped-saturated (negsuc n) = omega (arith, ints, clamps)
