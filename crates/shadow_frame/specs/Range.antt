-- What a node may say along an axis, and how large a parent may be.
use Rattle.std.specs.Prelude.{ℤ, pos, negsuc, ◌≤ℤ◌, Option, Some, None}
use Rattle.shadow_frame.specs.declared.Axis.{Axis}
use Rattle.shadow_frame.specs.declared.Size.{Size}

-- a number that lies between two bounds, where it is given
abbrev pub IsWithin : ℤ → ℤ → Option ℤ → Type 0
IsWithin low high None = Unit {0}
IsWithin low high (Some value) = (low ≤ℤ value) × (value ≤ℤ high)

-- start and end in -1,000,000 to 1,000,000, and size in 0 to 1,000,000, each where it is given
pub record IsAxisInRange (axis : Axis) : Type 0 where
  pub start_within : IsWithin (negsuc 999999) (pos 1000000) axis.start
  pub end_within : IsWithin (negsuc 999999) (pos 1000000) axis.end
  pub size_within : IsWithin (pos 0) (pos 1000000) axis.size

-- a parent's side in 0 to 100,000,000
pub record IsSideInRange (side : ℤ) : Type 0 where
  pub low : pos 0 ≤ℤ side
  pub high : side ≤ℤ pos 100000000

-- a parent with both sides in that range
pub record IsParentInRange (parent : Size) : Type 0 where
  pub width : IsSideInRange parent.width
  pub height : IsSideInRange parent.height
