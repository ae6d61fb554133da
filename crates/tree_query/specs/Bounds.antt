-- How far places lie from 0.
use Rattle.std.specs.Prelude.{ℕ, pos, ◌^◌, ◌+ℤ◌, ◌≤ℤ◌}
use Rattle.shadow_frame.specs.declared.Point.{Point}

-- a place is at most so many points away from 0 along each axis
pub record IsPlaceWithin (most : ℕ) (place : Point) : Type 0 where
  pub x_low : pos 0 ≤ℤ (place.x +ℤ pos most)
  pub x_high : place.x ≤ℤ pos most
  pub y_low : pos 0 ≤ℤ (place.y +ℤ pos most)
  pub y_high : place.y ≤ℤ pos most

-- a place that is so near to 0 that sums of two such places, and their differences from points that may be asked for, do not leave 64 bits
abbrev pub IsPlaceNear : Point → Type 0
IsPlaceNear place = IsPlaceWithin (2 ^ 60) place
