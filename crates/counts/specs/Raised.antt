-- Counts that stand still at the last value of their type.
use Rattle.std.specs.Prelude.{ℕ, ◌+◌, ◌-◌, ◌^◌, ◌≤◌, min, max}

-- a count that rises by a number, and stands still at the last value that 64 bits hold
abbrev pub raised : ℕ → ℕ → ℕ
raised count by = max count (min (count + by) (2 ^ 64 - 1))

-- a count rose, or stands at its last value
abbrev pub HasRisen : ℕ → ℕ → Type 0
HasRisen before now = min (before + 1) (2 ^ 64 - 1) ≤ now
