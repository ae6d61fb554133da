-- Counts that rise twice.
use Rattle.std.proofs.Common.{◌≡◌, ℕ, ◌+◌, arith}
use Rattle.counts.specs.Raised.{raised}

-- a count rises by what another one rose by from the start
pub raised_by_raised : (count by : ℕ) → raised count (raised 0 by) ≡ raised count by
raised_by_raised count by = omega arith

-- two counts that rose from the start rose together by the sum
pub raised_together : (one other : ℕ) → raised (raised 0 one) (raised 0 other) ≡ raised 0 (other + one)
raised_together one other = omega arith
