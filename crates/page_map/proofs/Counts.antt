-- Counts that rise twice.
use Rattle.std.proofs.Common.{◌≡◌, ℕ, ◌+◌, ◌-◌, ◌≤◌, arith}
use Rattle.counts.specs.Raised.{raised}

pub raised_by_more : (before after by more entries all : ℕ) → raised before by ≤ after → more ≤ entries → all ≤ by + more → raised before all ≤ raised after entries
raised_by_more before after by more entries all counted enough le = omega (arith, counted, enough, le)

-- a count that has risen by all but what is left rises by a part of that
pub raised_through : (first now after all rest part left : ℕ) → now ≡ raised first (all - rest) → after ≡ raised now part → part + left ≡ rest → rest ≤ all → after ≡ raised first (all - left)
raised_through first now after all rest part left before is parts le = omega arith
