use Rattle.std.proofs.Common.{◌≡◌, ◌≢◌, ◌↔◌, ℕ, ◌<◌, ◌≤◌}
use Rattle.std.specs.Int.{bit_at}
use Rattle.prop_table.specs.Props.{value_at}
use Rattle.prop_table.proofs.props.changed.Given as goal

abbrev pub invariant-loop-row : goal.invariant-loop-row
invariant-loop-row g l = record {
  rows : (k : ℕ) → k < l.row → (bit_at l.bits k ≡ 1) ↔ (value_at l.a k ≢ value_at l.b k);
  above : (k : ℕ) → l.row ≤ k → bit_at l.bits k ≡ 0;
}
