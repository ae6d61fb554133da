use Rattle.std.proofs.Common.{◌≡◌, ◌≤◌, take}
use Rattle.std.specs.Prelude.{count_by}
use Rattle.run_report.specs.Summary.{is_cancelled_on}
use Rattle.run_report.proofs.summary.count_cancelled.Given as goal

abbrev pub invariant-loop-part : goal.invariant-loop-part
invariant-loop-part l = record {
  count : l.count ≡ count_by (is_cancelled_on l.id) (take l.part-index l.steps);
  within : l.count ≤ l.part-index;
}
