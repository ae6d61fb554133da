use Rattle.std.proofs.Common.{◌≡◌, ◌≤◌, ◌*◌, take, map, length}
use Rattle.std.specs.Prelude.{sum_by}
use Rattle.run_report.specs.Journal.{plain_mount}
use Rattle.run_report.proofs.summary.mutation_count.Given as goal

abbrev pub invariant-loop-mount : goal.invariant-loop-mount
invariant-loop-mount l = record {
  total : l.total ≡ sum_by (λ mount. length mount.mutations) (map plain_mount (take l.mount-index l.mounts));
  within : l.total ≤ l.mount-index * 18446744073709551616;
}
