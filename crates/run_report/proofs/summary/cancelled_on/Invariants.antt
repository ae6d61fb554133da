use Rattle.std.proofs.Common.{◌≡◌, ◌≤◌, ◌*◌, take, map}
use Rattle.run_report.specs.Journal.{plain_actor_part}
use Rattle.run_report.specs.Summary.{cancelled_on}
use Rattle.run_report.proofs.summary.cancelled_on.Given as goal

abbrev pub invariant-loop-actor : goal.invariant-loop-actor
invariant-loop-actor l = record {
  total : l.total ≡ cancelled_on l.id (map plain_actor_part (take l.actor-index l.actors));
  within : l.total ≤ l.actor-index * 18446744073709551616;
}
