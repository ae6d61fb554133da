use Rattle.std.proofs.Common.{◌≡◌, ◌≤◌, ◌*◌, ◌^◌, map, take}
use Rattle.script_read.specs.Plain.{plain_actor}
use Rattle.run_report.specs.Shorthands.{begun}
use Rattle.run_engine.specs.Run.{commits_left}
use Rattle.run_engine.proofs.opening.count_all_commits.Given as goal

abbrev pub invariant-loop-actor : goal.invariant-loop-actor
invariant-loop-actor l =
    (l.count ≡ commits_left l.id (map begun (map plain_actor (take l.actor-index l.actors)))) × (l.count ≤ l.actor-index * 2 ^ 31)
