use Rattle.std.proofs.Common.{◌≡◌, ◌≤◌, map, take}
use Rattle.std.specs.Prelude.{count_by}
use Rattle.script_read.specs.Plain.{plain_step}
use Rattle.run_actor.specs.Runs.{commits_on}
use Rattle.run_engine.proofs.opening.count_commits.Given as goal

abbrev pub invariant-loop-step : goal.invariant-loop-step
invariant-loop-step l = (l.count ≡ count_by (commits_on l.id) (map plain_step (take l.step-index l.steps))) × (l.count ≤ l.step-index)
