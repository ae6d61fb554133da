use Rattle.std.proofs.Common.{◌≡◌, length, map, take}
use Rattle.script_read.specs.Plain.{plain_actor}
use Rattle.run_engine.specs.Opening.{AreWorkersAtStart}
use Rattle.run_engine.proofs.opening.workers_of.Given as goal

abbrev pub invariant-loop-number : goal.invariant-loop-number
invariant-loop-number l =
    AreWorkersAtStart l.fn.first (map plain_actor (take l.number l.plans)) l.workers.items × (length l.workers.items ≡ l.number)
