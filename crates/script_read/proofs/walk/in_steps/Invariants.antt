use Rattle.std.proofs.Common.{◌≡◌, [], take, drop, map}
use Rattle.serde_json.specs.View.{view}
use Rattle.script_read.specs.Places.{first_after, in_step}
use Rattle.script_read.specs.Checks.{refusals_of}
use Rattle.script_read.proofs.walk.in_steps.Given as goal

abbrev pub invariant-loop-index : goal.invariant-loop-index
invariant-loop-index l =
    first_after (λ before step. in_step (refusals_of l.check (view l.script)) step) (map view (take l.index l.steps)) (map view (drop l.index l.steps)) ≡ first_after (λ before step. in_step (refusals_of l.check (view l.script)) step) [] (map view l.steps)
