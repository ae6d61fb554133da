use Rattle.std.proofs.Common.{◌≡◌, take, map}
use Rattle.serde_json.specs.View.{view}
use Rattle.script_read.specs.Plain.{plain_step}
use Rattle.script_read.specs.Value.{step_of}
use Rattle.script_read.proofs.build.read_steps.Given as goal

abbrev pub invariant-loop-step : goal.invariant-loop-step
invariant-loop-step l = map plain_step l.steps ≡ map (step_of l.two) (map view (take l.step-index l.list))
