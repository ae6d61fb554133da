use Rattle.std.proofs.Common.{◌≡◌, All, map, take}
use Rattle.serde_json.specs.View.{view}
use Rattle.script_read.specs.Plain.{plain_step}
use Rattle.script_read.specs.Writing.{step_json}
use Rattle.script_read.specs.Fits.{IsActFit}
use Rattle.script_read.proofs.writing.step_values.Given as goal

abbrev pub invariant-loop-step : goal.invariant-loop-step
invariant-loop-step l = record {
  json : map view l.values.items ≡ map (λ step. step_json (plain_step step)) (take l.step-index l.steps);
  fits : All (λ step. IsActFit (plain_step step).act) (take l.step-index l.steps);
}
