use Rattle.std.proofs.Common.{◌≡◌, All, map, take}
use Rattle.serde_json.specs.View.{view}
use Rattle.script_read.specs.Plain.{plain_actor}
use Rattle.script_read.specs.Writing.{actor_json}
use Rattle.script_read.specs.Fits.{IsActFit}
use Rattle.script_read.proofs.writing.actor_values.Given as goal

abbrev pub invariant-loop-actor : goal.invariant-loop-actor
invariant-loop-actor l = record {
  json : map view l.values.items ≡ map (λ actor. actor_json (plain_actor actor)) (take l.actor-index l.actors);
  fits : All (λ actor. All (λ step. IsActFit step.act) (plain_actor actor).steps) (take l.actor-index l.actors);
}
