use Rattle.std.proofs.Common.{◌≡◌, take, map}
use Rattle.serde_json.specs.View.{view}
use Rattle.script_read.specs.Plain.{plain_actor}
use Rattle.script_read.specs.Value.{actor_of}
use Rattle.script_read.proofs.build.read_actors.Given as goal

abbrev pub invariant-loop-actor : goal.invariant-loop-actor
invariant-loop-actor l = map plain_actor l.actors ≡ map (actor_of l.two) (map view (take l.actor-index l.list))
