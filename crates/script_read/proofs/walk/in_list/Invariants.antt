use Rattle.std.proofs.Common.{◌≡◌, [], take, drop, map}
use Rattle.serde_json.specs.View.{view}
use Rattle.script_read.specs.Places.{first_after, in_actor}
use Rattle.script_read.specs.Checks.{refusals_of}
use Rattle.script_read.proofs.walk.in_list.Given as goal

abbrev pub invariant-loop-index : goal.invariant-loop-index
invariant-loop-index l =
    first_after (λ before actor. in_actor (refusals_of l.check (view l.script)) actor) (map view (take l.index l.actors)) (map view (drop l.index l.actors)) ≡ first_after (λ before actor. in_actor (refusals_of l.check (view l.script)) actor) [] (map view l.actors)
