use Rattle.std.proofs.Common.{◌≡◌, take, map}
use Rattle.serde_json.specs.View.{view}
use Rattle.script_read.specs.Members.{natural_in}
use Rattle.script_read.proofs.build.read_turns.Given as goal

abbrev pub invariant-loop-turn : goal.invariant-loop-turn
invariant-loop-turn l = l.turns ≡ map natural_in (map view (take l.turn-index l.list))
