use Rattle.std.proofs.Common.{◌≡◌, map, take}
use Rattle.serde_json.specs.View.{view}
use Rattle.script_read.specs.Writing.{natural}
use Rattle.script_read.proofs.writing.turn_values.Given as goal

abbrev pub invariant-loop-turn : goal.invariant-loop-turn
invariant-loop-turn l = map view l.values.items ≡ map natural (take l.turn-index l.turns)
