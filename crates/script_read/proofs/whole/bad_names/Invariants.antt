use Rattle.std.proofs.Common.{◌≡◌, [], take, drop, map}
use Rattle.serde_json.specs.View.{view}
use Rattle.script_read.specs.Places.{first_after}
use Rattle.script_read.specs.Faults.{bad_name_in}
use Rattle.script_read.proofs.whole.bad_names.Given as goal

abbrev pub invariant-loop-index : goal.invariant-loop-index
invariant-loop-index l =
    first_after bad_name_in (map view (take l.index l.actors)) (map view (drop l.index l.actors)) ≡ first_after bad_name_in [] (map view l.actors)
