use Rattle.std.proofs.Common.{◌≡◌, [], take, drop, map}
use Rattle.serde_json.specs.View.{view}
use Rattle.script_read.specs.Places.{first_after}
use Rattle.script_read.specs.Faults.{bad_plan}
use Rattle.script_read.proofs.whole.bad_plans.Given as goal

abbrev pub invariant-loop-index : goal.invariant-loop-index
invariant-loop-index l =
    first_after bad_plan (map view (take l.index l.surfaces)) (map view (drop l.index l.surfaces)) ≡ first_after bad_plan [] (map view l.surfaces)
