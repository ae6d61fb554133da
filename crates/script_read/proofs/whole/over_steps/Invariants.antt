use Rattle.std.proofs.Common.{◌≡◌, ◌+◌, [], take, drop, map}
use Rattle.serde_json.specs.View.{view}
use Rattle.script_read.specs.Places.{first_after}
use Rattle.script_read.specs.Faults.{steps_in_all, over_steps}
use Rattle.script_read.proofs.whole.over_steps.Given as goal

abbrev pub invariant-loop-index : goal.invariant-loop-index
invariant-loop-index l = record {
  left : l.left + steps_in_all (map view (take l.index l.actors)) ≡ 2048;
  found : first_after over_steps (map view (take l.index l.actors)) (map view (drop l.index l.actors)) ≡ first_after over_steps [] (map view l.actors);
}
