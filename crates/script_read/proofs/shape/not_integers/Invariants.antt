use Rattle.std.proofs.Common.{◌≡◌, [], take, drop, map}
use Rattle.serde_json.specs.View.{view}
use Rattle.script_read.specs.Places.{first_after, unless}
use Rattle.script_read.specs.Shape.{is_integer}
use Rattle.script_read.proofs.shape.not_integers.Given as goal

abbrev pub invariant-loop-index : goal.invariant-loop-index
invariant-loop-index l =
    first_after (λ before item. unless (is_integer item)) (map view (take l.index l.items)) (map view (drop l.index l.items)) ≡ first_after (λ before item. unless (is_integer item)) [] (map view l.items)
