use Rattle.std.proofs.Common.{◌≡◌, [], take, drop, map}
use Rattle.serde_json.specs.View.{view}
use Rattle.script_read.specs.Places.{first_after}
use Rattle.script_read.specs.Shape.{misshapen_surface}
use Rattle.script_read.proofs.whole.misshapen_surfaces.Given as goal

abbrev pub invariant-loop-index : goal.invariant-loop-index
invariant-loop-index l =
    first_after (λ before surface. misshapen_surface surface) (map view (take l.index l.surfaces)) (map view (drop l.index l.surfaces))
    ≡ first_after (λ before surface. misshapen_surface surface) [] (map view l.surfaces)
