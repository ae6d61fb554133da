use Rattle.std.proofs.Common.{◌≡◌, ◌++◌, map, drop}
use Rattle.host_views.specs.Plain.{plain_placed}
use Rattle.view_flatten.specs.Placed.{plain_places}
use Rattle.view_flatten.proofs.views_at.Given as goal

abbrev pub invariant-loop-placed : goal.invariant-loop-placed
invariant-loop-placed l = map plain_placed l.views ++ plain_places (drop l.placed-index l.places) ≡ plain_places l.places
