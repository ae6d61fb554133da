use Rattle.std.proofs.Common.{◌≡◌, take}
use Rattle.view_flatten.specs.Placed.{plain_places}
use Rattle.view_mutation.specs.InStep.{stands_of}
use Rattle.view_mutation.proofs.children.children_of.Given as goal

abbrev pub invariant-loop-placed : goal.invariant-loop-placed
invariant-loop-placed l = record { seen : l.pairs.items ≡ stands_of (plain_places (take l.placed-index l.places)) }
