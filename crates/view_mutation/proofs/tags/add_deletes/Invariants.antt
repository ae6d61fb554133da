use Rattle.std.proofs.Common.{◌≡◌, ◌++◌, map, drop}
use Rattle.host_views.specs.Plain.{plain_mutation}
use Rattle.view_mutation.specs.Lookups.{view_by, deletes_by}
use Rattle.view_flatten.specs.Placed.{plain_places}
use Rattle.view_mutation.proofs.tags.add_deletes.Given as goal

abbrev pub invariant-loop-placed : goal.invariant-loop-placed
invariant-loop-placed l = record {
  left : map plain_mutation l.list ++ deletes_by (view_by l.index l.known) (plain_places (drop l.placed-index l.old))
      ≡ map plain_mutation l.initial.list ++ deletes_by (view_by l.index l.known) (plain_places l.old);
}
