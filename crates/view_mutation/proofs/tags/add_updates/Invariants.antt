use Rattle.std.proofs.Common.{◌≡◌, ◌++◌, map, drop}
use Rattle.host_views.specs.Plain.{plain_mutation}
use Rattle.view_mutation.specs.Lookups.{view_by, updates_by}
use Rattle.view_flatten.specs.Placed.{plain_places}
use Rattle.view_mutation.proofs.tags.add_updates.Given as goal

abbrev pub invariant-loop-placed : goal.invariant-loop-placed
invariant-loop-placed l = record {
  left : map plain_mutation l.list ++ updates_by (view_by l.index l.known) (plain_places (drop l.placed-index l.new))
      ≡ map plain_mutation l.initial.list ++ updates_by (view_by l.index l.known) (plain_places l.new);
}
