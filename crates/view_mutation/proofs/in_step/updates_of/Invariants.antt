use Rattle.std.proofs.Common.{◌≡◌, ◌++◌, drop, length, map}
use Rattle.host_views.specs.Plain.{plain_mutation}
use Rattle.view_flatten.specs.Placed.{plain_places}
use Rattle.view_mutation.specs.InStep.{updates_in_step}
use Rattle.view_mutation.proofs.in_step.updates_of.Given as goal

abbrev pub invariant-loop-at : goal.invariant-loop-at
invariant-loop-at l = record {
  long : length l.old ≡ length l.new;
  left : map plain_mutation l.list ++ updates_in_step (plain_places (drop l.at l.old)) (plain_places (drop l.at l.new))
      ≡ updates_in_step (plain_places l.old) (plain_places l.new);
}
