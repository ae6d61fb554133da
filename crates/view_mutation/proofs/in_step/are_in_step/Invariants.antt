use Rattle.std.proofs.Common.{◌≡◌, drop, length}
use Rattle.view_flatten.specs.Placed.{plain_places}
use Rattle.view_mutation.specs.InStep.{AreInStep}
use Rattle.view_mutation.proofs.in_step.are_in_step.Given as goal

abbrev pub invariant-loop-at : goal.invariant-loop-at
invariant-loop-at l = record {
  long : length l.old ≡ length l.new;
  rest : AreInStep (plain_places (drop l.at l.old)) (plain_places (drop l.at l.new)) → AreInStep (plain_places l.old) (plain_places l.new);
}
