use Rattle.std.proofs.Common.{◌≡◌, map, refl, subst, sym, IfOk}
use Rattle.host_views.specs.Plain.{plain_mutation}
use Rattle.view_flatten.specs.Placed.{plain_places}
use Rattle.view_mutation.proofs.InStep.{in_step_mutations}
use Rattle.view_mutation.proofs.mutations_in_step.Goals as goal

pub returns-then-are_in_step : goal.returns-then-are_in_step
returns-then-are_in_step c =
    subst (λ mutations. IfOk c.updates_of.result (λ list. map plain_mutation list ≡ mutations))
    (sym (in_step_mutations (plain_places c.args.old.now) (plain_places c.args.new.now) (c.if-are_in_step.ensures refl) c.requires.differ)) c.updates_of.ensures
