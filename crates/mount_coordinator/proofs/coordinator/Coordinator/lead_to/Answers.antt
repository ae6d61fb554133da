use Rattle.std.proofs.Common.{◌≡◌, ap, ◌∙◌}
use Rattle.counts.specs.Raised.{raised}
use Rattle.tree_revision.specs.Settled.{SettledRevision}
use Rattle.mount_coordinator.specs.Mounted.{PlainCoordinator, entered_from}
use Rattle.mount_coordinator.proofs.Counted.{raised_by_raised}
use Rattle.mount_coordinator.proofs.coordinator.Coordinator.lead_to.Goals as goal

pub returns-clause-entered : goal.returns-clause-entered
returns-clause-entered c =
    let old : PlainCoordinator = c.args.self.now in
    let count : c.self.inside.entered ≡ old.entered = ap (λ (c : PlainCoordinator). c.entered) c.self.view_is in
    let base : c.self.inside.base.newest ≡ old.base = ap (λ (c : PlainCoordinator). c.base) c.self.view_is in
    let found : c.in_ok-mutations.entered ≡ raised 0 (entered_from old.base c.args.to.newest)
    = c.in_ok-mutations.ensures.entered ∙ ap (λ (base : SettledRevision). raised 0 (entered_from base c.args.to.newest)) base
    in
    c.raise-self-inside.ensures ∙ (λ i. raised (count i) (found i)) ∙ raised_by_raised old.entered (entered_from old.base c.args.to.newest)
