use Rattle.mount_coordinator.proofs.Opened.{opened_mounted, opened_base}
use Rattle.mount_coordinator.proofs.coordinator.Coordinator.start.Goals as goal

pub invariant_of-result : goal.invariant_of-result
invariant_of-result c = opened_mounted c.args.first.newest.size c.args.first c.in_ok-start.field-0 c.stands_for_none.ensures c.in_ok-start.ensures

pub returns-clause-mounted : goal.returns-clause-mounted
returns-clause-mounted c = opened_base c.args.first.newest.size c.args.first c.stands_for_none.ensures
