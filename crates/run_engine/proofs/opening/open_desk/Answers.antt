use Rattle.std.proofs.Common.{ap, refl}
use Rattle.mount_coordinator.specs.Mounted.{PlainCoordinator}
use Rattle.run_engine.proofs.opening.open_desk.Goals as goal

pub returns-clause-mounted : goal.returns-clause-mounted
returns-clause-mounted c = record {
  coordinator = c.in_ok-mount.mount;
  mounted = refl;
  number = ap (λ (started : PlainCoordinator). started.base.number) c.in_ok-mount.ensures.value;
  base = c.in_ok-mount.ensures.mounted;
}
