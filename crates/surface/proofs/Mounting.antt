-- What a pull answers, for a mount that began at another mounter with the same base.
use Rattle.std.proofs.Common.{◌≡◌, ℕ, sym, subst}
use Rattle.std.specs.Prelude.{Some, None, Ok}
use Rattle.shadow_frame.specs.declared.Size.{Size}
use Rattle.commit_spine.specs.SpinePorts.{spine_told}
use Rattle.mount_coordinator.specs.declared.coordinator.Transaction.{Transaction}
use Rattle.mount_coordinator.specs.declared.coordinator.Pulled.TheVariants.{Transaction as PulledTransaction, Empty}
use Rattle.mount_coordinator.specs.Mounted.{PlainCoordinator}
use Rattle.mount_coordinator.specs.Answers.{IsPullAnswer, IsTransaction, IsNothingNewer}
use Rattle.surface.specs.declared.parts.Mounter.{Mounter}
use Rattle.surface.specs.Passing.{PassGoesOn}
use Rattle.surface.specs.Mounting.{IsMountAnswer, LeadsRegistry}

module _ (start before after : Mounter) (at : ℕ)
    (same : before.coordinator ≡ start.coordinator) (goes_on : PassGoesOn before.surface.pass after.surface.pass) where
  pub mounted_by : (transaction : Transaction)
      → IsPullAnswer (spine_told before.surface.pass) (spine_told after.surface.pass) before.coordinator after.coordinator (Ok (PulledTransaction transaction))
      → LeadsRegistry before.coordinator after.coordinator transaction → IsMountAnswer start after (Ok (Some transaction))
  mounted_by transaction pulled leads = (
    subst (λ (c : PlainCoordinator). IsTransaction after.surface.pass.kept.mark.first after.surface.pass.kept.seen c after.coordinator transaction) same
        (subst (λ (first : Size). IsTransaction first after.surface.pass.kept.seen before.coordinator after.coordinator transaction) (sym goes_on.lasts.first) pulled.1),
    subst (λ (c : PlainCoordinator). LeadsRegistry c after.coordinator transaction) same leads,
  )

  pub empty_by :
      IsPullAnswer (spine_told before.surface.pass) (spine_told after.surface.pass) before.coordinator after.coordinator (Ok (Empty at))
      → IsMountAnswer start after (Ok None)
  empty_by pulled = subst (λ (c : PlainCoordinator). IsNothingNewer after.surface.pass.kept.seen c after.coordinator) same pulled.2
