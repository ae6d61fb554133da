-- What a mount answers.
use Rattle.std.specs.Prelude.{◌≡◌, map, Option, Some, None, Result, Ok, Err}
use Rattle.std.specs.declared.alloc.AllocError.{AllocError}
use Rattle.mount_coordinator.specs.declared.coordinator.Transaction.{Transaction}
use Rattle.mount_coordinator.specs.declared.coordinator.Pulled.{Pulled}
use Rattle.mount_coordinator.specs.declared.coordinator.Pulled.TheVariants.{Transaction as PulledTransaction, Empty, Busy}
use Rattle.mount_coordinator.specs.Mounted.{PlainCoordinator}
use Rattle.mount_coordinator.specs.Answers.{IsTransaction, IsNothingNewer}
use Rattle.host_views.specs.Plain.{plain_mutation}
use Rattle.host_views.specs.Registry.{PlainRegistry, MayApply, mutated, registry_of}
use Rattle.view_flatten.specs.HostTree.{host_tree_of}
use Rattle.surface.specs.declared.parts.Mounter.{Mounter}

-- the registry of the views that stand mounted
abbrev pub mounted_registry : PlainCoordinator → PlainRegistry
mounted_registry coordinator = registry_of (host_tree_of coordinator.base.forest)

-- a transaction leads the registry on: its mutations may be applied in their turn to the registry of what stood mounted,
-- and applied they give that of what stands mounted from then on
pub record LeadsRegistry (old new : PlainCoordinator) (transaction : Transaction) : Type 0 where
  pub applied : MayApply (map plain_mutation transaction.mutations) (mounted_registry old)
  pub reached : mutated (map plain_mutation transaction.mutations) (mounted_registry old) ≡ mounted_registry new

-- where a pull gives a transaction, that leads the registry on
abbrev pub PullLeadsRegistry : (old new : PlainCoordinator) → Pulled → Type 0
PullLeadsRegistry old new (PulledTransaction transaction) = LeadsRegistry old new transaction
PullLeadsRegistry old new (Empty at) = Unit {0}
PullLeadsRegistry old new Busy = Unit {0}

-- the answer of a mount: a transaction over all that is seen then, which leads the registry on, or nothing where nothing
-- that is seen then is newer; without memory what stands mounted is as before
abbrev pub IsMountAnswer : (old new : Mounter) → Result (Option Transaction) AllocError → Type 0
IsMountAnswer old new (Ok (Some transaction)) =
    IsTransaction new.surface.pass.kept.mark.first new.surface.pass.kept.seen old.coordinator new.coordinator transaction
    × LeadsRegistry old.coordinator new.coordinator transaction
IsMountAnswer old new (Ok None) = IsNothingNewer new.surface.pass.kept.seen old.coordinator new.coordinator
IsMountAnswer old new (Err refusal) = new.coordinator ≡ old.coordinator
