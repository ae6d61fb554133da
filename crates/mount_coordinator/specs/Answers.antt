-- What a pull and a finish answer.
use Rattle.std.specs.Prelude.{◌≡◌, ◌<◌, ◌⊎◌, List, map, take, Option, Some, None, Result, Ok, Err}
use Rattle.std.specs.declared.alloc.AllocError.{AllocError}
use Rattle.shadow_frame.specs.declared.Size.{Size}
use Rattle.host_views.specs.Plain.{plain_mutation}
use Rattle.view_mutation.specs.Mutations.{mutations_between}
use Rattle.counts.specs.Raised.{raised, HasRisen}
use Rattle.tree_revision.specs.Records.{PlainRecord}
use Rattle.tree_revision.specs.Mountable.{mountable_of}
use Rattle.tree_revision.specs.Settled.{KeptRevision}
use Rattle.tree_revision.specs.Stands.{StandsFor}
use Rattle.tree_revision.specs.Ports.{Told, HasLooked, Stays}
use Rattle.mount_coordinator.specs.declared.coordinator.Transaction.{Transaction}
use Rattle.mount_coordinator.specs.declared.coordinator.Pulled.{Pulled}
use Rattle.mount_coordinator.specs.declared.coordinator.Pulled.TheVariants.{Transaction as PulledTransaction, Empty, Busy}
use Rattle.mount_coordinator.specs.Mounted.{PlainCoordinator, IsBaseOf, IsBaseIn, entered_from, host_tree_at}

-- a transaction over a history leads from the base to the revision that may be mounted, which is newer, by the mutations
-- between their host trees; then the base stands for the first records up to there, and the count of entered nodes rose
pub record IsTransaction (first : Size) (entries : List PlainRecord) (old new : PlainCoordinator) (transaction : Transaction)
    : Type 0 where
  pub base : transaction.base ≡ old.base.number
  pub to : transaction.to ≡ mountable_of entries
  pub newer : transaction.base < transaction.to
  pub mutations : map plain_mutation transaction.mutations
      ≡ mutations_between (host_tree_at first entries transaction.base) (host_tree_at first entries transaction.to)
  pub moved : new.base.number ≡ transaction.to
  pub mounted : IsBaseOf first new.base (take transaction.to entries)
  pub entered : new.entered ≡ raised old.entered (entered_from old.base new.base)

-- nothing is newer than the base: the revision that may be mounted has its number, and all is as before
pub record IsNothingNewer (entries : List PlainRecord) (old new : PlainCoordinator) : Type 0 where
  pub same : mountable_of entries ≡ old.base.number
  pub stays : new ≡ old

-- what the end of a history answers: nothing exactly where nothing is newer; without memory all is as before
abbrev pub IsFinishAnswer : Size → List PlainRecord → (old new : PlainCoordinator) → Result (Option Transaction) AllocError → Type 0
IsFinishAnswer first entries old new (Ok (Some transaction)) = IsTransaction first entries old new transaction
IsFinishAnswer first entries old new (Ok None) = IsNothingNewer entries old new
IsFinishAnswer first entries old new (Err refusal) = new ≡ old

-- a history may end with that front: the front stands for it, and the base for its first records
pub record MayFinish (coordinator : PlainCoordinator) (front : KeptRevision) : Type 0 where
  pub first : Size
  pub entries : List PlainRecord
  pub stands : StandsFor first front entries
  pub mounted : IsBaseIn first entries coordinator.base

-- what a pull answers: a transaction or that nothing is newer, by one look; busy only where the port was found busy once
-- more; without memory the look was refused or answered, and all is as before
abbrev pub IsPullAnswer : (before after : Told) → (old new : PlainCoordinator) → Result Pulled AllocError → Type 0
IsPullAnswer before after old new (Ok (PulledTransaction transaction)) =
    HasLooked before after × IsTransaction before.first after.seen old new transaction
IsPullAnswer before after old new (Ok (Empty at)) =
    HasLooked before after × (at ≡ old.base.number) × IsNothingNewer after.seen old new
IsPullAnswer before after old new (Ok Busy) = Stays before after × HasRisen before.busy after.busy × (new ≡ old)
IsPullAnswer before after old new (Err refusal) = (Stays before after ⊎ HasLooked before after) × (new ≡ old)
