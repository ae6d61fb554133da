-- Whether a journal names only actors that it has.
use Rattle.std.specs.Prelude.{ℕ, ◌<◌, length, All, Option, Some, None}
use Rattle.run_report.specs.declared.journal.StepName.{StepName}
use Rattle.run_report.specs.Journal.{PlainSurfacePart, PlainJournal}

-- a mount is closing, or by a step of an actor whose number is below the count
abbrev pub IsByActor : ℕ → Option StepName → Type 0
IsByActor count None = Unit {0}
IsByActor count (Some step) = step.actor < count

-- the records and mounts of a surface are of actors whose numbers are below the count
pub record NamesActors (count : ℕ) (part : PlainSurfacePart) : Type 0 where
  pub records : All (λ entry. entry.actor < count) part.records
  pub mounts : All (λ mount. IsByActor count mount.by) part.mounts

-- each actor that the journal names is one of its own
abbrev pub NamesItsActors : PlainJournal → Type 0
NamesItsActors journal = All (NamesActors (length journal.actors)) journal.surfaces
