-- A history that is built up again record by record: the revisions of its numbers.
use Rattle.std.specs.Prelude.{◌≡◌, ◌≤◌, ◌<◌, ℕ, ◌+◌, ◌-◌, List, [], ◌∷◌, ◌++◌, length, take, slice_get, Option, Some, None, Result, Ok, Err}
use Rattle.std.specs.Coded.{Coded, coded_list}
use Rattle.std.specs.declared.alloc.AllocError.{AllocError}
use Rattle.shadow_frame.specs.declared.Size.{Size}
use Rattle.tree_revision.specs.Records.{PlainOp, PlainRecord}
use Rattle.tree_revision.specs.Cancels.{cancel_of}
use Rattle.tree_revision.specs.Settled.{KeptRevision, coded_kept}
use Rattle.tree_revision.specs.Stands.{StandsFor}
use Rattle.tree_revision.specs.declared.record.Cancel.{Cancel}

-- a history that is built up again: the revision of each of its numbers, from 0 on
abbrev pub PlainRebuild : Type 0
PlainRebuild = List KeptRevision

abbrev pub coded_rebuild : Coded PlainRebuild
coded_rebuild = coded_list coded_kept

-- its last number, which is how many records it has
abbrev pub last_number : PlainRebuild → ℕ
last_number rebuild = length rebuild - 1

-- on a surface of that first size a rebuild stands for a list of records: it has a revision of each number, which stands for as many of the first records
pub record IsRebuildOf (first : Size) (rebuild : PlainRebuild) (entries : List PlainRecord) : Type 0 where
  pub count : length rebuild ≡ length entries + 1
  pub each : (number : ℕ) (revision : KeptRevision) → slice_get rebuild number ≡ Some revision → StandsFor first revision (take number entries)

-- it stands for some list
pub record IsRebuild (rebuild : PlainRebuild) : Type 0 where
  pub first : Size
  pub entries : List PlainRecord
  pub stands : IsRebuildOf first rebuild entries

-- a number is how many records it has, whichever list it stands for
abbrev pub IsCountOf : PlainRebuild → ℕ → Type 0
IsCountOf rebuild count = (first : Size) (entries : List PlainRecord) → IsRebuildOf first rebuild entries → count ≡ length entries

-- the revision of a number stands for as many of the first records; there is none exactly above their count
abbrev pub IsRevisionAt : PlainRebuild → ℕ → Option KeptRevision → Type 0
IsRevisionAt rebuild number None = (first : Size) (entries : List PlainRecord) → IsRebuildOf first rebuild entries → length entries < number
IsRevisionAt rebuild number (Some revision) =
    (first : Size) (entries : List PlainRecord) → IsRebuildOf first rebuild entries → (number ≤ length entries) × StandsFor first revision (take number entries)

-- a change has that cause to be cancelled, or none, at a number of a rebuild, by a caller that holds another
abbrev pub IsCauseAt : PlainRebuild → PlainOp → (at held : ℕ) → Option Cancel → Type 0
IsCauseAt rebuild op at held cause =
    (first : Size) (entries : List PlainRecord) → IsRebuildOf first rebuild entries → cancel_of first op (take at entries) held ≡ cause

-- what a push of a record answers: no cause, and the list is longer by the record; or the cause for which it is cancelled, and all is as before, as it is without memory
abbrev pub IsPushAnswer : (old new : PlainRebuild) → PlainRecord → Result (Option Cancel) AllocError → Type 0
IsPushAnswer old new entry (Ok None) =
    (first : Size) (entries : List PlainRecord) → IsRebuildOf first old entries
    → IsRebuildOf first new (entries ++ entry ∷ []) × (cancel_of first entry.op entries entry.held ≡ None)
IsPushAnswer old new entry (Ok (Some cause)) =
    ((first : Size) (entries : List PlainRecord) → IsRebuildOf first old entries → cancel_of first entry.op entries entry.held ≡ Some cause) × (new ≡ old)
IsPushAnswer old new entry (Err refusal) = new ≡ old
