-- What a change of a front leads to, by a caller that holds a revision.
use Rattle.std.specs.Prelude.{◌≡◌, ◌≤◌, ℕ, List, [], ◌∷◌, ◌++◌, length, take, Some}
use Rattle.shadow_frame.specs.declared.Size.{Size}
use Rattle.tree_revision.specs.Records.{PlainOp, PlainRecord}
use Rattle.tree_revision.specs.Cancels.{cancel_of}
use Rattle.tree_revision.specs.Settled.{KeptRevision}
use Rattle.tree_revision.specs.Stands.{StandsFor}
use Rattle.tree_revision.specs.declared.record.Cancel.{Cancel}
use Rattle.tree_revision.specs.declared.next.PrepareRefusal.{PrepareRefusal}
use Rattle.tree_revision.specs.declared.next.PrepareRefusal.TheVariants.{Cancel as CancelRefusal}

-- wherever the front stands for a list, and the held revision for as many of its first records as a record of that change names, the next revision stands for that list and that record
abbrev pub StandsForOneMore : PlainOp → (front held next : KeptRevision) → Type 0
StandsForOneMore op front held next =
    (first : Size) (entries : List PlainRecord) (entry : PlainRecord) → StandsFor first front entries → entry.held ≤ length entries
    → StandsFor first held (take entry.held entries) → entry.op ≡ op → StandsFor first next (entries ++ entry ∷ [])

-- wherever the front stands for a list, and the held revision for the first records of it, the cause of a cancel is that of the change after that list
abbrev pub IsCancelledFor : PlainOp → (front held : KeptRevision) → PrepareRefusal → Type 0
IsCancelledFor op front held refusal =
    (cause : Cancel) → refusal ≡ CancelRefusal cause → (first : Size) (entries : List PlainRecord) (number : ℕ) → StandsFor first front entries
    → StandsFor first held (take number entries) → cancel_of first op entries number ≡ Some cause
