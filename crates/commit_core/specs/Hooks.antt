-- What a hook answers, and what a commit asks for after that.
use Rattle.std.specs.Prelude.{◌≡◌, ◌≢◌, ℕ, List, take, Option, Some, None}
use Rattle.shadow_frame.specs.declared.Size.{Size}
use Rattle.tree_revision.specs.declared.record.Op.{Op}
use Rattle.tree_revision.specs.Records.{PlainOp, PlainRecord, plain_op}
use Rattle.tree_revision.specs.Wishes.{Wish}
use Rattle.tree_revision.specs.Settled.{KeptRevision}
use Rattle.tree_revision.specs.Stands.{StandsFor}

-- an answer in place of a change: the one that is wished where that is another, and else none
abbrev pub IsChangedTo : (wished op : PlainOp) → Option Op → Type 0
IsChangedTo wished op (Some changed) = (plain_op changed ≡ wished) × (wished ≢ op)
IsChangedTo wished op None = wished ≡ op

-- wherever the front stands for a list, and the held revision for the first records of it, a hook's answer is what is wished after that list
abbrev pub IsAdjustedBy : Wish → (front held : KeptRevision) → PlainOp → Option Op → Type 0
IsAdjustedBy wish front held op answer =
    (first : Size) (entries : List PlainRecord) (number : ℕ) → StandsFor first front entries → StandsFor first held (take number entries)
    → IsChangedTo (wish entries number op) op answer

-- wherever the front stands for a list, and the held revision for the first records of it, this is what is wished of a change after that list
abbrev pub IsWishedOf : Wish → (front held : KeptRevision) → PlainOp → (wished : PlainOp) → Type 0
IsWishedOf wish front held op wished =
    (first : Size) (entries : List PlainRecord) (number : ℕ) → StandsFor first front entries → StandsFor first held (take number entries)
    → wished ≡ wish entries number op

-- the front stands for some list, and the held revision for the first records of it
abbrev pub StandForSome : (front held : KeptRevision) → Type 0
StandForSome front held =
    (first : Size) × (entries : List PlainRecord) × (number : ℕ) × StandsFor first front entries × StandsFor first held (take number entries)
