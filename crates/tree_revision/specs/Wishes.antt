-- Wishes: what commits ask for in place of the changes that their steps have.
use Rattle.std.specs.Prelude.{ℕ, List}
use Rattle.tree_revision.specs.Records.{PlainOp, PlainRecord}
use Rattle.tree_revision.specs.InRange.{IsOpInRange}

-- what a commit asks for at a look after these records, by an actor that holds the revision of that number: the change that its step has, or another in its place
abbrev pub Wish : Type 0
Wish = List PlainRecord → (held : ℕ) → PlainOp → PlainOp

-- no wish: each change as its step has it
abbrev pub as_written : Wish
as_written entries held op = op

-- what is wished of a change in range is in range
abbrev pub KeepsRange : Wish → Type 0
KeepsRange wish = (entries : List PlainRecord) (held : ℕ) (op : PlainOp) → IsOpInRange op → IsOpInRange (wish entries held op)
