-- What is told of a sink, and what writing appends to it.
use Rattle.std.specs.Prelude.{◌≡◌, ℕ, ◌≤◌, List, ◌++◌, take, length, slice_index_or, Option, Some, None, Result, Ok, Err}
use Rattle.counts.specs.Raised.{HasRisen}
use Rattle.byte_ports.specs.declared.Failed.{Failed}

-- the bytes written, where they are told; how many bytes each sink below it tells, the nearest first; the count of faults; and the reference that the sink is behind, 0 for none
pub record SinkView : Type 0 where
  pub written : Option (List ℕ)
  pub levels : List ℕ
  pub faults : ℕ
  pub reference : ℕ

-- a sink behind that reference
abbrev pub behind : ℕ → SinkView → SinkView
behind reference sink = record sink { reference = reference }

-- what every write leaves: the count of faults does not fall, nor what the sinks below tell, and the sink is behind the same reference
pub record IsAfterWrite (old new : SinkView) : Type 0 where
  pub faults : old.faults ≤ new.faults
  pub levels : (n : ℕ) → slice_index_or old.levels n 0 ≤ slice_index_or new.levels n 0
  pub reference : new.reference ≡ old.reference

-- the told bytes, and then a text
abbrev pub plus : Option (List ℕ) → List ℕ → Option (List ℕ)
plus None text = None
plus (Some written) text = Some (written ++ text)

-- all of the text is appended
pub record Whole (old new : SinkView) (text : List ℕ) : Type 0 where
  pub written : new.written ≡ plus old.written text
  pub goes_on : IsAfterWrite old new

-- a fault came: the text's first bytes are appended, and the count rose
pub record Part (old new : SinkView) (text : List ℕ) : Type 0 where
  pub upto : ℕ
  pub within : upto ≤ length text
  pub written : new.written ≡ plus old.written (take upto text)
  pub rose : HasRisen old.faults new.faults
  pub goes_on : IsAfterWrite old new

-- what writing a whole text leaves
abbrev pub Writes : SinkView → SinkView → List ℕ → Result (Unit {0}) Failed → Type 0
Writes old new text (Ok _) = Whole old new text
Writes old new text (Err _) = Part old new text

-- one write appended the piece's first bytes, one at least
pub record WritesFirst (old new : SinkView) (piece : List ℕ) (count : ℕ) : Type 0 where
  pub some : 1 ≤ count
  pub within : count ≤ length piece
  pub appended : Whole old new (take count piece)

-- one write failed: nothing is appended, and the count rose
pub record WriteFails (old new : SinkView) : Type 0 where
  pub written : new.written ≡ old.written
  pub rose : HasRisen old.faults new.faults
  pub goes_on : IsAfterWrite old new

-- what one write leaves
abbrev pub WritesSome : SinkView → SinkView → List ℕ → Result ℕ Failed → Type 0
WritesSome old new piece (Ok count) = WritesFirst old new piece count
WritesSome old new piece (Err _) = WriteFails old new
