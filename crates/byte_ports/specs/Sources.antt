-- What is told of a source, and what reading takes from it.
use Rattle.std.specs.Prelude.{◌≡◌, ℕ, ◌+◌, ◌<◌, ◌≤◌, List, [], ◌++◌, take, drop, length, Option, Some, None, Result, Ok, Err}
use Rattle.counts.specs.Raised.{HasRisen}
use Rattle.byte_ports.specs.declared.Failed.{Failed}
use Rattle.byte_ports.specs.declared.source.Taken.{Taken}
use Rattle.byte_ports.specs.declared.source.Taken.TheVariants.{Whole, Beyond}
use Rattle.byte_ports.specs.declared.source.ReadRefusal.{ReadRefusal}
use Rattle.byte_ports.specs.declared.source.ReadRefusal.TheVariants.{Failed as ReadFailed, Memory}

-- the bytes left, where they are told, and the count of faults
pub record SourceView : Type 0 where
  pub left : Option (List ℕ)
  pub faults : ℕ

-- some bytes, and then the told ones
abbrev pub put_before : List ℕ → Option (List ℕ) → Option (List ℕ)
put_before bytes None = None
put_before bytes (Some left) = Some (bytes ++ left)

-- the told bytes without their first n
abbrev pub left_after : ℕ → Option (List ℕ) → Option (List ℕ)
left_after n None = None
left_after n (Some left) = Some (drop n left)

-- the told bytes are exactly these
abbrev pub IsToldAs : Option (List ℕ) → List ℕ → Type 0
IsToldAs None bytes = Unit {0}
IsToldAs (Some left) bytes = left ≡ bytes

-- the told bytes are more than n
abbrev pub IsLongerThan : ℕ → Option (List ℕ) → Type 0
IsLongerThan n None = Unit {0}
IsLongerThan n (Some left) = n < length left

-- a read took the first bytes left, and put them at the front of the buffer; none only at the end
pub record Reads (old new : SourceView) (buffer : List ℕ) (count : ℕ) : Type 0 where
  pub within : count ≤ length buffer
  pub taken : old.left ≡ put_before (take count buffer) new.left
  pub ended : count ≡ 0 → IsToldAs new.left []
  pub faults : old.faults ≤ new.faults

-- a read failed: nothing is taken, and the count rose
pub record ReadFails (old new : SourceView) : Type 0 where
  pub left : new.left ≡ old.left
  pub rose : HasRisen old.faults new.faults
  pub faults : old.faults ≤ new.faults

-- what one read leaves, with the buffer as it is afterwards
abbrev pub ReadsSome : SourceView → SourceView → List ℕ → Result ℕ Failed → Type 0
ReadsSome old new buffer (Ok count) = Reads old new buffer count
ReadsSome old new buffer (Err _) = ReadFails old new

-- the source was read to its end, and these at most limit bytes were all that it had left
pub record TookWhole (old new : SourceView) (limit : ℕ) (bytes : List ℕ) : Type 0 where
  pub within : length bytes ≤ limit
  pub told : IsToldAs old.left bytes
  pub left : new.left ≡ left_after (length bytes) old.left
  pub ended : IsToldAs new.left []
  pub faults : old.faults ≤ new.faults

-- more than limit bytes were left, and the first limit + 1 of them are taken
pub record TookBeyond (old new : SourceView) (limit : ℕ) : Type 0 where
  pub beyond : IsLongerThan limit old.left
  pub left : new.left ≡ left_after (limit + 1) old.left
  pub faults : old.faults ≤ new.faults

-- some of the first limit + 1 bytes left are taken
pub record TookSome (old new : SourceView) (limit : ℕ) : Type 0 where
  pub count : ℕ
  pub within : count ≤ limit + 1
  pub left : new.left ≡ left_after count old.left
  pub faults : old.faults ≤ new.faults

-- what reading up to a limit leaves: a failed read only where the count of faults rose
abbrev pub Took : SourceView → SourceView → ℕ → Result Taken ReadRefusal → Type 0
Took old new limit (Ok (Whole bytes)) = TookWhole old new limit bytes.items
Took old new limit (Ok Beyond) = TookBeyond old new limit
Took old new limit (Err ReadFailed) = TookSome old new limit × HasRisen old.faults new.faults
Took old new limit (Err Memory) = TookSome old new limit

-- one piece is read and kept: its bytes go from the front of the source to the end of what is held
pub record KeepsPiece (old new : SourceView) (held kept : List ℕ) (room count : ℕ) : Type 0 where
  pub piece : List ℕ
  pub counted : count ≡ length piece
  pub within : length piece ≤ room
  pub grown : kept ≡ held ++ piece
  pub taken : old.left ≡ put_before piece new.left
  pub ended : length piece ≡ 0 → IsToldAs new.left []
  pub faults : old.faults ≤ new.faults

-- one piece is taken from the front of the source and may be lost
pub record LosesPiece (old new : SourceView) (room : ℕ) : Type 0 where
  pub piece : List ℕ
  pub within : length piece ≤ room
  pub taken : old.left ≡ put_before piece new.left
  pub faults : old.faults ≤ new.faults

-- what reading one piece of at most room bytes leaves
abbrev pub TookPiece : SourceView → SourceView → List ℕ → List ℕ → ℕ → Result ℕ ReadRefusal → Type 0
TookPiece old new held kept room (Ok count) = KeepsPiece old new held kept room count
TookPiece old new held kept room (Err ReadFailed) = ReadFails old new
TookPiece old new held kept room (Err Memory) = LosesPiece old new room
