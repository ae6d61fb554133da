-- A source over bytes in memory, some of whose calls fail.
use Rattle.std.specs.Prelude.{◌≡◌, ◌==◌, ℕ, List, Bool, true, false, Some, take, drop, length, min, Result, Ok, Err}
use Rattle.std.specs.List.{list_any}
use Rattle.counts.specs.Raised.{raised}
use Rattle.byte_ports.specs.Sources.{SourceView}
use Rattle.byte_ports.specs.declared.Failed.{Failed}

-- the bytes left, the numbers of the calls that fail, the number of the next call, the most bytes of one call, and the count of faults
pub record MemorySourceState : Type 0 where
  pub left : List ℕ
  pub fails : List ℕ
  pub calls : ℕ
  pub most : ℕ
  pub faults : ℕ

-- what it tells as a source
abbrev pub source_view_of : MemorySourceState → SourceView
source_view_of state = record { left = Some state.left; faults = state.faults }

-- the number stands in the list
abbrev pub is_listed : ℕ → List ℕ → Bool
is_listed number list = list_any (λ item. item == number) list

-- a call that is not listed gives as many bytes as fit
pub record Gives (old new : MemorySourceState) (buffer : List ℕ) (count : ℕ) : Type 0 where
  pub not_listed : is_listed old.calls old.fails ≡ false
  pub amount : count ≡ min (min (length old.left) (length buffer)) old.most
  pub given : take count buffer ≡ take count old.left
  pub after : new ≡ record old { left = drop count old.left; calls = raised old.calls 1 }

-- a listed call fails
pub record GivesNone (old new : MemorySourceState) : Type 0 where
  pub listed : is_listed old.calls old.fails ≡ true
  pub after : new ≡ record old { calls = raised old.calls 1; faults = raised old.faults 1 }

-- what one read leaves, with the buffer as it is afterwards
abbrev pub MemoryReads : MemorySourceState → MemorySourceState → List ℕ → Result ℕ Failed → Type 0
MemoryReads old new buffer (Ok count) = Gives old new buffer count
MemoryReads old new buffer (Err _) = GivesNone old new
