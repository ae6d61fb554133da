-- A sink over memory of a fixed room, some of whose calls fail.
use Rattle.std.specs.Prelude.{◌≡◌, ℕ, ◌-◌, ◌<◌, ◌≤◌, ◌⊎◌, List, [], true, false, Some, ◌++◌, take, length, min, Result, Ok, Err}
use Rattle.counts.specs.Raised.{raised}
use Rattle.byte_ports.specs.Sinks.{SinkView}
use Rattle.byte_ports.specs.MemorySources.{is_listed}
use Rattle.byte_ports.specs.declared.Failed.{Failed}

-- the bytes written, the most bytes that it holds, the numbers of the calls that fail, the number of the next call, the most bytes of one call, and the count of faults
pub record MemorySinkState : Type 0 where
  pub written : List ℕ
  pub room : ℕ
  pub fails : List ℕ
  pub calls : ℕ
  pub most : ℕ
  pub faults : ℕ

-- what it tells as a sink
abbrev pub sink_view_of : MemorySinkState → SinkView
sink_view_of state = record { written = Some state.written; levels = []; faults = state.faults; reference = 0 }

-- a call that is not listed takes as many bytes as the room still holds
pub record Accepts (old new : MemorySinkState) (piece : List ℕ) (count : ℕ) : Type 0 where
  pub not_listed : is_listed old.calls old.fails ≡ false
  pub not_full : length old.written < old.room
  pub amount : count ≡ min (min (length piece) (old.room - length old.written)) old.most
  pub after : new ≡ record old { written = old.written ++ take count piece; calls = raised old.calls 1 }

-- a listed call fails, and a call to a full sink
pub record AcceptsNone (old new : MemorySinkState) : Type 0 where
  pub cause : (is_listed old.calls old.fails ≡ true) ⊎ (old.room ≤ length old.written)
  pub after : new ≡ record old { calls = raised old.calls 1; faults = raised old.faults 1 }

-- what one write leaves
abbrev pub MemoryWrites : MemorySinkState → MemorySinkState → List ℕ → Result ℕ Failed → Type 0
MemoryWrites old new piece (Ok count) = Accepts old new piece count
MemoryWrites old new piece (Err _) = AcceptsNone old new
