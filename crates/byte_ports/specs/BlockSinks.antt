-- A sink that gathers bytes into a block before it hands them on to the sink below.
use Rattle.std.specs.Prelude.{◌≡◌, ℕ, List, [], ◌∷◌, drop, length, Option, Some, None, Result, Ok, Err}
use Rattle.byte_ports.specs.Sinks.{SinkView, plus, Whole, Part, Writes}
use Rattle.byte_ports.specs.declared.Failed.{Failed}

-- the sink below, the bytes that are held back, how many bytes fit into the block, and how many more fit before some are handed on
pub record BlockSinkState : Type 0 where
  pub below : SinkView
  pub held : List ℕ
  pub room : ℕ
  pub free : ℕ

-- how many bytes are told
abbrev pub told_length : Option (List ℕ) → ℕ
told_length None = 0
told_length (Some written) = length written

-- what it tells as a sink: what the sink below tells, and then what it holds back
abbrev pub block_view_of : BlockSinkState → SinkView
block_view_of state = record {
  written = plus state.below.written state.held;
  levels = told_length state.below.written ∷ state.below.levels;
  faults = state.below.faults;
  reference = state.below.reference;
}

-- nothing is held back: all of it is handed on
pub record HandsOn (old new : BlockSinkState) : Type 0 where
  pub below : Whole old.below new.below old.held
  pub held : new.held ≡ []
  pub room : new.room ≡ old.room
  pub free : new.free ≡ new.room

-- a write below failed: the first bytes of what was held back are handed on, and the others are held back still
pub record HandsOnPart (old new : BlockSinkState) : Type 0 where
  pub below : Part old.below new.below old.held
  pub held : new.held ≡ drop below.upto old.held
  pub room : new.room ≡ old.room
  pub free : new.free ≡ old.free

-- what handing on leaves
abbrev pub HandsOnSome : BlockSinkState → BlockSinkState → Result (Unit {0}) Failed → Type 0
HandsOnSome old new (Ok _) = HandsOn old new
HandsOnSome old new (Err _) = HandsOnPart old new

-- a block sink that holds nothing back, over a sink
abbrev pub over : SinkView → ℕ → BlockSinkState
over below room = record { below = below; held = []; room = room; free = room }

-- what is written through a block sink and handed on at the end comes to this on the sink below
abbrev pub EndsAs : (state : BlockSinkState) → Result (Unit {0}) Failed → SinkView → Result (Unit {0}) Failed → Type 0
EndsAs state written after result =
    (below : SinkView) (room : ℕ) (text : List ℕ)
    → Writes (block_view_of (over below room)) (block_view_of state) text written → Writes below after text result
