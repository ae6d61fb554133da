-- A line that is put together before it is written.
use Rattle.std.specs.Prelude.{◌≡◌, ℕ, List, ◌++◌, Result, Ok, Err}
use Rattle.byte_ports.specs.declared.Failed.{Failed}
use Rattle.byte_ports.specs.Sinks.{Part, SinkView, Whole}

-- of what was held back and of a text behind it, the first bytes are written, and the others are held back
pub record IsHeldBack (old : SinkView) (held : List ℕ) (new : SinkView) (left text : List ℕ) : Type 0 where
  pub written : List ℕ
  pub parted : held ++ text ≡ written ++ left
  pub whole : Whole old new written

-- what putting a text behind what is held back leaves
abbrev pub Puts : (old : SinkView) → (held : List ℕ) → (new : SinkView) → (left text : List ℕ) → Result (Unit {0}) Failed → Type 0
Puts old held new left text (Ok _) = IsHeldBack old held new left text
Puts old held new left text (Err _) = Part old new (held ++ text)
