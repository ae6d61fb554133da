-- What a line on the error stream leaves.
use Rattle.std.proofs.Common.{List, ℕ, inl, inr}
use Rattle.std.specs.Prelude.{Result, Ok, Err}
use Rattle.byte_ports.specs.Sinks.{SinkView, Writes}
use Rattle.byte_ports.specs.declared.Failed.{Failed}
use Rattle.fabric_run.specs.Texts.{Tells}

-- written whole or in part, the line is told
pub told : (old new : SinkView) (line : List ℕ) (result : Result (Unit {0}) Failed) → Writes old new line result → Tells old new line
told old new line (Ok _) h = inl h
told old new line (Err _) h = inr h
