use Rattle.std.proofs.Common.{arith, inl, inr}
use Rattle.std.proofs.lemmas.Grind.{common_steps}
use Rattle.byte_ports.proofs.memory_sink.MemorySinkSink.write.Goals as goal
use Rattle.byte_ports.proofs.memory_sink.MemorySinkSink.write.Goals.{then-is_listed-via-then-is_listed, then-is_listed-via-else-is_listed+then-len-self}

pub returns-then-is_listed-clause-exact : goal.returns-then-is_listed-clause-exact
returns-then-is_listed-clause-exact c = elim c.then-is_listed.branch [
  | then-is_listed-via-then-is_listed w ↦ record { cause = inl (grind (arith, common_steps)); after = grind (arith, common_steps) }
  | then-is_listed-via-else-is_listed+then-len-self w ↦ record { cause = inr (grind (arith, common_steps)); after = grind (arith, common_steps) }
]
