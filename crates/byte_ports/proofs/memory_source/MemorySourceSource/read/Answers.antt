use Rattle.std.proofs.Common.{arith, drop, refl}
use Rattle.std.proofs.lemmas.Grind.{common_steps}
use Rattle.byte_ports.proofs.Taking.{gives_reads}
use Rattle.byte_ports.proofs.memory_source.MemorySourceSource.read.Goals as goal

pub returns-clause-told : goal.returns-clause-told
returns-clause-told c =
    gives_reads _ _ (drop c.self.inside.taken c.self.inside.bytes.items) _ _ c.self.inside.most
    (rw (← c.self.view_is) refl)
    (grind (arith, common_steps))
    (rw (← c.self.view_is) (omega arith))
    (grind (arith, common_steps))
    (grind (arith, common_steps))
    (grind (arith, common_steps))
    (omega arith)
