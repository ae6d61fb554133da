use Rattle.std.proofs.Common.{codes}
use Rattle.byte_ports.proofs.Joined.{then_rest}
use Rattle.fabric_run.proofs.making.LineText.write.Goals as goal

pub returns : goal.returns
returns g c = then_rest _ _ _ c.args.self.now.text.items (codes "\n") _ (rw c.as_slice.ensures.value at c.in_ok-write_whole.ensures) c.write_whole-2.ensures
