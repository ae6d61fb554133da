use Rattle.std.proofs.Common.{arith, refl}
use Rattle.std.proofs.lemmas.Result.{err_from_is_err_and}
use Rattle.byte_ports.proofs.Blocks.{none_handed, more_handed, part_handed}
use Rattle.byte_ports.proofs.block_sink.BlockSink.flush.Goals as goal

pub loop-self-init : goal.loop-self-init
loop-self-init g c = record {
  block = refl;
  room = refl;
  from = omega arith;
  to = omega arith;
  below = none_handed _ c.self.inside.block.items c.self.inside.done;
}

pub returns-in_err-self-inside : goal.returns-in_err-self-inside
returns-in_err-self-inside g c =
    let failed = err_from_is_err_and c.from_residual.result c.from_residual.ensures.1 in
    let kept = c.loop-self.invariant in
    rw (failed.1, ← c.self.view_is, ← kept.block, ← kept.room)
    (part_handed _ _ _ c.loop-self.self-inside.block.items c.self.inside.done c.loop-self.self-inside.done _ _ kept.from kept.to kept.below c.in_err-self-inside.ensures)

pub loop-self-preserved : goal.loop-self-preserved
loop-self-preserved g c =
    let kept = c.loop-self.invariant in
    let wrote = c.in_ok-self-inside.ensures in
    record {
      block = kept.block;
      room = kept.room;
      from = omega (arith, kept.from);
      to = omega (arith, wrote.within);
      below = more_handed _ _ _ c.loop-self.self-inside.block.items c.self.inside.done c.loop-self.self-inside.done c.in_ok-self-inside.field-0 kept.from kept.to kept.below (rw c.deref.ensures.value at wrote.appended);
    }
