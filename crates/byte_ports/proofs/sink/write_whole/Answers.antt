use Rattle.std.proofs.Common.{rules}
use Rattle.byte_ports.proofs.Joined.{whole_taken}
use Rattle.byte_ports.proofs.sink.write_whole.Goals as goal

pub loop-done-preserved : goal.loop-done-preserved
loop-done-preserved g c = record {
  within = search rules;
  written = whole_taken _ _ _ c.args.piece.now c.loop-done.done c.in_ok-done.field-0 c.loop-done.invariant.written c.in_ok-done.ensures.appended;
}
