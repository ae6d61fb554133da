use Rattle.std.proofs.Common.{◌≡◌, ◌-◌, ◌≤◌, length, take, drop}
use Rattle.byte_ports.specs.Sinks.{Whole}
use Rattle.byte_ports.proofs.block_sink.BlockSink.flush.Given as goal

abbrev pub decreases-loop-self : goal.decreases-loop-self
decreases-loop-self g l = length l.self-inside.block.items - l.self-inside.done

abbrev pub invariant-loop-self : goal.invariant-loop-self
invariant-loop-self g l = record {
  block : l.self-inside.block ≡ l.initial.self-inside.block;
  room : l.self-inside.room ≡ l.initial.self-inside.room;
  from : l.initial.self-inside.done ≤ l.self-inside.done;
  to : l.self-inside.done ≤ length l.self-inside.block.items;
  below : Whole (g.K.Sink.sink_view l.initial.self-inside.below) (g.K.Sink.sink_view l.self-inside.below) (take (l.self-inside.done - l.initial.self-inside.done) (drop l.initial.self-inside.done l.self-inside.block.items));
}
