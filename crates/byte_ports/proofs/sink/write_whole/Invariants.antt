use Rattle.std.proofs.Common.{◌-◌, ◌≤◌, length, take}
use Rattle.byte_ports.specs.Sinks.{Whole}
use Rattle.byte_ports.proofs.sink.write_whole.Given as goal

abbrev pub decreases-loop-done : goal.decreases-loop-done
decreases-loop-done g l = length l.piece - l.done

abbrev pub invariant-loop-done : goal.invariant-loop-done
invariant-loop-done g l = record {
  within : l.done ≤ length l.piece;
  written : Whole (g.K.Sink.sink_view l.initial.sink) (g.K.Sink.sink_view l.sink) (take l.done l.piece);
}
