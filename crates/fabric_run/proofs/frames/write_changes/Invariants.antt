use Rattle.std.proofs.Common.{take}
use Rattle.std.specs.List.{flat_map}
use Rattle.byte_ports.specs.Sinks.{Whole}
use Rattle.fabric_run.specs.Frames.{change_line}
use Rattle.fabric_run.proofs.frames.write_changes.Given as goal

abbrev pub invariant-loop-change : goal.invariant-loop-change
invariant-loop-change g l = Whole (g.K.Sink.sink_view l.initial.out) (g.K.Sink.sink_view l.out) (flat_map change_line (take l.change-index l.changes))
