use Rattle.std.proofs.Common.{take, map}
use Rattle.byte_ports.specs.Sinks.{Whole}
use Rattle.run_report.specs.Journal.{plain_actor_part, plain_surface_part}
use Rattle.run_report.specs.Summary.{surface_lines}
use Rattle.run_report.proofs.summary.write_surface_lines.Given as goal

abbrev pub invariant-loop-part : goal.invariant-loop-part
invariant-loop-part g l =
    Whole (g.K.Sink.sink_view l.initial.sink) (g.K.Sink.sink_view l.sink) (surface_lines (map plain_actor_part l.actors) (map plain_surface_part (take l.part-index l.parts)))
