use Rattle.std.proofs.Common.{take, map}
use Rattle.byte_ports.specs.Sinks.{Whole}
use Rattle.host_views.specs.Plain.{plain_placed}
use Rattle.run_report.specs.TextParts.{last_text}
use Rattle.run_report.proofs.mounts.write_last.Given as goal

abbrev pub invariant-loop-placed : goal.invariant-loop-placed
invariant-loop-placed g l =
    Whole (g.K.Sink.sink_view l.initial.sink) (g.K.Sink.sink_view l.sink) (last_text (map plain_placed (take l.placed-index l.views)))
