use Rattle.std.proofs.Common.{take}
use Rattle.std.specs.List.{flat_map}
use Rattle.byte_ports.specs.Sinks.{Whole}
use Rattle.fabric_run.specs.Query.{finding_line}
use Rattle.fabric_run.proofs.query.write_findings.Given as goal

abbrev pub invariant-loop-finding : goal.invariant-loop-finding
invariant-loop-finding g l = Whole (g.K.Sink.sink_view l.initial.out) (g.K.Sink.sink_view l.out) (flat_map finding_line (take l.finding-index l.findings))
