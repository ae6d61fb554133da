use Rattle.std.proofs.Common.{take, map}
use Rattle.byte_ports.specs.Sinks.{Whole}
use Rattle.host_views.specs.Plain.{plain_mutation}
use Rattle.run_report.specs.TextParts.{mutations_text}
use Rattle.run_report.proofs.mounts.write_mutations.Given as goal

abbrev pub invariant-loop-mutation : goal.invariant-loop-mutation
invariant-loop-mutation g l =
    Whole (g.K.Sink.sink_view l.initial.sink) (g.K.Sink.sink_view l.sink) (mutations_text (map plain_mutation (take l.mutation-index l.mutations)))
