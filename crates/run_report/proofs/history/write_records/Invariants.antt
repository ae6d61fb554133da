use Rattle.std.proofs.Common.{take, map}
use Rattle.byte_ports.specs.Sinks.{Whole}
use Rattle.tree_revision.specs.Records.{plain_record}
use Rattle.run_report.specs.Journal.{plain_actor_part}
use Rattle.run_report.specs.TextParts.{records_text}
use Rattle.run_report.proofs.history.write_records.Given as goal

abbrev pub invariant-loop-i : goal.invariant-loop-i
invariant-loop-i g l =
    Whole (g.K.Sink.sink_view l.initial.sink) (g.K.Sink.sink_view l.sink)
    (records_text (map plain_actor_part l.actors) (map plain_record (take l.i l.records)))
