use Rattle.std.proofs.Common.{take, map}
use Rattle.byte_ports.specs.Sinks.{Whole}
use Rattle.run_report.specs.Journal.{plain_actor_part, plain_mount}
use Rattle.run_report.specs.TextParts.{transactions_text}
use Rattle.run_report.proofs.mounts.write_transactions.Given as goal

abbrev pub invariant-loop-mount : goal.invariant-loop-mount
invariant-loop-mount g l =
    Whole (g.K.Sink.sink_view l.initial.sink) (g.K.Sink.sink_view l.sink) (transactions_text (map plain_actor_part l.actors) (map plain_mount (take l.mount-index l.mounts)))
