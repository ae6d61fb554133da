use Rattle.std.proofs.Common.{take}
use Rattle.byte_ports.specs.Sinks.{Whole}
use Rattle.run_report.specs.TextParts.{steps_text}
use Rattle.run_report.proofs.answers.write_steps.Given as goal

abbrev pub invariant-loop-i : goal.invariant-loop-i
invariant-loop-i g l = Whole (g.K.Sink.sink_view l.initial.sink) (g.K.Sink.sink_view l.sink) (steps_text (take l.i l.steps))
