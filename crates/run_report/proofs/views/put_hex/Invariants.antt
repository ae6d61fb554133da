use Rattle.std.proofs.Common.{take}
use Rattle.run_report.specs.Lines.{IsHeldBack}
use Rattle.run_report.specs.Text.{hex_text}
use Rattle.run_report.proofs.views.put_hex.Given as goal

abbrev pub invariant-loop-byte : goal.invariant-loop-byte
invariant-loop-byte g l =
    IsHeldBack (g.K.Sink.sink_view l.initial.sink) l.initial.held.items (g.K.Sink.sink_view l.sink) l.held.items (hex_text (take l.byte-index l.bytes))
