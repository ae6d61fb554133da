use Rattle.std.proofs.Common.{take}
use Rattle.prop_table.specs.Rules.{rules_of}
use Rattle.prop_table.specs.PairText.{pairs_text_of}
use Rattle.run_report.specs.Lines.{IsHeldBack}
use Rattle.run_report.proofs.views.put_rows.Given as goal

abbrev pub invariant-loop-row : goal.invariant-loop-row
invariant-loop-row g l =
    IsHeldBack (g.K.Sink.sink_view l.initial.sink) l.initial.held.items (g.K.Sink.sink_view l.sink) l.held.items
    (pairs_text_of (take l.row (rules_of l.table)) l.props)
