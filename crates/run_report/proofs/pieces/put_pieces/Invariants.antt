use Rattle.std.proofs.Common.{take}
use Rattle.run_report.specs.Lines.{IsHeldBack}
use Rattle.run_report.specs.Pieces.{text_of}
use Rattle.run_report.proofs.pieces.put_pieces.Given as goal

abbrev pub invariant-loop-piece : goal.invariant-loop-piece
invariant-loop-piece g l =
    IsHeldBack (g.K.Sink.sink_view l.initial.sink) l.initial.held.items (g.K.Sink.sink_view l.sink) l.held.items (text_of (take l.piece-index l.pieces))
