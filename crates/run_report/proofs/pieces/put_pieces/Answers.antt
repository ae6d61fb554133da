use Rattle.std.proofs.Common.{rules}
use Rattle.std.proofs.lemmas.Result.{err_from_is_err_and}
use Rattle.run_report.proofs.Lines.{held_piece, fault_piece}
use Rattle.run_report.proofs.pieces.put_pieces.Goals as goal

pub loop-piece-preserved : goal.loop-piece-preserved
loop-piece-preserved g c =
    held_piece _ _ _ _ _ _ c.args.pieces.now c.loop-piece.piece-index _ (search rules) c.loop-piece.invariant c.in_ok-put_piece.ensures

pub returns-in_err-put_piece : goal.returns-in_err-put_piece
returns-in_err-put_piece g c =
    let p = err_from_is_err_and c.from_residual.result c.from_residual.ensures.1 in
    rw p.1 (fault_piece _ _ _ _ _ c.args.pieces.now c.loop-piece.piece-index _ (search rules) c.loop-piece.invariant c.in_err-put_piece.ensures)
