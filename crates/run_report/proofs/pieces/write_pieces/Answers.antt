use Rattle.std.proofs.lemmas.Result.{err_from_is_err_and}
use Rattle.run_report.proofs.HeldBack.{line_ended, line_fault}
use Rattle.run_report.proofs.pieces.write_pieces.Goals as goal

pub returns-in_err-put_pieces : goal.returns-in_err-put_pieces
returns-in_err-put_pieces g c =
    let p = err_from_is_err_and c.from_residual.result c.from_residual.ensures.1 in
    rw p.1 (line_fault _ _ c.new-held.result.items _ c.new-held.ensures c.in_err-put_pieces.ensures)

pub returns : goal.returns
returns g c =
    line_ended _ _ _ c.new-held.result.items _ _ _ c.new-held.ensures c.in_ok-put_pieces.ensures
    (rw c.as_slice.ensures.value at c.write_whole.ensures)
