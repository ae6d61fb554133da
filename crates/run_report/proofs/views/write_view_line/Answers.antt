use Rattle.std.proofs.lemmas.Result.{err_from_is_err_and}
use Rattle.run_report.specs.Text.{view_text}
use Rattle.run_report.proofs.HeldBack.{fault_first, fault_then, held_both, line_ended, line_fault}
use Rattle.run_report.proofs.views.write_view_line.Goals as goal

pub returns-in_err-put_view : goal.returns-in_err-put_view
returns-in_err-put_view g c =
    let p = err_from_is_err_and c.from_residual.result c.from_residual.ensures.1 in
    rw p.1
    (line_fault _ _ c.new-held.result.items _ c.new-held.ensures (fault_first _ _ _ (view_text c.args.view.now) _ c.in_err-put_view.ensures))

pub returns-in_err-put : goal.returns-in_err-put
returns-in_err-put g c =
    let p = err_from_is_err_and c.from_residual-in_err-put.result c.from_residual-in_err-put.ensures.1 in
    rw p.1
    (line_fault _ _ c.new-held.result.items _ c.new-held.ensures
    (fault_then _ _ _ _ _ (view_text c.args.view.now) _ c.in_ok-put_view.ensures c.in_err-put.ensures))

pub returns : goal.returns
returns g c =
    line_ended _ _ _ c.new-held.result.items _ _ _ c.new-held.ensures
    (held_both _ _ _ _ _ _ (view_text c.args.view.now) _ c.in_ok-put_view.ensures c.in_ok-put.ensures)
    (rw c.as_slice.ensures.value at c.write_whole.ensures)
