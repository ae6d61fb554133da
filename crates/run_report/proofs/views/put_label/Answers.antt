use Rattle.std.proofs.Common.{[], ◌≡◌, rules, codes}
use Rattle.std.proofs.lemmas.Result.{err_from_is_err_and}
use Rattle.run_report.proofs.HeldBack.{fault_first, put_rest}
use Rattle.run_report.proofs.views.put_label.Goals as goal
use Rattle.run_report.proofs.Rows.{label_text_some}

pub returns-in_err-put : goal.returns-in_err-put
returns-in_err-put g c =
    let p = err_from_is_err_and c.from_residual.result c.from_residual.ensures.1 in
    let some : c.args.label.now ≡ [] → ⊥ = λ e. search rules in
    rw (p.1, label_text_some c.args.label.now some) (fault_first _ _ _ (codes " label=") _ c.in_err-put.ensures)

pub returns : goal.returns
returns g c =
    let some : c.args.label.now ≡ [] → ⊥ = λ e. search rules in
    rw (label_text_some c.args.label.now some)
    (put_rest _ _ _ _ _ _ (codes " label=") _ _ c.in_ok-put.ensures (rw c.bytes-bytes.ensures.bytes at c.put_hex.ensures))
