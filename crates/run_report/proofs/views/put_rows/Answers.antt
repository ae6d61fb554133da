use Rattle.std.proofs.Common.{arith}
use Rattle.std.proofs.lemmas.Result.{err_from_is_err_and}
use Rattle.run_report.proofs.views.put_rows.Goals as goal
use Rattle.prop_table.specs.Rules.{rules_of, rule_of}
use Rattle.std.proofs.lemmas.List.{length-map}
use Rattle.run_report.proofs.Rows.{fault_row, held_row}

pub returns-in_err-put_row : goal.returns-in_err-put_row
returns-in_err-put_row g c =
    let p = err_from_is_err_and c.from_residual.result c.from_residual.ensures.1 in
    rw p.1
    (fault_row _ _ _ _ _ (rules_of c.args.table.now) c.args.props.now c.loop-row.row (omega (arith, length-map c.args.table.now.rows.now rule_of, c.args.table.now.sized))
    c.loop-row.invariant c.in_err-put_row.ensures)

pub loop-row-preserved : goal.loop-row-preserved
loop-row-preserved g c =
    held_row _ _ _ _ _ _ (rules_of c.args.table.now) c.args.props.now c.loop-row.row (omega (arith, length-map c.args.table.now.rows.now rule_of, c.args.table.now.sized))
    c.loop-row.invariant c.in_ok-put_row.ensures
