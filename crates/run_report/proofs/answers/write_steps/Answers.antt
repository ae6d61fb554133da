use Rattle.std.proofs.Common.{rules, arith}
use Rattle.std.proofs.lemmas.Result.{err_from_is_err_and}
use Rattle.run_report.specs.Text.{step_text}
use Rattle.run_report.proofs.Lines.{whole_numbered, part_numbered}
use Rattle.run_report.proofs.answers.write_steps.Goals as goal

pub returns-in_err-write_step : goal.returns-in_err-write_step
returns-in_err-write_step g c =
    let p = err_from_is_err_and c.from_residual.result c.from_residual.ensures.1 in
    rw p.1
    (part_numbered step_text _ _ _ 0 c.args.steps.now c.loop-i.i c.loop-i.i _ (search rules) (omega arith)
    c.loop-i.invariant c.in_err-write_step.ensures)

pub loop-i-preserved : goal.loop-i-preserved
loop-i-preserved g c =
    whole_numbered step_text _ _ _ 0 c.args.steps.now c.loop-i.i c.loop-i.i _ (search rules) (omega arith)
    c.loop-i.invariant c.in_ok-write_step.ensures
