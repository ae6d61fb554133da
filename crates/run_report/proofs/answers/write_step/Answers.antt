use Rattle.std.proofs.lemmas.Result.{err_from_is_err_and}
use Rattle.byte_ports.proofs.Joined.{part_first, then_rest}
use Rattle.run_report.specs.TextParts.{step_head}
use Rattle.run_report.proofs.answers.write_step.Goals as goal

pub returns-in_err-write_step_head : goal.returns-in_err-write_step_head
returns-in_err-write_step_head g c =
    let p = err_from_is_err_and c.from_residual.result c.from_residual.ensures.1 in
    rw p.1
    (part_first _ _ (step_head c.args.call c.args.step.surface) _ c.in_err-write_step_head.ensures)

pub returns : goal.returns
returns g c =
    then_rest _ _ _ (step_head c.args.call c.args.step.surface) _ _ c.in_ok-write_step_head.ensures
    (c.write_answer.ensures)
