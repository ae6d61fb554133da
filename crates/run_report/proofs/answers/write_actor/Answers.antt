use Rattle.std.proofs.lemmas.Result.{err_from_is_err_and}
use Rattle.byte_ports.proofs.Joined.{part_first, then_rest}
use Rattle.run_report.specs.TextParts.{actor_line}
use Rattle.run_report.proofs.answers.write_actor.Goals as goal

pub returns-in_err-write_actor_line : goal.returns-in_err-write_actor_line
returns-in_err-write_actor_line g c =
    let p = err_from_is_err_and c.from_residual.result c.from_residual.ensures.1 in
    rw p.1
    (part_first _ _ (actor_line c.args.part.now.name) _ c.in_err-write_actor_line.ensures)

pub returns : goal.returns
returns g c =
    then_rest _ _ _ (actor_line c.args.part.now.name) _ _ c.in_ok-write_actor_line.ensures
    (rw c.as_slice.ensures at c.write_steps.ensures)
