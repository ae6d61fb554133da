use Rattle.std.proofs.Common.{rules}
use Rattle.std.proofs.lemmas.Result.{err_from_is_err_and}
use Rattle.run_report.specs.Journal.{plain_actor_part}
use Rattle.run_report.specs.Text.{actor_text}
use Rattle.run_report.proofs.Lines.{whole_mapped, part_mapped}
use Rattle.run_report.proofs.answers.write_actors.Goals as goal

pub returns-in_err-write_actor : goal.returns-in_err-write_actor
returns-in_err-write_actor g c =
    let p = err_from_is_err_and c.from_residual.result c.from_residual.ensures.1 in
    rw p.1
    (part_mapped (actor_text) plain_actor_part _ _ _ c.args.parts.now c.loop-part.part-index c.part-item.result (search rules) c.part-item.is
    c.loop-part.invariant c.in_err-write_actor.ensures)

pub loop-part-preserved : goal.loop-part-preserved
loop-part-preserved g c =
    whole_mapped (actor_text) plain_actor_part _ _ _ c.args.parts.now c.loop-part.part-index c.part-item.result (search rules) c.part-item.is
    c.loop-part.invariant c.in_ok-write_actor.ensures
