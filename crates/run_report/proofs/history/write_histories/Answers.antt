use Rattle.std.proofs.Common.{rules, map, length}
use Rattle.std.proofs.lemmas.Result.{err_from_is_err_and}
use Rattle.run_report.specs.Named.{NamesActors}
use Rattle.run_report.specs.Journal.{plain_actor_part, plain_surface_part}
use Rattle.run_report.specs.Text.{history_text}
use Rattle.run_report.proofs.Lines.{part_mapped, plain_at}
use Rattle.run_report.proofs.history.write_histories.Goals as goal

pub returns-in_err-write_history : goal.returns-in_err-write_history
returns-in_err-write_history g c =
    let p = err_from_is_err_and c.from_residual.result c.from_residual.ensures.1 in
    rw p.1
    (part_mapped (history_text (map plain_actor_part c.args.actors.now)) plain_surface_part _ _ _ c.args.parts.now c.loop-part.part-index c.part-item.result (search rules) c.part-item.is
    c.loop-part.invariant c.in_err-write_history.ensures)

pub write_history-requires : goal.write_history-requires
write_history-requires g c =
    plain_at (NamesActors (length c.args.actors.now)) plain_surface_part c.args.parts.now c.loop-part.part-index c.part-item.result (search rules) c.part-item.is c.requires
