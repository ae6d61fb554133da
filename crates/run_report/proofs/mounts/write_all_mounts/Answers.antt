use Rattle.std.proofs.Common.{rules, map, length}
use Rattle.std.proofs.lemmas.Result.{err_from_is_err_and}
use Rattle.run_report.specs.Named.{NamesActors}
use Rattle.run_report.specs.Journal.{plain_actor_part, plain_surface_part}
use Rattle.run_report.specs.Text.{mounts_text}
use Rattle.run_report.proofs.Lines.{whole_mapped, part_mapped, plain_at}
use Rattle.run_report.proofs.mounts.write_all_mounts.Goals as goal

pub returns-in_err-write_mounts : goal.returns-in_err-write_mounts
returns-in_err-write_mounts g c =
    let p = err_from_is_err_and c.from_residual.result c.from_residual.ensures.1 in
    rw p.1
    (part_mapped (mounts_text (map plain_actor_part c.args.actors.now)) plain_surface_part _ _ _ c.args.parts.now c.loop-part.part-index c.part-item.result (search rules) c.part-item.is
    c.loop-part.invariant c.in_err-write_mounts.ensures)

pub loop-part-preserved : goal.loop-part-preserved
loop-part-preserved g c =
    whole_mapped (mounts_text (map plain_actor_part c.args.actors.now)) plain_surface_part _ _ _ c.args.parts.now c.loop-part.part-index c.part-item.result (search rules) c.part-item.is
    c.loop-part.invariant c.in_ok-write_mounts.ensures

pub write_mounts-requires : goal.write_mounts-requires
write_mounts-requires g c =
    plain_at (NamesActors (length c.args.actors.now)) plain_surface_part c.args.parts.now
    c.loop-part.part-index c.part-item.result (search rules) c.part-item.is c.requires
