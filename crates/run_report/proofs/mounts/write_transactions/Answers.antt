use Rattle.std.proofs.Common.{rules, map, length}
use Rattle.std.proofs.lemmas.Result.{err_from_is_err_and}
use Rattle.run_report.specs.Named.{IsByActor}
use Rattle.run_report.specs.Journal.{plain_actor_part, plain_mount}
use Rattle.run_report.specs.Text.{mount_text}
use Rattle.run_report.proofs.Lines.{whole_mapped, part_mapped, plain_at}
use Rattle.run_report.proofs.mounts.write_transactions.Goals as goal

pub returns-in_err-write_mount : goal.returns-in_err-write_mount
returns-in_err-write_mount g c =
    let p = err_from_is_err_and c.from_residual.result c.from_residual.ensures.1 in
    rw p.1
    (part_mapped (mount_text (map plain_actor_part c.args.actors.now)) plain_mount _ _ _ c.args.mounts.now c.loop-mount.mount-index c.mount-item.result (search rules) c.mount-item.is
    c.loop-mount.invariant c.in_err-write_mount.ensures)

pub loop-mount-preserved : goal.loop-mount-preserved
loop-mount-preserved g c =
    whole_mapped (mount_text (map plain_actor_part c.args.actors.now)) plain_mount _ _ _ c.args.mounts.now c.loop-mount.mount-index c.mount-item.result (search rules) c.mount-item.is
    c.loop-mount.invariant c.in_ok-write_mount.ensures

pub write_mount-requires : goal.write_mount-requires
write_mount-requires g c =
    plain_at (λ mount. IsByActor (length c.args.actors.now) mount.by) plain_mount c.args.mounts.now
    c.loop-mount.mount-index c.mount-item.result (search rules) c.mount-item.is c.requires
