use Rattle.std.proofs.Common.{map}
use Rattle.std.proofs.lemmas.Result.{err_from_is_err_and}
use Rattle.byte_ports.proofs.Joined.{part_first, part_then, then_rest}
use Rattle.run_report.specs.Journal.{plain_actor_part}
use Rattle.run_report.specs.Text.{by_text}
use Rattle.run_report.specs.TextParts.{mount_head}
use Rattle.run_report.proofs.mounts.write_mount.Goals as goal

pub returns-in_err-write_mount_head : goal.returns-in_err-write_mount_head
returns-in_err-write_mount_head g c =
    let p = err_from_is_err_and c.from_residual.result c.from_residual.ensures.1 in
    rw p.1
    (part_first _ _ (mount_head c.args.mount.now.base c.args.mount.now.to) _ c.in_err-write_mount_head.ensures)

pub returns-in_err-write_by : goal.returns-in_err-write_by
returns-in_err-write_by g c =
    let p = err_from_is_err_and c.from_residual-in_err-write_by.result c.from_residual-in_err-write_by.ensures.1 in
    rw p.1
    (part_then _ _ _ (mount_head c.args.mount.now.base c.args.mount.now.to) _ c.in_ok-write_mount_head.ensures
    (part_first _ _ (by_text (map plain_actor_part c.args.actors.now) c.args.mount.now.by) _ c.in_err-write_by.ensures))

pub returns : goal.returns
returns g c =
    then_rest _ _ _ (mount_head c.args.mount.now.base c.args.mount.now.to) _ _ c.in_ok-write_mount_head.ensures
    (then_rest _ _ _ (by_text (map plain_actor_part c.args.actors.now) c.args.mount.now.by) _ _ c.in_ok-write_by.ensures
    (rw c.as_slice.ensures at c.write_mutations.ensures))
