use Rattle.std.proofs.Common.{rules}
use Rattle.std.proofs.lemmas.Result.{err_from_is_err_and}
use Rattle.fabric_run.specs.Frames.{mount_frames_text}
use Rattle.fabric_run.proofs.EachLine.{part_item, whole_item}
use Rattle.fabric_run.proofs.frames.write_mounts.Goals as goal

pub returns-in_err-write_mount : goal.returns-in_err-write_mount
returns-in_err-write_mount g c =
    let p = err_from_is_err_and c.from_residual.result c.from_residual.ensures.1 in
    rw p.1
    (part_item mount_frames_text _ _ _ c.args.mounts.now c.loop-mount.mount-index c.mount-item.result (search rules) c.mount-item.is c.loop-mount.invariant
    c.in_err-write_mount.ensures)

pub loop-mount-preserved : goal.loop-mount-preserved
loop-mount-preserved g c =
    whole_item mount_frames_text _ _ _ c.args.mounts.now c.loop-mount.mount-index c.mount-item.result (search rules) c.mount-item.is c.loop-mount.invariant
    c.in_ok-write_mount.ensures
