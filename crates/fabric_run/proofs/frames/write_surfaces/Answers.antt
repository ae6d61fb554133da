use Rattle.std.proofs.Common.{rules}
use Rattle.std.proofs.lemmas.Result.{err_from_is_err_and}
use Rattle.fabric_run.specs.Frames.{surface_frames_text}
use Rattle.fabric_run.proofs.EachLine.{part_item, whole_item}
use Rattle.fabric_run.proofs.frames.write_surfaces.Goals as goal

pub returns-in_err-write_surface : goal.returns-in_err-write_surface
returns-in_err-write_surface g c =
    let p = err_from_is_err_and c.from_residual.result c.from_residual.ensures.1 in
    rw p.1
    (part_item surface_frames_text _ _ _ c.args.surfaces.now c.loop-surface.surface-index c.surface-item.result (search rules) c.surface-item.is c.loop-surface.invariant
    c.in_err-write_surface.ensures)

pub loop-surface-preserved : goal.loop-surface-preserved
loop-surface-preserved g c =
    whole_item surface_frames_text _ _ _ c.args.surfaces.now c.loop-surface.surface-index c.surface-item.result (search rules) c.surface-item.is c.loop-surface.invariant
    c.in_ok-write_surface.ensures
