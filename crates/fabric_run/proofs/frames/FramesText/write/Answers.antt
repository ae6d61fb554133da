use Rattle.std.proofs.Common.{codes}
use Rattle.std.proofs.lemmas.Result.{err_from_is_err_and}
use Rattle.std.specs.List.{flat_map}
use Rattle.byte_ports.proofs.Joined.{part_first, part_then, then_rest}
use Rattle.fabric_run.specs.Frames.{surface_frames_text}
use Rattle.fabric_run.proofs.frames.FramesText.write.Goals as goal

pub returns-in_err-write_whole : goal.returns-in_err-write_whole
returns-in_err-write_whole g c =
    let p = err_from_is_err_and c.from_residual.result c.from_residual.ensures.1 in
    rw p.1
    (part_first _ _ (codes "frames\n") _ c.in_err-write_whole.ensures)

pub returns-in_err-write_surfaces : goal.returns-in_err-write_surfaces
returns-in_err-write_surfaces g c =
    let p = err_from_is_err_and c.from_residual-in_err-write_surfaces.result c.from_residual-in_err-write_surfaces.ensures.1 in
    rw p.1
    (part_then _ _ _ (codes "frames\n") _ c.in_ok-write_whole.ensures
    (part_first _ _ (flat_map surface_frames_text c.args.self.now.surfaces.items) _ (rw c.as_slice.ensures.value at c.in_err-write_surfaces.ensures)))

pub returns : goal.returns
returns g c =
    then_rest _ _ _ (codes "frames\n") _ _ c.in_ok-write_whole.ensures
    (then_rest _ _ _ (flat_map surface_frames_text c.args.self.now.surfaces.items) _ _ (rw c.as_slice.ensures.value at c.in_ok-write_surfaces.ensures)
    c.write_whole-2.ensures)
