use Rattle.std.proofs.Common.{codes}
use Rattle.std.proofs.lemmas.Result.{err_from_is_err_and}
use Rattle.byte_ports.proofs.Joined.{part_first, then_rest}
use Rattle.run_report.specs.Text.{number_line}
use Rattle.fabric_run.proofs.frames.write_surface.Goals as goal

pub returns-in_err-write_tag_line : goal.returns-in_err-write_tag_line
returns-in_err-write_tag_line g c =
    let p = err_from_is_err_and c.from_residual.result c.from_residual.ensures.1 in
    rw p.1
    (part_first _ _ (number_line (codes "surface") c.args.surface.now.id) _ c.in_err-write_tag_line.ensures)

pub returns : goal.returns
returns g c =
    then_rest _ _ _ (number_line (codes "surface") c.args.surface.now.id) _ _ c.in_ok-write_tag_line.ensures
    (rw c.as_slice.ensures at c.write_mounts.ensures)
