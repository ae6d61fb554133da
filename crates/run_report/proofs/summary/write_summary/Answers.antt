use Rattle.std.proofs.Common.{map, codes}
use Rattle.std.proofs.lemmas.Result.{err_from_is_err_and}
use Rattle.byte_ports.proofs.Joined.{part_first, part_then, then_rest}
use Rattle.run_report.specs.Journal.{plain_actor_part, plain_surface_part}
use Rattle.run_report.specs.Text.{number_line}
use Rattle.run_report.specs.Summary.{surface_lines}
use Rattle.run_report.proofs.summary.write_summary.Goals as goal

pub returns-in_err-write_tag_line : goal.returns-in_err-write_tag_line
returns-in_err-write_tag_line g c =
    let p = err_from_is_err_and c.from_residual.result c.from_residual.ensures.1 in
    rw p.1
    (part_first _ _ (number_line (codes "sweep") c.args.number) _ c.in_err-write_tag_line.ensures)

pub returns-in_err-write_surface_lines : goal.returns-in_err-write_surface_lines
returns-in_err-write_surface_lines g c =
    let p = err_from_is_err_and c.from_residual-in_err-write_surface_lines.result c.from_residual-in_err-write_surface_lines.ensures.1 in
    rw (p.1, ← c.as_slice.ensures, ← c.as_slice-2.ensures)
    (part_then _ _ _ (number_line (codes "sweep") c.args.number) _ c.in_ok-write_tag_line.ensures
    (part_first _ _ (surface_lines (map plain_actor_part c.as_slice.result.now) (map plain_surface_part c.as_slice-2.result.now)) _ c.in_err-write_surface_lines.ensures))

pub returns : goal.returns
returns g c =
    rw (← c.as_slice.ensures, ← c.as_slice-2.ensures)
    (then_rest _ _ _ (number_line (codes "sweep") c.args.number) _ _ c.in_ok-write_tag_line.ensures
    (then_rest _ _ _ (surface_lines (map plain_actor_part c.as_slice.result.now) (map plain_surface_part c.as_slice-2.result.now)) _ _ c.in_ok-write_surface_lines.ensures
    c.write_whole.ensures))
