use Rattle.std.proofs.Common.{rules, map}
use Rattle.std.proofs.lemmas.Result.{err_from_is_err_and}
use Rattle.run_report.specs.Journal.{plain_actor_part, plain_surface_part}
use Rattle.run_report.specs.Summary.{surface_line}
use Rattle.run_report.proofs.Lines.{whole_mapped, part_mapped}
use Rattle.run_report.proofs.summary.write_surface_lines.Goals as goal

pub returns-in_err-write_surface_line : goal.returns-in_err-write_surface_line
returns-in_err-write_surface_line g c =
    let p = err_from_is_err_and c.from_residual.result c.from_residual.ensures.1 in
    rw p.1
    (part_mapped (surface_line (map plain_actor_part c.args.actors.now)) plain_surface_part _ _ _ c.args.parts.now c.loop-part.part-index c.part-item.result (search rules) c.part-item.is
    c.loop-part.invariant c.in_err-write_surface_line.ensures)

pub loop-part-preserved : goal.loop-part-preserved
loop-part-preserved g c =
    whole_mapped (surface_line (map plain_actor_part c.args.actors.now)) plain_surface_part _ _ _ c.args.parts.now c.loop-part.part-index c.part-item.result (search rules) c.part-item.is
    c.loop-part.invariant c.in_ok-write_surface_line.ensures
