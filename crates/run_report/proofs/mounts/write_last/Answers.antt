use Rattle.std.proofs.Common.{rules}
use Rattle.std.proofs.lemmas.Result.{err_from_is_err_and}
use Rattle.host_views.specs.Plain.{plain_placed}
use Rattle.run_report.specs.Text.{placed_text}
use Rattle.run_report.proofs.Lines.{whole_mapped, part_mapped}
use Rattle.run_report.proofs.mounts.write_last.Goals as goal

pub returns-in_err-write_placed : goal.returns-in_err-write_placed
returns-in_err-write_placed g c =
    let p = err_from_is_err_and c.from_residual.result c.from_residual.ensures.1 in
    rw p.1
    (part_mapped (placed_text) plain_placed _ _ _ c.args.views.now c.loop-placed.placed-index c.placed-item.result (search rules) c.placed-item.is
    c.loop-placed.invariant c.in_err-write_placed.ensures)

pub loop-placed-preserved : goal.loop-placed-preserved
loop-placed-preserved g c =
    whole_mapped (placed_text) plain_placed _ _ _ c.args.views.now c.loop-placed.placed-index c.placed-item.result (search rules) c.placed-item.is
    c.loop-placed.invariant c.in_ok-write_placed.ensures
