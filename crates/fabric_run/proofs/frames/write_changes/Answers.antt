use Rattle.std.proofs.Common.{rules}
use Rattle.std.proofs.lemmas.Result.{err_from_is_err_and}
use Rattle.byte_ports.proofs.Joined.{part_each, whole_each}
use Rattle.fabric_run.specs.Frames.{change_line}
use Rattle.fabric_run.proofs.frames.write_changes.Goals as goal

pub returns-in_err-write_change : goal.returns-in_err-write_change
returns-in_err-write_change g c =
    let p = err_from_is_err_and c.from_residual.result c.from_residual.ensures.1 in
    rw p.1
    (part_each change_line _ _ _ c.args.changes.now c.loop-change.change-index _ (search rules) c.loop-change.invariant c.in_err-write_change.ensures)

pub loop-change-preserved : goal.loop-change-preserved
loop-change-preserved g c =
    whole_each change_line _ _ _ c.args.changes.now c.loop-change.change-index _ (search rules) c.loop-change.invariant c.in_ok-write_change.ensures
