use Rattle.std.proofs.Common.{codes}
use Rattle.std.proofs.lemmas.Result.{err_from_is_err_and}
use Rattle.byte_ports.proofs.Joined.{part_first, then_rest}
use Rattle.run_report.specs.TextParts.{pair_line}
use Rattle.fabric_run.proofs.frames.write_mount.Goals as goal

pub returns-in_err-write_pieces : goal.returns-in_err-write_pieces
returns-in_err-write_pieces g c =
    let p = err_from_is_err_and c.from_residual.result c.from_residual.ensures.1 in
    rw p.1
    (part_first _ _ (pair_line (codes "mount") c.args.mount.now.base c.args.mount.now.to) _ c.in_err-write_pieces.ensures)

pub returns : goal.returns
returns g c =
    then_rest _ _ _ (pair_line (codes "mount") c.args.mount.now.base c.args.mount.now.to) _ _ c.in_ok-write_pieces.ensures
    (rw c.as_slice.ensures at c.write_changes.ensures)
