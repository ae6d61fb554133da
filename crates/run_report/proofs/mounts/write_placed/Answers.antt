use Rattle.std.proofs.lemmas.Result.{err_from_is_err_and}
use Rattle.byte_ports.proofs.Joined.{part_first, then_rest}
use Rattle.run_report.specs.TextParts.{placed_head}
use Rattle.run_report.proofs.mounts.write_placed.Goals as goal

pub returns-in_err-write_placed_head : goal.returns-in_err-write_placed_head
returns-in_err-write_placed_head g c =
    let p = err_from_is_err_and c.from_residual.result c.from_residual.ensures.1 in
    rw p.1
    (part_first _ _ (placed_head c.args.placed.now.tag c.args.placed.now.parent c.args.placed.now.index) _ c.in_err-write_placed_head.ensures)

pub returns : goal.returns
returns g c =
    then_rest _ _ _ (placed_head c.args.placed.now.tag c.args.placed.now.parent c.args.placed.now.index) _ _ c.in_ok-write_placed_head.ensures
    (rw c.deref.ensures at c.write_view_line.ensures)
