use Rattle.std.proofs.lemmas.Result.{err_from_is_err_and}
use Rattle.byte_ports.proofs.Joined.{part_first, then_rest}
use Rattle.run_report.specs.TextParts.{tagged_head}
use Rattle.run_report.proofs.mounts.write_tagged.Goals as goal

pub returns-in_err-write_tagged_head : goal.returns-in_err-write_tagged_head
returns-in_err-write_tagged_head g c =
    let p = err_from_is_err_and c.from_residual.result c.from_residual.ensures.1 in
    rw p.1
    (part_first _ _ (tagged_head c.args.word.now c.args.tag) _ c.in_err-write_tagged_head.ensures)

pub returns : goal.returns
returns g c =
    then_rest _ _ _ (tagged_head c.args.word.now c.args.tag) _ _ c.in_ok-write_tagged_head.ensures
    (c.write_view_line.ensures)
