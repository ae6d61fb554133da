use Rattle.std.proofs.Common.{map, codes}
use Rattle.std.proofs.lemmas.Result.{err_from_is_err_and}
use Rattle.byte_ports.proofs.Joined.{part_first, part_then, then_rest}
use Rattle.run_report.specs.Journal.{plain_actor_part, plain_mount}
use Rattle.run_report.specs.Text.{number_line}
use Rattle.run_report.specs.TextParts.{transactions_text}
use Rattle.run_report.proofs.mounts.write_mounts.Goals as goal

pub returns-in_err-write_tag_line : goal.returns-in_err-write_tag_line
returns-in_err-write_tag_line g c =
    let p = err_from_is_err_and c.from_residual.result c.from_residual.ensures.1 in
    rw p.1
    (part_first _ _ (number_line (codes "mounts") c.args.part.now.id) _ c.in_err-write_tag_line.ensures)

pub returns-in_err-write_transactions : goal.returns-in_err-write_transactions
returns-in_err-write_transactions g c =
    let p = err_from_is_err_and c.from_residual-in_err-write_transactions.result c.from_residual-in_err-write_transactions.ensures.1 in
    rw p.1
    (part_then _ _ _ (number_line (codes "mounts") c.args.part.now.id) _ c.in_ok-write_tag_line.ensures
    (part_first _ _ (transactions_text (map plain_actor_part c.args.actors.now) (map plain_mount c.args.part.now.mounts)) _ (rw c.as_slice-mounts.ensures at c.in_err-write_transactions.ensures)))

pub returns-in_err-write_tag_line-2 : goal.returns-in_err-write_tag_line-2
returns-in_err-write_tag_line-2 g c =
    let p = err_from_is_err_and c.from_residual-in_err-write_tag_line-2.result c.from_residual-in_err-write_tag_line-2.ensures.1 in
    rw p.1
    (part_then _ _ _ (number_line (codes "mounts") c.args.part.now.id) _ c.in_ok-write_tag_line.ensures
    (part_then _ _ _ (transactions_text (map plain_actor_part c.args.actors.now) (map plain_mount c.args.part.now.mounts)) _ (rw c.as_slice-mounts.ensures at c.in_ok-write_transactions.ensures)
    (part_first _ _ (number_line (codes "views") c.args.part.now.id) _ c.in_err-write_tag_line-2.ensures)))

pub returns : goal.returns
returns g c =
    then_rest _ _ _ (number_line (codes "mounts") c.args.part.now.id) _ _ c.in_ok-write_tag_line.ensures
    (then_rest _ _ _ (transactions_text (map plain_actor_part c.args.actors.now) (map plain_mount c.args.part.now.mounts)) _ _ (rw c.as_slice-mounts.ensures at c.in_ok-write_transactions.ensures)
    (then_rest _ _ _ (number_line (codes "views") c.args.part.now.id) _ _ c.in_ok-write_tag_line-2.ensures
    (rw c.as_slice-views.ensures at c.write_last.ensures)))
