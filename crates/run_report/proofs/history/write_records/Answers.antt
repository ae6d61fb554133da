use Rattle.std.proofs.Common.{◌<◌, rules, arith, ◌+◌, map, length}
use Rattle.std.proofs.lemmas.Result.{err_from_is_err_and}
use Rattle.run_report.specs.Journal.{plain_actor_part}
use Rattle.tree_revision.specs.Records.{plain_record}
use Rattle.run_report.specs.Text.{record_text}
use Rattle.run_report.proofs.Lines.{whole_next, part_next, plain_at}
use Rattle.run_report.proofs.history.write_records.Goals as goal

pub write_record-requires : goal.write_record-requires
write_record-requires g c =
    plain_at (λ entry. entry.actor < length c.args.actors.now) plain_record c.args.records.now
    c.loop-i.i c.index-records-i.result (search rules) c.index-records-i.is c.requires

pub returns-in_err-write_record : goal.returns-in_err-write_record
returns-in_err-write_record g c =
    let p = err_from_is_err_and c.from_residual.result c.from_residual.ensures.1 in
    rw p.1
    (part_next (record_text (map plain_actor_part c.args.actors.now)) plain_record _ _ _ 1 c.args.records.now c.loop-i.i (c.loop-i.i + 1) c.index-records-i.result (search rules) c.index-records-i.is (omega arith)
    c.loop-i.invariant c.in_err-write_record.ensures)

pub loop-i-preserved : goal.loop-i-preserved
loop-i-preserved g c =
    whole_next (record_text (map plain_actor_part c.args.actors.now)) plain_record _ _ _ 1 c.args.records.now c.loop-i.i (c.loop-i.i + 1) c.index-records-i.result (search rules) c.index-records-i.is (omega arith)
    c.loop-i.invariant c.in_ok-write_record.ensures
