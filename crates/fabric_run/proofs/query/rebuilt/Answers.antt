use Rattle.std.proofs.Common.{rules}
use Rattle.fabric_run.proofs.Rebuilding.{next_follows, next_held, next_pushed}
use Rattle.fabric_run.proofs.query.rebuilt.Goals as goal

pub push-requires-clause-op : goal.push-requires-clause-op
push-requires-clause-op c = (next_follows c.args.first c.args.records.now c.loop-entry.entry-index c.entry-item.result (search rules) c.entry-item.is c.requires.lawful).in_range

pub push-requires-clause-held : goal.push-requires-clause-held
push-requires-clause-held c =
    next_held c.args.first c.args.records.now c.loop-entry.entry-index c.entry-item.result (search rules) c.entry-item.is c.requires.lawful c.loop-entry.rebuild c.loop-entry.invariant

pub loop-entry-preserved : goal.loop-entry-preserved
loop-entry-preserved c =
    next_pushed c.args.first c.args.records.now c.loop-entry.entry-index c.entry-item.result (search rules) c.entry-item.is c.requires.lawful c.loop-entry.rebuild c.push.new.self
    c.in_ok-_none._none c.loop-entry.invariant c.in_ok-_none.ensures
