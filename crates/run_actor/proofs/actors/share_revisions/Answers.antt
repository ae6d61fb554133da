use Rattle.run_actor.proofs.Starts.{next_entries}
use Rattle.run_actor.proofs.actors.share_revisions.Goals as goal

pub loop-entry-preserved : goal.loop-entry-preserved
loop-entry-preserved c =
    next_entries c.args.first.now c.loop-entry.entry-index c.entry-item.result c.in_ok-share.field-0 c.loop-entry.held.entries c.insert.new.self.entries
    c.requires c.loop-entry-test.true c.entry-item.is c.in_ok-share.ensures c.loop-entry.invariant c.in-Ok.ensures.entries
