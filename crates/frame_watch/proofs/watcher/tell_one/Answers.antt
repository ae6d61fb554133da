use Rattle.std.proofs.Common.{rules}
use Rattle.std.proofs.lemmas.Result.{err_from_is_err_and}
use Rattle.frame_watch.proofs.Hearing.{one_heard, one_refused}
use Rattle.frame_watch.proofs.watcher.tell_one.Goals as goal

pub returns-in_err-tell_change : goal.returns-in_err-tell_change
returns-in_err-tell_change g c =
    let refused = err_from_is_err_and c.from_residual.result c.from_residual.ensures.1 in
    rw refused.1 (one_refused c.args.surface c.args.to c.args.list.now c.loop-change.change-index _ _ _ (search rules) c.loop-change.invariant c.in_err-tell_change.ensures)

pub loop-change-preserved : goal.loop-change-preserved
loop-change-preserved g c =
    one_heard c.args.surface c.args.to c.args.list.now c.loop-change.change-index _ _ _ _ (search rules) c.loop-change.invariant c.in_ok-tell_change.ensures
