use Rattle.std.proofs.Common.{rules}
use Rattle.std.proofs.lemmas.Result.{err_from_is_err_and}
use Rattle.frame_watch.proofs.Telling.{one_told, one_refuses, all_told}
use Rattle.frame_watch.proofs.watcher.tell.Goals as goal

pub returns-in_err-tell_one : goal.returns-in_err-tell_one
returns-in_err-tell_one g c =
    let refused = err_from_is_err_and c.from_residual.result c.from_residual.ensures.1 in
    rw refused.1 (one_refuses _ _ c.loop-at.at _ c.loop-at.watchers.items c.index_mut.result.now c.tell_one.new.watcher (search rules) c.index_mut.ensures.value c.loop-at.invariant c.in_err-tell_one.ensures)

pub loop-at-preserved : goal.loop-at-preserved
loop-at-preserved g c = one_told _ _ c.loop-at.at _ c.loop-at.watchers.items c.index_mut.result.now c.tell_one.new.watcher (search rules) c.index_mut.ensures.value c.loop-at.invariant c.in_ok-tell_one.ensures

pub returns : goal.returns
returns g c = all_told _ _ c.loop-at.at _ c.loop-at.watchers.items (search rules) c.loop-at.invariant
