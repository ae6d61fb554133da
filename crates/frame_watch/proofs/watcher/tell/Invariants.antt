use Rattle.std.proofs.Common.{map}
use Rattle.frame_watch.specs.Watchers.{entries_of}
use Rattle.frame_watch.proofs.Telling.{AreToldUpto}
use Rattle.frame_watch.proofs.watcher.tell.Given as goal

abbrev pub invariant-loop-at : goal.invariant-loop-at
invariant-loop-at g l =
    AreToldUpto (entries_of l.surface l.to l.list) l.at
    (map (λ watcher. (goal.Watcher-dyn g (watcher.vtable, watcher.value)).watcher_view watcher.value) l.initial.watchers.items)
    (map (λ watcher. (goal.Watcher-dyn g (watcher.vtable, watcher.value)).watcher_view watcher.value) l.watchers.items)
