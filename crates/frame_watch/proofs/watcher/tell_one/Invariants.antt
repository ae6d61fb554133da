use Rattle.std.proofs.Common.{take}
use Rattle.frame_watch.specs.Watchers.{HearsAll, entries_of}
use Rattle.frame_watch.proofs.watcher.tell_one.Given as goal

abbrev pub invariant-loop-change : goal.invariant-loop-change
invariant-loop-change g l =
    HearsAll (entries_of l.surface l.to (take l.change-index l.list))
    ((goal.Watcher-dyn g (l.initial.watcher.vtable, l.initial.watcher.value)).watcher_view l.initial.watcher.value)
    ((goal.Watcher-dyn g (l.watcher.vtable, l.watcher.value)).watcher_view l.watcher.value)
