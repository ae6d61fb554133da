use Rattle.std.proofs.Common.{◌≡◌, ◌++◌, length}
use Rattle.run_engine.proofs.JobsJoin.{IsKeptAt}
use Rattle.run_engine.proofs.Places.{AreChangedBelow, StandFrom}
use Rattle.run_engine.proofs.gathering.keep_mounts.Given as goal

abbrev pub invariant-loop-mount : goal.invariant-loop-mount
invariant-loop-mount l =
    (l.fn.own.items ≡ l.yielded ++ l.mount-iterator.rest.items)
    × (l.place ≡ length l.yielded)
    × (length l.mounts.items ≡ length l.fn.mounts.items)
    × AreChangedBelow (IsKeptAt l.fn.own.items) l.fn.mounts.items l.mounts.items l.place
    × StandFrom l.fn.mounts.items l.mounts.items l.place
