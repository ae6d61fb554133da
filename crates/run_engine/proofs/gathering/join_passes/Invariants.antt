use Rattle.std.proofs.Common.{◌≡◌, ◌++◌, length}
use Rattle.std.specs.Map.{keys_of}
use Rattle.run_engine.proofs.JobsJoin.{IsJoinedAt}
use Rattle.run_engine.proofs.Places.{AreChangedBelow, StandFrom}
use Rattle.run_engine.proofs.gathering.join_passes.Given as goal

abbrev pub invariant-loop-pass : goal.invariant-loop-pass
invariant-loop-pass l =
    (l.fn.own.items ≡ l.yielded ++ l.pass-iterator.rest.items)
    × (l.place ≡ length l.yielded)
    × (keys_of l.passes.entries ≡ keys_of l.fn.passes.entries)
    × AreChangedBelow (IsJoinedAt l.fn.own.items) l.fn.passes.entries l.passes.entries l.place
    × StandFrom l.fn.passes.entries l.passes.entries l.place
