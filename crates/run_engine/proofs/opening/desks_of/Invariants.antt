use Rattle.std.proofs.Common.{◌≡◌, List, ◌++◌, length, take}
use Rattle.std.specs.Map.{keys_of}
use Rattle.run_report.specs.Machine.{ActorNow}
use Rattle.run_engine.specs.Opening.{AreHistories, AreDesksAtStart}
use Rattle.run_engine.proofs.opening.desks_of.Given as goal

abbrev pub invariant-loop-spine : goal.invariant-loop-spine
invariant-loop-spine l =
    (l.fn.spines.items ≡ l.yielded ++ l.spine-iterator.rest.items)
    × (length l.desks.entries ≡ length l.yielded)
    × (keys_of l.desks.entries ≡ keys_of (take (length l.yielded) l.fn.first))
    × ((actors : List ActorNow) → AreHistories actors l.fn.first l.fn.spines.items → AreDesksAtStart actors (take (length l.yielded) l.fn.first) l.desks.entries)
