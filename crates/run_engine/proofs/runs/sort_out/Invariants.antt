use Rattle.std.proofs.Common.{◌≡◌, ℕ, List, ◌++◌, length}
use Rattle.indexmap.specs.IndexMap.{keys}
use Rattle.run_report.specs.Journal.{PlainMount}
use Rattle.run_actor.specs.Runs.{mounts_made_on}
use Rattle.run_engine.specs.Ends.{AreListed}
use Rattle.run_engine.proofs.runs.sort_out.Given as goal

abbrev pub invariant-loop-id : goal.invariant-loop-id
invariant-loop-id g l =
    (l.fn.own.items ≡ l.yielded ++ l.id-iterator.rest.items)
    × (length l.lists.items ≡ length (keys l.surfaces))
    × ((told : ℕ → List PlainMount) → AreListed told (keys l.surfaces) l.fn.lists.items → AreListed (λ id. told id ++ mounts_made_on id l.yielded) (keys l.surfaces) l.lists.items)
