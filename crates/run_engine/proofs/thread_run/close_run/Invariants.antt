use Rattle.std.proofs.Common.{◌≡◌, ◌++◌, length, map}
use Rattle.indexmap.specs.IndexMap.{keys}
use Rattle.run_report.specs.Journal.{plain_actor_part}
use Rattle.run_report.specs.Machine.{actor_part_of}
use Rattle.run_actor.specs.Actors.{actor_now}
use Rattle.run_engine.specs.Ends.{AreListed, mounts_of}
use Rattle.run_engine.proofs.thread_run.close_run.Given as goal

abbrev pub invariant-loop-actor : goal.invariant-loop-actor
invariant-loop-actor l =
    (l.fn.worked.actors.items ≡ l.yielded ++ l.actor-iterator.rest.items)
    × (map plain_actor_part l.parts ≡ map (λ actor. actor_part_of (actor_now actor)) l.yielded)
    × (length l.mounts.items ≡ length (keys l.fn.spines))
    × AreListed (λ id. mounts_of id l.yielded) (keys l.fn.spines) l.mounts.items
