use Rattle.std.proofs.Common.{◌≡◌, ◌++◌, length, map}
use Rattle.indexmap.specs.IndexMap.{keys}
use Rattle.run_report.specs.Journal.{plain_actor_part}
use Rattle.run_report.specs.Machine.{actor_part_of}
use Rattle.run_engine.specs.Now.{worker_now}
use Rattle.run_engine.specs.Ends.{AreListed, actors_of, mounts_of}
use Rattle.run_engine.proofs.runs.Run.finish.Given as goal

abbrev pub invariant-loop-worker : goal.invariant-loop-worker
invariant-loop-worker l =
    (l.fn.self.workers.items ≡ l.yielded ++ l.worker-iterator.rest.items)
    × (map plain_actor_part l.actors ≡ map (λ worker. actor_part_of (worker_now worker)) l.yielded)
    × (length l.mounts.items ≡ length (keys l.fn.self.desks))
    × AreListed (λ id. mounts_of id (actors_of l.yielded)) (keys l.fn.self.desks) l.mounts.items
