use Rattle.std.proofs.Common.{◌≡◌, ◌++◌, drop, map, take}
use Rattle.script_read.specs.Plain.{plain_actor}
use Rattle.run_engine.specs.Jobs.{after_own_pass, own_pass}
use Rattle.run_engine.proofs.jobs.split_passes.Given as goal

abbrev pub invariant-loop-place : goal.invariant-loop-place
invariant-loop-place l =
    (l.own.items ≡ map (own_pass (plain_actor l.plan).steps) (take l.place l.fn.passes.entries))
    × (l.passes.entries ≡ map (after_own_pass (plain_actor l.plan).steps) (take l.place l.fn.passes.entries) ++ drop l.place l.fn.passes.entries)
