use Rattle.std.proofs.Common.{◌≡◌, ◌++◌, length, map, take}
use Rattle.std.specs.Map.{keys_of}
use Rattle.run_engine.specs.Jobs.{mount_at_desk, pass_at_desk}
use Rattle.run_engine.proofs.work.desks_with.Given as goal

abbrev pub invariant-loop-pass : goal.invariant-loop-pass
invariant-loop-pass l =
    (l.fn.passes.items ≡ l.yielded ++ l.pass-iterator.rest.items)
    × (map pass_at_desk l.desks.entries ≡ l.yielded)
    × (map mount_at_desk l.desks.entries ++ l.mounts.rest.items ≡ l.fn.mounts.items)
    × (keys_of l.desks.entries ≡ keys_of (take (length l.desks.entries) l.spines.entries))
