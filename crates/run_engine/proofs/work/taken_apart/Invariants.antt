use Rattle.std.proofs.Common.{◌≡◌, ◌++◌, map}
use Rattle.run_engine.specs.Jobs.{mount_at_desk, pass_at_desk}
use Rattle.run_engine.proofs.work.taken_apart.Given as goal

abbrev pub invariant-loop-desk : goal.invariant-loop-desk
invariant-loop-desk l =
    (map pass_at_desk l.fn.desks.entries ≡ l.passes.items ++ map pass_at_desk l.desk-iterator)
    × (map mount_at_desk l.fn.desks.entries ≡ l.mounts.items ++ map mount_at_desk l.desk-iterator)
