use Rattle.std.proofs.Common.{take}
use Rattle.std.specs.List.{AllZip}
use Rattle.script_read.specs.Plain.{plain_actor}
use Rattle.run_engine.specs.Jobs.{IsMountFor}
use Rattle.run_engine.proofs.jobs.mounts_for.Given as goal

abbrev pub invariant-loop-opening : goal.invariant-loop-opening
invariant-loop-opening l = AllZip (IsMountFor (plain_actor l.plan)) (take l.opening-index l.first) l.mounts.items
