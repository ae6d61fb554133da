use Rattle.std.proofs.Common.{take}
use Rattle.std.specs.List.{AllZip}
use Rattle.run_engine.specs.Jobs.{IsUnmounted}
use Rattle.run_engine.proofs.jobs.coordinators_of.Given as goal

abbrev pub invariant-loop-opening : goal.invariant-loop-opening
invariant-loop-opening l = AllZip (λ entry. IsUnmounted entry.1) (take l.opening-index l.first) l.mounts.items
