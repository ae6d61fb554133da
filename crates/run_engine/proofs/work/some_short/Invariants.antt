use Rattle.std.proofs.Common.{◌≡◌, false, take}
use Rattle.std.specs.List.{list_any}
use Rattle.run_engine.proofs.work.some_short.Given as goal

abbrev pub invariant-loop-job : goal.invariant-loop-job
invariant-loop-job l = list_any (λ job. job.short) (take l.job-index l.jobs) ≡ false
