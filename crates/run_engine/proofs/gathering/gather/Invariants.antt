use Rattle.run_engine.proofs.JobsGather.{HaveCome}
use Rattle.run_engine.proofs.gathering.gather.Given as goal

abbrev pub invariant-loop-job : goal.invariant-loop-job
invariant-loop-job l = HaveCome l.spines.entries l.fn.jobs.items l.fn.passes.entries l.fn.mounts.items l.job-iterator.rest.items l.actors.items l.passes.entries l.mounts.items
