use Rattle.std.proofs.Common.{sym}
use Rattle.run_engine.proofs.Loops.{at_item}
use Rattle.run_engine.proofs.Places.{any_at}
use Rattle.run_engine.proofs.work.some_short.Goals as goal

pub returns-then-job : goal.returns-then-job
returns-then-job c =
    sym (any_at (λ job. job.short) c.args.jobs.now c.loop-job.job-index c.job-item.result (at_item c.args.jobs.now c.loop-job.job-index c.job-item.result c.job-item.is c.loop-job-test.true) c.if-job.true)
