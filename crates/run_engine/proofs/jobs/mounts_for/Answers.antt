use Rattle.script_read.specs.Plain.{plain_actor}
use Rattle.run_engine.specs.Jobs.{IsMountFor}
use Rattle.run_engine.proofs.JobsBegin.{zip_next}
use Rattle.run_engine.proofs.jobs.mounts_for.Goals as goal

pub loop-opening-preserved : goal.loop-opening-preserved
loop-opening-preserved c =
    zip_next (IsMountFor (plain_actor c.args.plan.now)) c.args.first.now c.loop-opening.mounts.items c.push.new.self.items c.loop-opening.opening-index c.opening-item.result _
    c.loop-opening-test.true c.opening-item.is c.in_ok-push.ensures.items c.loop-opening.invariant c.in_ok-mount_for.ensures
