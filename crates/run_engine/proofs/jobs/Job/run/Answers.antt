use Rattle.run_engine.proofs.JobsRun.{desks_made, desks_ready, job_has_run}
use Rattle.run_engine.proofs.jobs.Job.run.Goals as goal

pub run_actor-requires-clause-desks : goal.run_actor-requires-clause-desks
run_actor-requires-clause-desks g c =
    desks_ready c.args.spines.now.entries c.args.self.now c.requires c.in_ok-desks-2.desks.entries
    (desks_made c.args.spines.now.entries c.in_ok-desks-2.desks.entries c.replace-own.result c.args.self.now.passes c.replace-mine.result c.args.self.now.mounts
    c.replace-own.ensures.value c.replace-mine.ensures.value c.in_ok-desks-2.ensures)

pub returns : goal.returns
returns g c =
    job_has_run c.args.spines.now.entries c.args.self.now c.requires c.in_ok-desks-2.desks.entries
    (desks_made c.args.spines.now.entries c.in_ok-desks-2.desks.entries c.replace-own.result c.args.self.now.passes c.replace-mine.result c.args.self.now.mounts
    c.replace-own.ensures.value c.replace-mine.ensures.value c.in_ok-desks-2.ensures)
    c.run_actor.new.desks.entries _ c.in_ok-run_actor.ensures.keys c.in_ok-run_actor.ensures.run c.in_ok-run_actor.ensures.surfaces
    c.in_ok-passes-2.ensures.passes c.in_ok-passes-2.ensures.mounts
