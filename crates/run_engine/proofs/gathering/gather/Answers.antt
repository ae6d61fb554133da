use Rattle.std.proofs.Common.{[], arith}
use Rattle.run_engine.proofs.JobsGather.{all_actors, all_gathered, next_joins, next_keeps, none_came, one_more_came}
use Rattle.run_engine.proofs.gathering.gather.Goals as goal

pub loop-job-init : goal.loop-job-init
loop-job-init c =
    none_came c.args.spines.now.entries c.args.jobs.items c.args.passes.now.entries c.args.mounts.items c.into_iter-job-iterator.result.rest.items c.args.actors.items
    c.into_iter-job-iterator.ensures.into_iter_gives.0 c.requires.empty c.requires.may

pub join_passes-requires : goal.join_passes-requires
join_passes-requires c =
    next_joins c.args.spines.now.entries c.args.jobs.items c.args.passes.now.entries c.args.mounts.items c.loop-job.job-iterator.rest.items c.next.new.self.rest.items c.in-Some.job
    c.loop-job.actors.items [] c.loop-job.passes.entries [] c.loop-job.mounts.items [] c.loop-job.invariant c.in-Some.ensures.steps.0

pub keep_mounts-requires : goal.keep_mounts-requires
keep_mounts-requires c =
    next_keeps c.args.spines.now.entries c.args.jobs.items c.args.passes.now.entries c.args.mounts.items c.loop-job.job-iterator.rest.items c.next.new.self.rest.items c.in-Some.job
    c.loop-job.actors.items [] c.loop-job.passes.entries [] c.loop-job.mounts.items [] c.loop-job.invariant c.in-Some.ensures.steps.0

pub loop-job-preserved : goal.loop-job-preserved
loop-job-preserved c =
    one_more_came c.args.spines.now.entries c.args.jobs.items c.args.passes.now.entries c.args.mounts.items c.loop-job.job-iterator.rest.items c.next.new.self.rest.items c.in-Some.job
    c.loop-job.actors.items c.push.new.self.items c.loop-job.passes.entries c.join_passes.new.passes.entries c.loop-job.mounts.items c.keep_mounts.new.mounts.items c.loop-job.invariant
    c.in-Some.ensures.steps.0 c.join_passes.ensures c.keep_mounts.ensures c.in_ok-push.ensures.items

pub returns-clause-actors : goal.returns-clause-actors
returns-clause-actors c =
    all_actors c.args.spines.now.entries c.args.jobs.items c.args.passes.now.entries c.args.mounts.items c.loop-job.job-iterator.rest.items c.loop-job.actors.items c.loop-job.passes.entries
    c.loop-job.mounts.items c.loop-job.invariant (omega (arith, c.loop-job.job-iterator.rest.ok.0, c.in-None.ensures.steps.0))

pub returns-clause-gathered : goal.returns-clause-gathered
returns-clause-gathered c =
    all_gathered c.args.spines.now.entries c.args.jobs.items c.args.passes.now.entries c.args.mounts.items c.loop-job.job-iterator.rest.items c.loop-job.actors.items c.loop-job.passes.entries
    c.loop-job.mounts.items c.loop-job.invariant (omega (arith, c.loop-job.job-iterator.rest.ok.0, c.in-None.ensures.steps.0))
