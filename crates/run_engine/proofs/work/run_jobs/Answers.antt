use Rattle.std.proofs.Common.{sym, ◌∙◌}
use Rattle.run_engine.proofs.JobsRun.{are_run, may_run_all}
use Rattle.run_engine.proofs.work.run_jobs.Goals as goal

pub run_each-requires : goal.run_each-requires
run_each-requires g c = (c.type_bounds.sync-R, (c.type_bounds.sync-G, may_run_all c.args.spines.now.entries c.args.jobs.now c.requires))

pub returns-else-some_short : goal.returns-else-some_short
returns-else-some_short g c =
    are_run c.args.spines.now.entries c.args.jobs.now c.run_each.new.jobs c.run_each.ensures.count c.run_each.ensures.each (sym c.some_short.ensures ∙ c.if-some_short.false)
