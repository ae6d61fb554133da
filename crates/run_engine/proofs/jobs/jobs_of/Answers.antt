use Rattle.std.proofs.Common.{◌≡◌, ◌+◌, [], length, map, suc, arith, refl, ap, sym, subst, ◌∙◌}
use Rattle.std.specs.Prelude.{All}
use Rattle.std.proofs.lemmas.List.{length-map}
use Rattle.tree_revision.specs.InRange.{IsActInRange}
use Rattle.tree_revision.specs.Script.{PlainStep, PlainActor}
use Rattle.script_read.specs.Plain.{plain_actor, plain_step}
use Rattle.script_read.specs.declared.script.ActorPlan.{ActorPlan}
use Rattle.run_engine.specs.Jobs.{AreJobsAtStart, after_own_passes}
use Rattle.run_engine.proofs.Loops.{calls_at, item_holds}
use Rattle.run_engine.proofs.JobsSplit.{jobs_next, may_give_next, none_split, plan_at, take_map}
use Rattle.run_engine.proofs.jobs.jobs_of.Goals as goal

pub loop-number-init : goal.loop-number-init
loop-number-init c = none_split c.args.first.now c.args.passes.now.entries [] c.in_ok-jobs.jobs.items refl c.in_ok-jobs.ensures.items

pub job_of-requires-clause-calls : goal.job_of-requires-clause-calls
job_of-requires-clause-calls c =
    let here = calls_at c.args.plans.now c.loop-number.number c.index-plans-number.result c.loop-number-test.true c.requires.calls in
    let steps = ap (λ (a : ActorPlan). length a.steps) c.index-plans-number.is in
    omega (arith, here, steps, length-map c.index-plans-number.result.steps plain_step)

pub job_of-requires-clause-in_range : goal.job_of-requires-clause-in_range
job_of-requires-clause-in_range c =
    subst (λ (a : ActorPlan). All (λ (step : PlainStep). IsActInRange step.act) (plain_actor a).steps) (sym c.index-plans-number.is)
    (item_holds plain_actor (λ (actor : PlainActor). All (λ (step : PlainStep). IsActInRange step.act) actor.steps) c.args.plans.now c.loop-number.number c.index-plans-number.result
    c.loop-number-test.true c.requires.in_range)

pub job_of-requires-clause-may : goal.job_of-requires-clause-may
job_of-requires-clause-may c =
    let plans = map plain_actor c.args.plans.now in
    let plan = plain_actor c.index-plans-number.result in
    let at = plan_at c.args.plans.now c.loop-number.number c.index-plans-number.result c.loop-number-test.true c.index-plans-number.is in
    may_give_next c.args.spines.now.entries plans c.args.passes.now.entries c.loop-number.passes.entries c.loop-number.number (suc c.loop-number.number) plan refl at c.requires.may
    (c.loop-number.invariant.1 ∙ ap (λ l. map (after_own_passes l) c.args.passes.now.entries) (take_map plain_actor c.args.plans.now c.loop-number.number))

pub loop-number-preserved : goal.loop-number-preserved
loop-number-preserved c =
    let plans = map plain_actor c.args.plans.now in
    let plan = plain_actor c.index-plans-number.result in
    let at = plan_at c.args.plans.now c.loop-number.number c.index-plans-number.result c.loop-number-test.true c.index-plans-number.is in
    let same = take_map plain_actor c.args.plans.now c.loop-number.number in
    let s : c.loop-number.number + 1 ≡ suc c.loop-number.number = omega arith in
    let next = jobs_next c.args.spines.now.entries plans c.args.passes.now.entries c.loop-number.passes.entries c.loop-number.number (c.loop-number.number + 1) plan s at c.requires.may
    (c.loop-number.invariant.1 ∙ ap (λ l. map (after_own_passes l) c.args.passes.now.entries) same)
    c.args.first.now c.loop-number.jobs.items c.push.new.self.items c.in_ok-job_of.field-0 c.job_of.new.passes.entries
    (subst (λ l. AreJobsAtStart c.args.first.now c.args.passes.now.entries l c.loop-number.jobs.items) same c.loop-number.invariant.0)
    c.in_ok-job_of.ensures.job c.in_ok-push.ensures.items c.in_ok-job_of.ensures.passes in
    let back = sym (take_map plain_actor c.args.plans.now (c.loop-number.number + 1)) in (
      subst (λ l. AreJobsAtStart c.args.first.now c.args.passes.now.entries l c.push.new.self.items) back next.0,
      next.1 ∙ ap (λ l. map (after_own_passes l) c.args.passes.now.entries) back,
    )
