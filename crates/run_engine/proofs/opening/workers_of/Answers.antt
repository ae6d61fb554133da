use Rattle.std.proofs.Common.{length, arith, ap, sym, subst}
use Rattle.std.specs.Prelude.{All}
use Rattle.tree_revision.specs.InRange.{IsActInRange}
use Rattle.tree_revision.specs.Script.{PlainStep, PlainActor}
use Rattle.script_read.specs.Plain.{plain_actor}
use Rattle.script_read.specs.declared.script.ActorPlan.{ActorPlan}
use Rattle.run_actor.specs.Actors.{actor_now}
use Rattle.run_engine.specs.Opening.{ArePassesAtStart}
use Rattle.run_engine.proofs.Loops.{calls_at, item_holds}
use Rattle.run_engine.proofs.Openings.{workers_next}
use Rattle.run_engine.proofs.opening.workers_of.Goals as goal

pub start-requires-clause-calls : goal.start-requires-clause-calls
start-requires-clause-calls c =
    omega (
      arith,
      calls_at c.args.plans.now c.loop-number.number c.index-plans-number.result c.loop-number-test.true c.requires.calls,
      ap (λ (a : ActorPlan). length a.steps) c.index-plans-number.is,
    )

pub start-requires-clause-in_range : goal.start-requires-clause-in_range
start-requires-clause-in_range c =
    subst (λ (a : ActorPlan). All (λ (step : PlainStep). IsActInRange step.act) (plain_actor a).steps) (sym c.index-plans-number.is)
    (item_holds plain_actor (λ (actor : PlainActor). All (λ (step : PlainStep). IsActInRange step.act) actor.steps) c.args.plans.now c.loop-number.number c.index-plans-number.result
    c.loop-number-test.true c.requires.in_range)

pub loop-number-preserved : goal.loop-number-preserved
loop-number-preserved c =
    workers_next c.args.first.now c.args.plans.now c.loop-number.number c.index-plans-number.result c.loop-number-test.true c.index-plans-number.is c.loop-number.workers.items _
    c.push.new.self.items c.in_ok-push.ensures.items c.loop-number.invariant.0 c.loop-number.invariant.1
    (ap actor_now c.in_ok-start.ensures)
    (record {
      plan = plain_actor c.index-plans-number.result;
      actor = c.in_ok-start.ensures;
      passes = subst (λ n. ArePassesAtStart n c.in_ok-passes_of.field-0.items) c.requires.spines c.in_ok-passes_of.ensures;
    })
