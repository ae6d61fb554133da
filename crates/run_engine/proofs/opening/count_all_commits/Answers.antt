use Rattle.std.proofs.Common.{◌≡◌, List, length, map, ap, ◌∙◌, arith}
use Rattle.std.specs.Prelude.{count_by}
use Rattle.std.proofs.lemmas.List.{length-map}
use Rattle.std.proofs.lemmas.List.Sums.{count_by-le-length}
use Rattle.script_read.specs.Plain.{plain_step}
use Rattle.script_read.specs.declared.script.ActorPlan.{ActorPlan}
use Rattle.script_read.specs.declared.script.Step.{Step}
use Rattle.run_actor.specs.Runs.{commits_on}
use Rattle.run_engine.proofs.Loops.{calls_at}
use Rattle.run_engine.proofs.Openings.{commits_left-next}
use Rattle.run_engine.proofs.opening.count_all_commits.Goals as goal

pub count_commits-count-requires : goal.count_commits-count-requires
count_commits-count-requires c =
    omega (
      arith,
      calls_at c.args.actors.now c.loop-actor.actor-index c.actor-item.result c.loop-actor-test.true c.requires.calls,
      ap (λ (l : List Step). length l) c.as_slice.ensures,
      ap (λ (a : ActorPlan). length a.steps) c.actor-item.is,
    )

pub loop-actor-preserved : goal.loop-actor-preserved
loop-actor-preserved c =
    let counted : c.count_commits-count.result ≡ count_by (commits_on c.args.id) (map plain_step c.actor-item.result.steps) =
    c.count_commits-count.ensures ∙ ap (λ (l : List Step). count_by (commits_on c.args.id) (map plain_step l)) c.as_slice.ensures in (
      omega (
        arith,
        c.loop-actor.invariant.0,
        counted,
        commits_left-next c.args.id c.args.actors.now c.loop-actor.actor-index c.actor-item.result c.loop-actor-test.true c.actor-item.is,
      ),
      omega (
        arith,
        c.loop-actor.invariant.1,
        counted,
        count_by-le-length (commits_on c.args.id) (map plain_step c.actor-item.result.steps),
        length-map c.actor-item.result.steps plain_step,
        calls_at c.args.actors.now c.loop-actor.actor-index c.actor-item.result c.loop-actor-test.true c.requires.calls,
        ap (λ (a : ActorPlan). length a.steps) c.actor-item.is,
      ),
    )
