use Rattle.std.proofs.Common.{sym, ◌∙◌}
use Rattle.std.proofs.lemmas.Bool.{true≢false}
use Rattle.run_engine.proofs.JobsBegin.{mount_found}
use Rattle.run_engine.proofs.jobs.mount_there.Goals as goal
use Rattle.run_engine.proofs.jobs.mount_there.Goals.{in-Mount, in_default}

pub returns-then-step-id : goal.returns-then-step-id
returns-then-step-id c =
    elim c.match-matches.branch [
      | in-Mount w ↦ sym (mount_found c.args.steps.now c.loop-step.step-index c.step-item.result c.args.id c.loop-step-test.true c.step-item.is w.in-Mount.is c.if-step-id.true)
      | in_default w ↦ absurd (true≢false (sym c.if-matches.true ∙ w.matches-is))
    ]
