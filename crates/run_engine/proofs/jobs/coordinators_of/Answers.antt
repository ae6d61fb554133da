use Rattle.std.proofs.Common.{ℕ, ap, sym, subst, ◌∙◌}
use Rattle.tree_revision.specs.Settled.{KeptRevision}
use Rattle.tree_revision.specs.Stands.{StandsFor}
use Rattle.mount_coordinator.specs.Mounted.{PlainCoordinator}
use Rattle.run_engine.specs.Jobs.{IsUnmounted}
use Rattle.run_engine.proofs.JobsBegin.{zip_next}
use Rattle.run_engine.proofs.jobs.coordinators_of.Goals as goal

pub loop-opening-preserved : goal.loop-opening-preserved
loop-opening-preserved c =
    zip_next (λ (entry : ℕ × KeptRevision). IsUnmounted entry.1) c.args.first.now c.loop-opening.mounts.items c.push.new.self.items c.loop-opening.opening-index c.opening-item.result _
    c.loop-opening-test.true c.opening-item.is c.in_ok-push.ensures.items c.loop-opening.invariant
    (record {
      base = ap (λ (v : PlainCoordinator). v.base) c.in_ok-start.ensures.value ∙ ap (λ (v : KeptRevision). v.newest) c.in_ok-share.ensures;
      stands = λ size entries h. c.in_ok-start.ensures.mounted size entries (subst (λ (v : KeptRevision). StandsFor size v entries) (sym c.in_ok-share.ensures) h);
    })
