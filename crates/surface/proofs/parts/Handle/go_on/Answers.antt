use Rattle.std.proofs.Common.{subst}
use Rattle.std.specs.Prelude.{Option, Ok, Err}
use Rattle.surface.specs.declared.handle.Committed.{Committed}
use Rattle.surface.specs.declared.handle.CommitRefusal.{CommitRefusal}
use Rattle.surface.specs.Committing.{IsStep}
use Rattle.surface.proofs.Trying.{after_look, after_offer}
use Rattle.surface.proofs.parts.Handle.go_on.Goals.{in-Ok-None, in-Err-TooLate}
use Rattle.surface.proofs.parts.Handle.go_on.Goals as goal

pub loop-event-preserved : goal.loop-event-preserved
loop-event-preserved c = λ entry is.
    let start = c.args.self.now in
    let so_far = c.loop-event.invariant entry is in
    elim c.match-step.branch [
      | in-Ok-None w ↦
          after_look start c.loop-event.self c.step.new.self entry c.loop-event.commit c.step.new.commit c.loop-event.event so_far
          (subst (λ (o : Option Committed). IsStep start c.step.new.self entry c.loop-event.commit c.step.new.commit (Ok o)) w.in-Ok-None.field-0-is
          (w.in-Ok-None.ensures start entry so_far.under))
      | in-Err-TooLate w ↦
          after_offer start c.loop-event.self c.step.new.self entry c.loop-event.commit c.step.new.commit c.loop-event.event so_far
          (subst (λ (r : CommitRefusal). IsStep start c.step.new.self entry c.loop-event.commit c.step.new.commit (Err r)) w.in-Err-TooLate.field-0-is
          (w.in-Err-TooLate.ensures start entry so_far.under))
    ]
