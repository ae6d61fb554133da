use Rattle.std.proofs.Common.{subst}
use Rattle.std.specs.Prelude.{Err}
use Rattle.surface.specs.declared.handle.CommitRefusal.{CommitRefusal}
use Rattle.surface.specs.Committing.{IsStep}
use Rattle.surface.proofs.parts.Handle.event.Goals as goal

pub returns-in-Err-TooLate : goal.returns-in-Err-TooLate
returns-in-Err-TooLate c = λ start entry so_far.
    (subst (λ (r : CommitRefusal). IsStep start c.step.new.self entry c.args.commit.now c.step.new.commit (Err r)) c.in-Err-TooLate.field-0-is
    (c.in-Err-TooLate.ensures start entry so_far)).under
