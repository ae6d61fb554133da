use Rattle.std.proofs.Common.{subst, sym}
use Rattle.run_actor.specs.Steps.{HasEnded}
use Rattle.run_actor.proofs.Acts.{ended_with}
use Rattle.run_actor.proofs.actors.Actor.end_with.Goals as goal

pub returns-in-Some : goal.returns-in-Some
returns-in-Some c =
    subst (λ now. HasEnded c.args.id c.args.answer now c.args.self.now c.answer.new.self) (sym c.in-Some.is)
    (ended_with c.args.id c.args.answer c.in-Some.now c.args.self.now c.hold_on.new.self c.answer.new.self
    c.hold_on.ensures.held c.hold_on.ensures.others c.hold_on.ensures.rest c.answer.ensures)
