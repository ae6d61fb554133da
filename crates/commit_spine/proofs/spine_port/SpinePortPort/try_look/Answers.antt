use Rattle.commit_spine.proofs.PortAnswers.{look_lasts, look_answers}
use Rattle.commit_spine.proofs.spine_port.SpinePortPort.try_look.Goals as goal

pub returns-clause-lasts : goal.returns-clause-lasts
returns-clause-lasts c =
    look_lasts c.args.self.now.pass c.try_look.new.pass c.try_look.ensures.spine c.try_look.ensures.reached _ c.try_look.ensures.answer

pub returns-clause-answer : goal.returns-clause-answer
returns-clause-answer c =
    look_answers c.args.self.now.pass c.try_look.new.pass c.try_look.ensures.spine c.try_look.ensures.reached _ c.try_look.ensures.answer
