use Rattle.commit_spine.proofs.PortAnswers.{offer_lasts, offer_answers}
use Rattle.commit_spine.proofs.spine_port.SpinePortPort.try_offer.Goals as goal

pub returns-clause-lasts : goal.returns-clause-lasts
returns-clause-lasts c =
    offer_lasts c.args.self.now.pass c.try_offer.new.pass c.try_offer.ensures.spine c.try_offer.ensures.reached _ _ _ c.try_offer.ensures.answer

pub returns-clause-answer : goal.returns-clause-answer
returns-clause-answer c =
    offer_answers c.args.self.now.pass c.try_offer.new.pass c.try_offer.ensures.spine c.try_offer.ensures.reached _ _ _ c.requires.permit c.try_offer.ensures.answer
