use Rattle.surface.proofs.Passes.{goes_on_at}
use Rattle.surface.proofs.parts.Handle.try_hold.Goals as goal

pub returns-in_err-front-clause-goes_on : goal.returns-in_err-front-clause-goes_on
returns-in_err-front-clause-goes_on c = goes_on_at c.args.self.now.surface.pass c.try_look.new.self.pass c.try_look.ensures.lasts

pub returns-clause-goes_on : goal.returns-clause-goes_on
returns-clause-goes_on c = goes_on_at c.args.self.now.surface.pass c.try_look.new.self.pass c.try_look.ensures.lasts
