use Rattle.surface.proofs.Leading.{pull_leads}
use Rattle.surface.proofs.Passes.{goes_on_at}
use Rattle.surface.proofs.parts.Mounter.try_mount.Goals as goal

pub returns-clause-goes_on : goal.returns-clause-goes_on
returns-clause-goes_on c = goes_on_at c.args.self.now.surface.pass c.pull.new.port.pass c.pull.ensures.lasts

pub returns-clause-leads : goal.returns-clause-leads
returns-clause-leads c =
    pull_leads c.args.self.now c.pull.new.port.pass c.pull.new.self c.pull.result c.pull.ensures.lasts c.pull.ensures.answer
