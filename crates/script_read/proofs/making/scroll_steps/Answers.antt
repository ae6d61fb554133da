use Rattle.std.proofs.Common.{rules}
use Rattle.script_read.specs.Plain.{plain_step}
use Rattle.script_read.specs.Making.{scroll_step}
use Rattle.script_read.proofs.Chains.{drawn_pushed}
use Rattle.script_read.proofs.making.scroll_steps.Goals as goal

pub loop-preserved : goal.loop-preserved
loop-preserved c =
    drawn_pushed plain_step (scroll_step c.args.surface) c.loop.counter c.args.draws.now.number c.loop.draws.number c.scroll_step.new.draws.number c.loop.steps
    c.push.new.self c.in_ok-scroll_step.field-0 (search rules) c.in_ok-scroll_step.ensures c.loop.invariant
