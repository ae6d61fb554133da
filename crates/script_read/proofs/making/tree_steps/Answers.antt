use Rattle.std.proofs.Common.{rules}
use Rattle.script_read.proofs.Chains.{step_pushed}
use Rattle.script_read.proofs.making.tree_steps.Goals as goal

pub loop-preserved : goal.loop-preserved
loop-preserved c =
    step_pushed c.args.surface c.loop.counter c.args.draws.now.number c.loop.draws.number c.later_step.new.draws.number c.loop.steps
    c.push-in-loop.new.self c.in_ok-later_step.field-0 (search rules) c.in_ok-later_step.ensures c.loop.invariant
