use Rattle.std.proofs.Common.{◌+◌, ◌%◌, rules, refl}
use Rattle.script_read.specs.declared.script.Act.TheVariants.{Mount}
use Rattle.script_read.specs.Plain.{plain_step}
use Rattle.script_read.specs.Making.{mount_step}
use Rattle.script_read.proofs.Chains.{each_pushed}
use Rattle.script_read.proofs.making.mount_steps.Goals as goal

pub loop-i-preserved : goal.loop-i-preserved
loop-i-preserved c = each_pushed plain_step mount_step c.loop-i.i c.loop-i.steps c.push.new.self (record { surface = 1 + c.loop-i.i % 2; act = Mount }) (search rules) refl c.loop-i.invariant
