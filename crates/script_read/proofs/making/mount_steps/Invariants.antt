use Rattle.std.proofs.Common.{◌≡◌, map}
use Rattle.script_read.specs.Plain.{plain_step}
use Rattle.script_read.specs.Making.{for_each_below, mount_step}
use Rattle.script_read.proofs.making.mount_steps.Given as goal

abbrev pub invariant-loop-i : goal.invariant-loop-i
invariant-loop-i l = map plain_step l.steps ≡ for_each_below l.i mount_step
