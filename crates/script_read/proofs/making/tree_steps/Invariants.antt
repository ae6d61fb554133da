use Rattle.std.proofs.Common.{map}
use Rattle.script_read.specs.Plain.{plain_step}
use Rattle.script_read.specs.Making.{IsDrawn, tree_steps as tree_steps_of}
use Rattle.script_read.proofs.making.tree_steps.Given as goal

abbrev pub invariant-loop : goal.invariant-loop
invariant-loop l = IsDrawn (tree_steps_of l.surface l.counter l.initial.draws.number) (map plain_step l.steps) l.draws.number
