use Rattle.std.proofs.Common.{map}
use Rattle.script_read.specs.Plain.{plain_step}
use Rattle.script_read.specs.Making.{IsDrawn, drawn_list, scroll_step}
use Rattle.script_read.proofs.making.scroll_steps.Given as goal

abbrev pub invariant-loop : goal.invariant-loop
invariant-loop l = IsDrawn (drawn_list (scroll_step l.surface) l.counter l.initial.draws.number) (map plain_step l.steps) l.draws.number
