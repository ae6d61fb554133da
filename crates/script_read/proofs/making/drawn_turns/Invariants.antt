use Rattle.script_read.specs.Making.{IsDrawn, drawn_list, drawn_below}
use Rattle.script_read.proofs.making.drawn_turns.Given as goal

abbrev pub invariant-loop : goal.invariant-loop
invariant-loop l = IsDrawn (drawn_list (drawn_below 5) l.counter l.initial.draws.number) l.turns l.draws.number
