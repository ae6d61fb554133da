use Rattle.std.proofs.Common.{rules}
use Rattle.script_read.specs.Writing.{natural}
use Rattle.script_read.proofs.ValueLists.{copy_pushed, all_values}
use Rattle.script_read.proofs.writing.turn_values.Goals as goal

pub loop-turn-preserved : goal.loop-turn-preserved
loop-turn-preserved c = copy_pushed natural c.args.turns.now c.loop-turn.turn-index 0 c.loop-turn.values.items c.push.new.self.items c.from.result c.loop-turn-test.true c.from.ensures
    (search rules) c.loop-turn.invariant

pub returns : goal.returns
returns c = all_values natural c.args.turns.now c.loop-turn.turn-index c.loop-turn.values.items c.loop-turn-test.false c.loop-turn.invariant
