use Rattle.std.proofs.Common.{◌≡◌, ◌++◌, ◌∷◌, [], rules}
use Rattle.script_read.specs.Making.{drawn_below}
use Rattle.script_read.proofs.Chains.{drawn_after}
use Rattle.script_read.proofs.making.drawn_turns.Goals as goal

pub loop-preserved : goal.loop-preserved
loop-preserved c =
    let pushed : c.push.new.self ≡ c.loop.turns ++ c.below.result ∷ [] = search rules in
    rw pushed
    (drawn_after (drawn_below 5) c.loop.counter c.args.draws.now.number c.loop.draws.number _ c.loop.turns c.below.result
    (record { made = c.below.ensures.value; number = c.below.ensures.number }) c.loop.invariant)
