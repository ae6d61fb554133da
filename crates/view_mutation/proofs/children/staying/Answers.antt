use Rattle.std.proofs.Common.{◌≤◌, length, min, arith}
use Rattle.view_mutation.proofs.Lists.{prefix_end}
use Rattle.view_mutation.proofs.children.staying.Goals as goal

pub returns-clause-prefix : goal.returns-clause-prefix
returns-clause-prefix c =
    let past : min (length c.args.old.now) (length c.args.new.now) ≤ c.loop-at.at = omega arith in
    omega (arith, prefix_end c.args.old.now c.args.new.now c.loop-at.at past, c.loop-at.invariant.left)
