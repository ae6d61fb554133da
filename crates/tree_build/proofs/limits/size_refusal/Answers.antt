use Rattle.std.proofs.Common.{arith, sym}
use Rattle.tree_build.proofs.Within.{refused_deep, refused_many, unrefused}
use Rattle.tree_build.proofs.limits.size_refusal.Goals as goal

pub returns-then-depth-gt-MAX_DEPTH : goal.returns-then-depth-gt-MAX_DEPTH
returns-then-depth-gt-MAX_DEPTH c = sym (refused_deep c.args.forest.now c.requires.differ (omega arith))

pub returns-then-count-gt-MAX_NODES : goal.returns-then-count-gt-MAX_NODES
returns-then-count-gt-MAX_NODES c = sym (refused_many c.args.forest.now c.requires.differ (omega arith) (omega arith))

pub returns : goal.returns
returns c = sym (unrefused c.args.forest.now c.requires.differ (omega arith) (omega arith))
