use Rattle.std.proofs.Common.{◌≡◌, ◌+◌, ◌%◌, map, None}
use Rattle.tree_build.specs.Script.{in_front, kept}
use Rattle.script_read.specs.Making.{for_each_below}
use Rattle.script_read.proofs.making.kept_views.Given as goal

abbrev pub invariant-loop-i : goal.invariant-loop-i
invariant-loop-i l = map in_front l.nodes ≡ for_each_below l.i (λ i. kept (100 + (l.first + i) % 200) None)
