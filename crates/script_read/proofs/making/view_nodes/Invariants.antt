use Rattle.std.proofs.Common.{◌≡◌, map}
use Rattle.tree_build.specs.Script.{in_front}
use Rattle.script_read.specs.Making.{for_each_below, view_before}
use Rattle.script_read.proofs.making.view_nodes.Given as goal

abbrev pub invariant-loop-i : goal.invariant-loop-i
invariant-loop-i l = map in_front l.nodes ≡ for_each_below l.i view_before
