use Rattle.tree_build.specs.Script.{script_forest}
use Rattle.tree_build.specs.InRange.{AreNodesInRange}
use Rattle.tree_build.proofs.tests.chain.Given as goal

abbrev pub invariant-loop-tag : goal.invariant-loop-tag
invariant-loop-tag l = AreNodesInRange (script_forest l.nodes)

abbrev pub invariant-loop-tag-2 : goal.invariant-loop-tag-2
invariant-loop-tag-2 l = AreNodesInRange (script_forest l.nodes)
