use Rattle.tree_build.specs.Script.{script_forest}
use Rattle.tree_build.specs.InRange.{AreNodesInRange}
use Rattle.tree_build.proofs.tests.+rows.Given as goal

abbrev pub invariant-nodes_of-loop-row : goal.invariant-nodes_of-loop-row
invariant-nodes_of-loop-row l = AreNodesInRange (script_forest l.nodes)
