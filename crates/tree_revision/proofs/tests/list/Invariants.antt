use Rattle.tree_build.specs.Script.{script_forest}
use Rattle.tree_build.specs.InRange.{AreNodesInRange}
use Rattle.tree_revision.proofs.tests.list.Given as goal

abbrev pub invariant-loop-tag : goal.invariant-loop-tag
invariant-loop-tag l = AreNodesInRange (script_forest l.rows)
