use Rattle.tree_build.specs.Script.{script_forest}
use Rattle.tree_build.specs.InRange.{AreNodesInRange}
use Rattle.mount_coordinator.proofs.entered_tests.texts.Given as goal

abbrev pub invariant-loop-tag : goal.invariant-loop-tag
invariant-loop-tag l = AreNodesInRange (script_forest l.nodes)
