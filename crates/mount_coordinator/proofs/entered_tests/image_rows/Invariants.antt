use Rattle.tree_build.specs.Script.{script_forest}
use Rattle.tree_build.specs.InRange.{AreNodesInRange}
use Rattle.mount_coordinator.proofs.entered_tests.image_rows.Given as goal

abbrev pub invariant-loop-at : goal.invariant-loop-at
invariant-loop-at l = AreNodesInRange (script_forest l.nodes)
