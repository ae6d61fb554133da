use Rattle.std.proofs.Common.{◌≡◌, drop}
use Rattle.tree_build.specs.Script.{script_forest}
use Rattle.tree_build.specs.KeptNodes.{has_kept}
use Rattle.tree_build.proofs.checks.+kept.Given as goal

abbrev pub invariant-has_kept-loop-node : goal.invariant-has_kept-loop-node
invariant-has_kept-loop-node l = has_kept (script_forest (drop l.node-index l.nodes)) ≡ has_kept (script_forest l.nodes)
