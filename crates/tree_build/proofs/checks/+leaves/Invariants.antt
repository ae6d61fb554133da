use Rattle.std.proofs.Common.{◌≡◌, drop}
use Rattle.shadow_node.specs.Fields.{contents_of}
use Rattle.tree_build.specs.Script.{script_forest}
use Rattle.tree_build.specs.Refusals.{leaf_with_child}
use Rattle.tree_build.proofs.checks.+leaves.Given as goal

abbrev pub invariant-first_leaf_with_child-loop-node : goal.invariant-first_leaf_with_child-loop-node
invariant-first_leaf_with_child-loop-node l =
    leaf_with_child (contents_of l.held) (script_forest (drop l.node-index l.nodes)) ≡ leaf_with_child (contents_of l.held) (script_forest l.nodes)
