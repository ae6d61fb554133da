use Rattle.std.proofs.Common.{◌≡◌, drop}
use Rattle.shadow_node.specs.Fields.{contents_of}
use Rattle.tree_build.specs.Script.{script_forest}
use Rattle.tree_build.specs.Refusals.{unkept_in}
use Rattle.tree_build.proofs.checks.+unkept.Given as goal

abbrev pub invariant-first_unkept-loop-node : goal.invariant-first_unkept-loop-node
invariant-first_unkept-loop-node l =
    unkept_in (contents_of l.held) (script_forest (drop l.node-index l.nodes)) ≡ unkept_in (contents_of l.held) (script_forest l.nodes)
