use Rattle.std.proofs.Common.{◌≡◌, drop}
use Rattle.native_state.specs.Made.{nodes_more}
use Rattle.shadow_node.specs.Falls.{trees_of}
use Rattle.shadow_node.proofs.Trees.{trees_before}
use Rattle.tree_build.specs.Script.{script_forest}
use Rattle.tree_build.specs.Buildable.{AreBuildable}
use Rattle.tree_build.specs.Built.{built, made_for}
use Rattle.tree_build.proofs.making.+making.Given as goal

abbrev pub invariant-make_nodes-loop-node : goal.invariant-make_nodes-loop-node
invariant-make_nodes-loop-node l = record {
  buildable : AreBuildable l.held (script_forest (drop l.node-index l.nodes));
  built : trees_before (trees_of l.all.items) (built l.held (script_forest (drop l.node-index l.nodes))) ≡ built l.held (script_forest l.nodes);
  counted : nodes_more l.made (made_for (script_forest (drop l.node-index l.nodes))) ≡ nodes_more l.initial.made (made_for (script_forest l.nodes));
}
