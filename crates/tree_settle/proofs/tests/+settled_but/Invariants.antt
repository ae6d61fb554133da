use Rattle.std.proofs.Common.{◌+◌, ◌*◌, ◌≤◌, drop}
use Rattle.native_state.specs.Families.{cell_in}
use Rattle.shadow_node.specs.Forest.{node_count}
use Rattle.shadow_node.specs.Falls.{forest_at}
use Rattle.tree_settle.specs.Along.{IsSettledBut}
use Rattle.tree_settle.proofs.tests.+settled_but.Given as goal

abbrev pub decreases-is_tree_settled_but : goal.decreases-is_tree_settled_but
decreases-is_tree_settled_but l = 2 * node_count l.node.now.children + 1

abbrev pub decreases-is_settled_but : goal.decreases-is_settled_but
decreases-is_settled_but l = 2 * node_count l.forest.now

abbrev pub invariant-is_settled_but-loop-node : goal.invariant-is_settled_but-loop-node
invariant-is_settled_but-loop-node l = record {
  within : node_count (forest_at (drop l.node-index l.node-items)) ≤ node_count l.forest;
  whole : IsSettledBut l.parent (cell_in l.families) l.way (forest_at (drop l.node-index l.node-items)) → IsSettledBut l.parent (cell_in l.families) l.way l.forest;
}
