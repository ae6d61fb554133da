use Rattle.std.proofs.Common.{◌≡◌, ◌≤◌, drop}
use Rattle.shadow_node.specs.Forest.{node_count, preorder}
use Rattle.shadow_node.specs.Fields.{contents_of}
use Rattle.shadow_node.specs.Falls.{forest_at}
use Rattle.tree_revision.proofs.Gathered.{AreLeft}
use Rattle.tree_revision.proofs.family_changes.+add_all.Given as goal

abbrev pub decreases-add_all : goal.decreases-add_all
decreases-add_all l = goal.size-add_all l

abbrev pub invariant-loop-node : goal.invariant-loop-node
invariant-loop-node l = record {
  whole : forest_at l.node-items ≡ l.forest;
  within : node_count (forest_at (drop l.node-index l.node-items)) ≤ node_count l.forest;
  left : AreLeft l.families (preorder (contents_of (forest_at (drop l.node-index l.node-items)))) (preorder (contents_of l.forest)) l.initial.added.items l.added.items;
}
