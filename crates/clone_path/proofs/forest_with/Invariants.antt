use Rattle.std.proofs.Common.{◌≡◌, take, length}
use Rattle.shadow_node.specs.Falls.{trees_of}
use Rattle.clone_path.proofs.forest_with.Given as goal

abbrev pub invariant-loop-node : goal.invariant-loop-node
invariant-loop-node l = record {
  same : trees_of l.all.items ≡ trees_of (take l.node-index l.nodes);
  count : length l.all.items ≡ l.node-index;
}
