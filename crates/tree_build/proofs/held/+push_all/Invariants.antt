use Rattle.std.proofs.Common.{◌≡◌, ℕ, ◌≤◌, drop}
use Rattle.shadow_node.specs.Forest.{node_count}
use Rattle.std.specs.Option.{option_or}
use Rattle.shadow_node.specs.Find.{first_settled}
use Rattle.shadow_node.specs.Falls.{forest_at}
use Rattle.tree_build.specs.Index.{found_in}
use Rattle.tree_build.proofs.held.+push_all.Given as goal

abbrev pub decreases-push_all : goal.decreases-push_all
decreases-push_all l = goal.size-push_all l

abbrev pub invariant-loop-node : goal.invariant-loop-node
invariant-loop-node l = record {
  whole : forest_at l.node-items ≡ l.forest;
  left : (tag : ℕ) → option_or (found_in l.nodes.items tag) (first_settled tag (forest_at (drop l.node-index l.node-items)))
      ≡ option_or (found_in l.initial.nodes.items tag) (first_settled tag l.forest);
  within : node_count (forest_at (drop l.node-index l.node-items)) ≤ node_count l.forest;
}
