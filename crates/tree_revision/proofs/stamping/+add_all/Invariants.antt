use Rattle.std.proofs.Common.{◌≡◌, ℕ, ◌≤◌, drop}
use Rattle.std.specs.Option.{option_or}
use Rattle.shadow_node.specs.Forest.{node_count}
use Rattle.shadow_node.specs.Falls.{forest_at}
use Rattle.tree_revision.specs.Unchanged.{seen_by, seen_below}
use Rattle.tree_revision.proofs.stamping.+add_all.Given as goal

abbrev pub decreases-add_all : goal.decreases-add_all
decreases-add_all l = goal.size-add_all l

abbrev pub invariant-loop-node : goal.invariant-loop-node
invariant-loop-node l = record {
  whole : forest_at l.node-items ≡ l.forest;
  left : (tag : ℕ) → option_or (seen_by l.places.items tag) (seen_below l.above tag (forest_at (drop l.node-index l.node-items)))
      ≡ option_or (seen_by l.initial.places.items tag) (seen_below l.above tag l.forest);
  within : node_count (forest_at (drop l.node-index l.node-items)) ≤ node_count l.forest;
}
