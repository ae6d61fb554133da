use Rattle.std.proofs.Common.{◌≡◌, ℕ, List, ◌+◌, ◌++◌, ◌≤◌, drop}
use Rattle.std.specs.BTreeSet.{btree_set_len}
use Rattle.shadow_node.specs.Forest.{node_count}
use Rattle.shadow_node.specs.Fields.{contents_of, tags_of}
use Rattle.shadow_node.specs.Falls.{forest_at}
use Rattle.tree_build.specs.Refusals.{repeated_after}
use Rattle.tree_build.proofs.limits.+first_repeated.Given as goal

abbrev pub decreases-first_repeated : goal.decreases-first_repeated
decreases-first_repeated l = goal.size-first_repeated l

abbrev pub invariant-loop-node : goal.invariant-loop-node
invariant-loop-node l = record {
  whole : forest_at l.node-items ≡ l.forest;
  left : (rest : List ℕ) → repeated_after l.initial.seen.keys (tags_of (contents_of l.forest) ++ rest)
      ≡ repeated_after l.seen.keys (tags_of (contents_of (forest_at (drop l.node-index l.node-items))) ++ rest);
  counted : btree_set_len l.seen + node_count (forest_at (drop l.node-index l.node-items)) ≡ btree_set_len l.initial.seen + node_count l.forest;
  within : node_count (forest_at (drop l.node-index l.node-items)) ≤ node_count l.forest;
}
