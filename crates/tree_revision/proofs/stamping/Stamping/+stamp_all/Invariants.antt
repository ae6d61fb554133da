use Rattle.std.proofs.Common.{◌≡◌, true, ◌≤◌, ◌++◌, drop, map}
use Rattle.shadow_node.specs.Forest.{node_count}
use Rattle.shadow_node.specs.Falls.{forest_at}
use Rattle.tree_revision.specs.Unchanged.{AreSeenIn, DoTreesStandIn, AreStampsIn, tags_upward}
use Rattle.tree_revision.proofs.stamping.Stamping.+stamp_all.Given as goal

abbrev pub decreases-stamp_all : goal.decreases-stamp_all
decreases-stamp_all l = goal.size-stamp_all l

abbrev pub invariant-loop-node : goal.invariant-loop-node
invariant-loop-node l = record {
  whole : forest_at l.node-items ≡ l.forest;
  within : node_count (forest_at (drop l.node-index l.node-items)) ≤ node_count l.forest;
  seen : AreSeenIn l.self.new l.above (forest_at (drop l.node-index l.node-items));
  same : l.all_same ≡ true → DoTreesStandIn l.self.old (forest_at (drop l.node-index l.node-items)) → DoTreesStandIn l.self.old l.forest;
  back : DoTreesStandIn l.self.old l.forest → (l.all_same ≡ true) × DoTreesStandIn l.self.old (forest_at (drop l.node-index l.node-items));
  tags : map (λ pair. pair.0) l.pairs.items ++ tags_upward (forest_at (drop l.node-index l.node-items))
      ≡ map (λ pair. pair.0) l.initial.pairs.items ++ tags_upward l.forest;
  stamps : AreStampsIn l.self l.initial.pairs.items → AreStampsIn l.self l.pairs.items;
}
