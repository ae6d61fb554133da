use Rattle.std.proofs.Common.{◌≡◌, ◌≤◌, ◌∷◌, Some, drop}
use Rattle.std.specs.Prelude.{nat_eq}
use Rattle.std.specs.List.{IsDistinct}
use Rattle.shadow_node.specs.Forest.{node_count}
use Rattle.shadow_node.specs.Falls.{forest_at}
use Rattle.shadow_node.specs.Fields.{contents_of, tags_of}
use Rattle.shadow_node.specs.Find.{first_settled, way_to}
use Rattle.clone_path.proofs.+find_along.Given as goal

abbrev pub decreases-find_along : goal.decreases-find_along
decreases-find_along l = goal.size-find_along l

abbrev pub invariant-loop-node : goal.invariant-loop-node
invariant-loop-node l = record {
  whole : forest_at l.node-items ≡ l.forest;
  apart : IsDistinct nat_eq (tags_of (contents_of (forest_at (drop l.node-index l.node-items))));
  way : way_to l.tag (forest_at (drop l.node-index l.node-items)) ≡ Some (l.first ∷ l.below);
  found : first_settled l.tag (forest_at (drop l.node-index l.node-items)) ≡ first_settled l.tag l.forest;
  within : node_count (forest_at (drop l.node-index l.node-items)) ≤ node_count l.forest;
}
