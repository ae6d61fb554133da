use Rattle.std.proofs.Common.{◌≡◌, ◌≤◌, ◌∷◌, Some, drop, take}
use Rattle.std.specs.Prelude.{nat_eq}
use Rattle.std.specs.List.{IsDistinct}
use Rattle.shadow_node.specs.Forest.{node_count}
use Rattle.shadow_node.specs.Falls.{forest_at, trees_of}
use Rattle.shadow_node.specs.Fields.{contents_of, tags_of}
use Rattle.shadow_node.specs.Find.{way_to}
use Rattle.shadow_node.proofs.Trees.{trees_before}
use Rattle.clone_path.specs.Changed.{forest_edited_at}
use Rattle.clone_path.proofs.+replace_along.Given as goal

abbrev pub decreases-replace_along : goal.decreases-replace_along
decreases-replace_along l = goal.size-replace_along l

abbrev pub invariant-loop-at : goal.invariant-loop-at
invariant-loop-at l = record {
  left : trees_before (trees_of (take l.at l.nodes)) (forest_edited_at l.tag l.change (forest_at (drop l.at l.nodes))) ≡ forest_edited_at l.tag l.change l.forest;
  apart : IsDistinct nat_eq (tags_of (contents_of (forest_at (drop l.at l.nodes))));
  way : way_to l.tag (forest_at (drop l.at l.nodes)) ≡ Some (l.first ∷ l.below);
  within : node_count (forest_at (drop l.at l.nodes)) ≤ node_count l.forest;
  made : l.made ≡ l.initial.made;
}
