-- The limits of a revision's forest.
use Rattle.std.specs.Prelude.{◌≤◌, nat_eq}
use Rattle.std.specs.List.{IsDistinct}
use Rattle.shadow_node.specs.Forest.{PlainForest, depth_of, node_count}
use Rattle.shadow_node.specs.Fields.{NodeFields, tags_of}

-- a forest that a revision may have: its tags differ, it is at most 48 deep, and it has at most 2,000 nodes
pub record IsForestWithin (forest : PlainForest NodeFields) : Type 0 where
  pub differ : IsDistinct nat_eq (tags_of forest)
  pub depth : depth_of forest ≤ 48
  pub count : node_count forest ≤ 2000
