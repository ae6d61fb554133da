-- A forest is no deeper than it has nodes.
use Rattle.std.proofs.Common.{◌≡◌, ℕ, ◌<◌, ◌≤◌, List, length, get_or, drop, ap, arith}
use Rattle.shadow_node.specs.Forest.{PlainForest, none, node, node_count, depth_of}
use Rattle.shadow_node.specs.Fields.{SettledFields}
use Rattle.shadow_node.specs.Falls.{Shared, forest_at}
use Rattle.shadow_node.proofs.Trees.{forest_at-drop}

pub depth_le_count : (forest : PlainForest SettledFields) → depth_of forest ≤ node_count forest
depth_le_count none = omega arith
depth_le_count (node settled children siblings) = omega (arith, depth_le_count children, depth_le_count siblings)

-- the children of a node that is left are fewer than the nodes that are left
pub children_lt_left : (nodes : List Shared) (i : ℕ) (d : Shared) → i < length nodes → d ≡ get_or nodes i d
    → node_count d.value.children < node_count (forest_at (drop i nodes))
children_lt_left nodes i d h e = let left = ap node_count (forest_at-drop nodes i d h e) in omega (arith, left)
