-- What a forest with other fields keeps.
use Rattle.std.proofs.Common.{◌≡◌, refl}
use Rattle.shadow_node.specs.Forest.{PlainForest, none, node, node_count, depth_of, forest_map}

-- the number of nodes
pub node_count-forest_map : {A B : Type 0} (f : A → B) (forest : PlainForest A) → node_count (forest_map f forest) ≡ node_count forest
node_count-forest_map f none = refl
node_count-forest_map f (node fields children siblings) = rw (node_count-forest_map f children, node_count-forest_map f siblings) refl

-- the depth
pub depth_of-forest_map : {A B : Type 0} (f : A → B) (forest : PlainForest A) → depth_of (forest_map f forest) ≡ depth_of forest
depth_of-forest_map f none = refl
depth_of-forest_map f (node fields children siblings) = rw (depth_of-forest_map f children, depth_of-forest_map f siblings) refl

-- each node's fields are so
abbrev pub AllFields : {A : Type 0} → (A → Type 0) → PlainForest A → Type 0
AllFields P none = Unit {0}
AllFields P (node fields children siblings) = P fields × AllFields P children × AllFields P siblings
