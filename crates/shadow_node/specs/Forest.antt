-- A forest of nodes as plain data, and what is read from it.
use Rattle.std.specs.Prelude.{ℕ, ◌+◌, max, List, [], ◌∷◌, ◌++◌}

-- a list of trees: the first tree's node and children, and then its later siblings
pub data PlainForest (A : Type 0) : Type 0 where
  none : PlainForest A
  node : A → (children : PlainForest A) → (siblings : PlainForest A) → PlainForest A

-- one tree: a node's fields, and its children
pub record PlainNode (A : Type 0) : Type 0 where
  pub fields : A
  pub children : PlainForest A

-- the trees, in order
abbrev pub forest_of : {A : Type 0} → List (PlainNode A) → PlainForest A
forest_of [] = none
forest_of (tree ∷ trees) = node tree.fields tree.children (forest_of trees)

-- the number of nodes
abbrev pub node_count : {A : Type 0} → PlainForest A → ℕ
node_count none = 0
node_count (node fields children siblings) = node_count children + node_count siblings + 1

-- the greatest depth of a node; a top node has depth 1
abbrev pub depth_of : {A : Type 0} → PlainForest A → ℕ
depth_of none = 0
depth_of (node fields children siblings) = max (depth_of children + 1) (depth_of siblings)

-- the nodes, each before its children, and children in their order
abbrev pub preorder : {A : Type 0} → PlainForest A → List A
preorder none = []
preorder (node fields children siblings) = fields ∷ preorder children ++ preorder siblings

-- the same forest with other fields
abbrev pub forest_map : {A B : Type 0} → (A → B) → PlainForest A → PlainForest B
forest_map f none = none
forest_map f (node fields children siblings) = node (f fields) (forest_map f children) (forest_map f siblings)
