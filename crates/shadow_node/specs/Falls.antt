-- Each tree of a forest is smaller than the forest.
use Rattle.std.specs.Prelude.{ℕ, ◌+◌, ◌*◌, ◌≤◌, List, [], ◌∷◌, map}
use Rattle.std.proofs.Common.{arith}
use Rattle.std.specs.declared.sync.Arc.{Arc}
use Rattle.std.specs.declared.alloc.Global.{Global}
use denote.Param.Weighed.{most}
use Rattle.shadow_node.specs.Forest.{PlainForest, PlainNode, forest_of, node_count}
use Rattle.shadow_node.specs.Fields.{SettledFields}

abbrev pub node_size : PlainNode SettledFields → ℕ
node_size tree = 2 * node_count tree.children + 1

abbrev pub forest_size : PlainForest SettledFields → ℕ
forest_size forest = 2 * node_count forest

-- a shared node
abbrev pub Shared : Type 0
Shared = Arc (PlainNode SettledFields) Global

-- the trees that shared nodes are
abbrev pub trees_of : List Shared → List (PlainNode SettledFields)
trees_of = map (λ shared. shared.value)

-- the forest of a list of shared nodes
abbrev pub forest_at : List Shared → PlainForest SettledFields
forest_at nodes = forest_of (trees_of nodes)

pub most_le-forest : (nodes : List Shared) → most (λ r. node_size r.value + 1) nodes ≤ 2 * node_count (forest_at nodes)
most_le-forest [] = omega arith
most_le-forest (r ∷ rs) = omega (arith, most_le-forest rs)
