-- A walk over a forest, and the nodes that it hands out.
use Rattle.std.specs.Prelude.{◌≡◌, ℕ, Option, MatchOption, IfSome, refl}
use Rattle.std.specs.Coded.{Coded, code_by, coded×, coded_ℕ}
use Rattle.std.specs.FinMap as map
use Rattle.counts.specs.Raised.{raised}
use Rattle.shadow_node.specs.Code.{coded_forest, coded_node, coded_settled}
use Rattle.shadow_node.specs.Forest.{PlainForest, PlainNode, none, node}
use Rattle.shadow_node.specs.Fields.{SettledFields}
use Rattle.shadow_node.specs.Stamps.{StampMap}

-- a walk over a forest, with the stamps of its nodes, and how many nodes it has entered
pub record PlainWalk : Type 0 where
  pub forest : PlainForest SettledFields
  pub stamps : StampMap
  pub entered : ℕ

-- some nodes of a walk, each with what lies below it, in order
pub record PlainSpots : Type 0 where
  pub forest : PlainForest SettledFields
  pub stamps : StampMap

-- a node of a walk with what lies below it
pub record PlainSpot : Type 0 where
  pub tree : PlainNode SettledFields
  pub stamps : StampMap

-- a walk after it entered so many more nodes
abbrev pub entered_more : PlainWalk → ℕ → PlainWalk
entered_more walk count = record walk { entered = raised walk.entered count }

-- the first node of some is handed out, and the others are left; or there is none
pub record HandsOut (old : PlainSpots) (result : Option PlainSpot) (new : PlainSpots) : Type 0 where
  pub first : MatchOption result (old.forest ≡ none) (λ spot. old.forest ≡ node spot.tree.fields spot.tree.children new.forest)
  pub spot : IfSome result (λ spot. spot.stamps ≡ old.stamps)
  pub stamps : new.stamps ≡ old.stamps

-- a map of stamps is stored as its entries
abbrev pub coded_stamps : Coded StampMap
coded_stamps = map.code coded_ℕ coded_ℕ

-- these are stored as the tuples of their parts
abbrev pub coded_walk : Coded PlainWalk
coded_walk =
    code_by (PlainForest SettledFields × (StampMap × ℕ)) (coded× (coded_forest coded_settled) (coded× coded_stamps coded_ℕ))
    (λ walk. (walk.forest, (walk.stamps, walk.entered))) (λ parts. record { forest = parts.0; stamps = parts.1.0; entered = parts.1.1 }) (λ _. refl)

abbrev pub coded_spots : Coded PlainSpots
coded_spots =
    code_by (PlainForest SettledFields × StampMap) (coded× (coded_forest coded_settled) coded_stamps)
    (λ spots. (spots.forest, spots.stamps)) (λ parts. record { forest = parts.0; stamps = parts.1 }) (λ _. refl)

abbrev pub coded_spot : Coded PlainSpot
coded_spot =
    code_by (PlainNode SettledFields × StampMap) (coded× (coded_node coded_settled) coded_stamps)
    (λ spot. (spot.tree, spot.stamps)) (λ parts. record { tree = parts.0; stamps = parts.1 }) (λ _. refl)
