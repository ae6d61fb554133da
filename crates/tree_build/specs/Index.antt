-- Nodes by their tags.
use Rattle.std.specs.Prelude.{◌≡◌, ℕ, List, Option}
use Rattle.std.specs.List.Sorted.{IsNonDecreasingBy}
use Rattle.std.specs.Option.{option_map}
use Rattle.std.specs.Ordering.{nat_cmp}
use Rattle.std.specs.FinMap.{find}
use denote.Bor.{Bor}
use Rattle.shadow_node.specs.Falls.{Shared}
use Rattle.shadow_node.specs.Forest.{PlainForest, PlainNode}
use Rattle.shadow_node.specs.Fields.{SettledFields}
use Rattle.shadow_node.specs.Find.{first_settled}

-- nodes with their tags
abbrev pub TaggedNodes : Type 0
TaggedNodes = List (ℕ × Bor Shared)

-- the first node of a tag in a list
abbrev pub found_in : TaggedNodes → ℕ → Option (PlainNode SettledFields)
found_in nodes tag = option_map (λ node. node.now.value) (find nat_cmp tag nodes)

-- a list in the order of its tags, of which each has the first node that a forest has of it
pub record IsIndexOf (nodes : TaggedNodes) (forest : PlainForest SettledFields) : Type 0 where
  pub in_order : IsNonDecreasingBy (λ node. node.0) nodes
  pub found : (tag : ℕ) → found_in nodes tag ≡ first_settled tag forest
