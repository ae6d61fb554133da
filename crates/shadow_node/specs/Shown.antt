-- The nodes of a forest with their ancestors, and which of them are shown.
use Rattle.std.specs.Prelude.{List, [], ◌∷◌, ◌++◌, Bool, not}
use Rattle.std.specs.List.{list_any}
use Rattle.shadow_kinds.specs.Traits.{is_hidden_of}
use Rattle.shadow_node.specs.Forest.{PlainForest, none, node}
use Rattle.shadow_node.specs.Fields.{SettledFields}

-- a node with its ancestors, the nearest first
pub record Descendant : Type 0 where
  pub settled : SettledFields
  pub above : List SettledFields

-- the nodes of a forest below some ancestors, in preorder
abbrev pub descendants_below : List SettledFields → PlainForest SettledFields → List Descendant
descendants_below above none = []
descendants_below above (node settled children siblings) =
    record { settled = settled; above = above } ∷ descendants_below (settled ∷ above) children ++ descendants_below above siblings

-- the nodes of a forest in preorder, each with its ancestors
abbrev pub descendants : PlainForest SettledFields → List Descendant
descendants forest = descendants_below [] forest

-- a node and its ancestors, the node first
abbrev pub line_of : Descendant → List SettledFields
line_of here = here.settled ∷ here.above

-- a node is shown where neither it nor an ancestor is hidden
abbrev pub is_shown : Descendant → Bool
is_shown here = not (list_any (λ settled. is_hidden_of settled.fields.props) (line_of here))
