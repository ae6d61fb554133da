-- What holds of every node.
use Rattle.std.specs.Prelude.{◌≡◌, ◌≤◌, ◌<◌, ◌^◌, Bool, true, false, is_some}
use Rattle.prop_table.specs.Table.{AreNodeProps}
use Rattle.shadow_kinds.specs.Traits.{is_leaf_of, has_state_of}
use Rattle.shadow_node.specs.Forest.{PlainForest, none, node, PlainNode}
use Rattle.shadow_node.specs.Fields.{SettledFields}

-- a leaf has no children
abbrev pub FitsLeaf : {A : Type 0} → Bool → PlainForest A → Type 0
FitsLeaf true none = Unit {0}
FitsLeaf true (node fields children siblings) = ⊥
FitsLeaf false children = Unit {0}

-- a node's tag is in range, its props are in their table, and it has a state exactly where its kind has one
pub record IsSoundFields (settled : SettledFields) : Type 0 where
  pub tag_low : 1 ≤ settled.fields.tag
  pub tag_high : settled.fields.tag < 2 ^ 31
  pub props : AreNodeProps settled.fields.props
  pub state : is_some settled.state ≡ has_state_of settled.fields.kind

-- what holds of each node: its fields are sound, and a leaf has no children
abbrev pub IsSoundNode : PlainNode SettledFields → Type 0
IsSoundNode tree = IsSoundFields tree.fields × FitsLeaf (is_leaf_of tree.fields.fields.kind) tree.children
