-- What a node is.
use Rattle.std.specs.Prelude.{ℕ, List, Option, map}
use Rattle.shadow_frame.specs.declared.Rect.{Rect}
use Rattle.native_state.specs.declared.StateCell.{StateCell}
use Rattle.prop_table.specs.Props.{PropList}
use Rattle.shadow_kinds.specs.declared.Kind.{Kind}
use Rattle.shadow_node.specs.Forest.{PlainForest, preorder, forest_map}

-- what a script says of a node
pub record NodeFields : Type 0 where
  pub tag : ℕ
  pub kind : Kind
  pub props : PropList
  pub label : List ℕ

-- a node of a revision: with the state that its family has, and its frame in its parent
pub record SettledFields : Type 0 where
  pub fields : NodeFields
  pub state : Option StateCell
  pub frame : Rect

-- a forest without its states and frames
abbrev pub contents_of : PlainForest SettledFields → PlainForest NodeFields
contents_of forest = forest_map (λ settled. settled.fields) forest

-- the tags of a forest in preorder
abbrev pub tags_of : PlainForest NodeFields → List ℕ
tags_of forest = map (λ fields. fields.tag) (preorder forest)
