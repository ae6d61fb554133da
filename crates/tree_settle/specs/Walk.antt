-- The walk that settles: a forest in a parent, and the list of its new nodes.
use Rattle.std.specs.Prelude.{ℕ, ◌*◌, pos, ◌+ℤ◌, ◌≤ℤ◌, List, [], ◌∷◌, Option, Some, None}
use Rattle.shadow_frame.specs.declared.Size.{Size}
use Rattle.native_state.specs.declared.StateCell.{StateCell}
use Rattle.shadow_kinds.specs.Traits.{has_state_of}
use Rattle.shadow_node.specs.Forest.{PlainForest, none, node, PlainNode}
use Rattle.shadow_node.specs.Fields.{NodeFields, SettledFields, contents_of}
use Rattle.shadow_node.specs.Falls.{Shared}
use Rattle.shadow_node.specs.Frames.{frame_in, state_when}
use Rattle.tree_settle.specs.Changes.{is_settled, changes_with, changes_in}
use Rattle.tree_settle.specs.Limits.{IsFrameInBounds, AreFramesInBounds}

-- a node in a parent of that size, with its family's state and its frame
abbrev pub fields_in : Size → (newest : ℕ → StateCell) → NodeFields → SettledFields
fields_in parent newest fields = record {
  fields = fields;
  state = state_when (has_state_of fields.kind) (newest fields.tag);
  frame = frame_in parent fields;
}

-- a forest in a parent of that size: what lies below a node is placed in the size of the node's frame
abbrev pub settled_in : Size → (newest : ℕ → StateCell) → PlainForest NodeFields → PlainForest SettledFields
settled_in parent newest none = none
settled_in parent newest (node fields children siblings) =
    node (fields_in parent newest fields) (settled_in (frame_in parent fields).size newest children) (settled_in parent newest siblings)

-- the same of one tree
abbrev pub settled_tree : Size → (newest : ℕ → StateCell) → PlainNode SettledFields → PlainNode SettledFields
settled_tree parent newest tree = record {
  fields = fields_in parent newest tree.fields.fields;
  children = settled_in (frame_in parent tree.fields.fields).size newest (contents_of tree.children);
}

-- how many nodes of one tree change
abbrev pub changes_of : Size → (newest : ℕ → StateCell) → PlainNode SettledFields → ℕ
changes_of parent newest tree =
    changes_with (is_settled parent newest tree.fields) (changes_in (frame_in parent tree.fields.fields).size newest tree.children)

-- the tree of the new node, where there is one, and else the one that was
abbrev pub tree_or : Option Shared → PlainNode SettledFields → PlainNode SettledFields
tree_or (Some new) kept = new.value
tree_or None kept = kept

-- the list of new nodes, once it is begun, and else the nodes before it
abbrev pub begun_or : List Shared → List Shared → List Shared
begun_or [] before = before
begun_or (first ∷ all) before = first ∷ all

-- each frame of a tree is in bounds
abbrev pub IsTreeInBounds : PlainNode SettledFields → Type 0
IsTreeInBounds tree = IsFrameInBounds tree.fields.frame × AreFramesInBounds tree.children

-- a size that leaves room for a number of levels of nodes in it, of which each may be 2,000,000 points larger each way than the one above
pub record HasRoomInside (size : Size) (levels : ℕ) : Type 0 where
  pub width_low : pos 0 ≤ℤ size.width
  pub width_high : (size.width +ℤ pos (2000000 * levels)) ≤ℤ pos 97000000
  pub height_low : pos 0 ≤ℤ size.height
  pub height_high : (size.height +ℤ pos (2000000 * levels)) ≤ℤ pos 97000000
