-- Frames: where each node of a forest stands in its parent.
use Rattle.std.specs.Prelude.{ℕ, List, [], ◌∷◌, Bool, if◌then◌else◌, Option, Some, None}
use Rattle.shadow_frame.specs.declared.Rect.{Rect}
use Rattle.shadow_frame.specs.declared.Size.{Size}
use Rattle.shadow_frame.specs.Place.{placed}
use Rattle.native_state.specs.declared.StateCell.{StateCell}
use Rattle.shadow_kinds.specs.Axes.{x_axis_of, y_axis_of}
use Rattle.shadow_kinds.specs.Traits.{has_state_of}
use Rattle.shadow_node.specs.Forest.{PlainForest, none, node}
use Rattle.shadow_node.specs.Fields.{NodeFields, SettledFields}

-- a node's frame in a parent of that size
abbrev pub frame_in : Size → NodeFields → Rect
frame_in parent fields = placed (x_axis_of fields.props) (y_axis_of fields.props) parent

-- a node's frame below its ancestors, the nearest first: a top node is placed in the surface's size, each other one in the size of its parent's frame
abbrev pub frame_of : Size → List NodeFields → NodeFields → Rect
frame_of size [] fields = frame_in size fields
frame_of size (parent ∷ above) fields = frame_in (frame_of size above parent).size fields

-- the state of a node: its family's newest, where its kind has one
abbrev pub state_when : Bool → StateCell → Option StateCell
state_when has_state cell = if has_state then Some cell else None

-- a forest below its ancestors, with each node's state and frame
abbrev pub settled_below : Size → (ℕ → StateCell) → List NodeFields → PlainForest NodeFields → PlainForest SettledFields
settled_below size newest above none = none
settled_below size newest above (node fields children siblings) =
    node (record { fields = fields; state = state_when (has_state_of fields.kind) (newest fields.tag); frame = frame_of size above fields })
    (settled_below size newest (fields ∷ above) children) (settled_below size newest above siblings)

-- a surface's forest, with each node's state and frame
abbrev pub settled_forest : Size → (ℕ → StateCell) → PlainForest NodeFields → PlainForest SettledFields
settled_forest size newest forest = settled_below size newest [] forest
