-- The places that a walk finds.
use Rattle.std.specs.Prelude.{◌≡◌, Bool, List, map}
use Rattle.std.specs.List.{All}
use Rattle.shadow_frame.specs.declared.Point.{Point}
use Rattle.shadow_node.specs.Fields.{SettledFields}
use Rattle.host_views.specs.declared.HostView.{HostView}
use Rattle.host_views.specs.Plain.{PlainPlacedView, PlainHostTree}
use Rattle.view_flatten.specs.declared.placing.Placed.{Placed}
use Rattle.view_flatten.specs.Walks.{PlainWalk}

-- the view of a node that begins there in its host parent
abbrev pub view_from : Point → SettledFields → HostView
view_from origin settled = record {
  kind = settled.fields.kind;
  props = settled.fields.props;
  label = settled.fields.label;
  state = settled.state;
  frame = record { origin = origin; size = settled.frame.size };
}

-- the placed view of a place
abbrev pub plain_place : Placed → PlainPlacedView
plain_place placed = record {
  tag = placed.spot.tree.fields.fields.tag;
  parent = placed.parent;
  index = placed.index;
  view = view_from placed.origin placed.spot.tree.fields;
}

-- the host tree of some places
abbrev pub plain_places : List Placed → PlainHostTree
plain_places places = map plain_place places

-- exactly the places whose nodes pass a test are marked as skipped
abbrev pub AreMarked : (SettledFields → Bool) → List Placed → Type 0
AreMarked test places = All (λ placed. placed.is_skipped ≡ test placed.spot.tree.fields) places

-- both go over the same forest with the same stamps
pub record IsSameWalk (one other : PlainWalk) : Type 0 where
  pub forest : other.forest ≡ one.forest
  pub stamps : other.stamps ≡ one.stamps
