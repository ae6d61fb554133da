-- What the types of a script's values keep: points of 64 bits, and labels that are texts.
use Rattle.std.specs.Prelude.{◌^◌, IsTrue, IfSome, pos, ◌<ℤ◌}
use Rattle.std.specs.Str.{is_utf8}
use Rattle.shadow_frame.specs.declared.Point.{Point}
use Rattle.native_state.specs.declared.StateChange.{StateChange}
use Rattle.native_state.specs.declared.StateChange.TheVariants.{Set, Add, SetIf}
use Rattle.shadow_node.specs.declared.NodeEdit.{NodeEdit}
use Rattle.tree_build.specs.Script.{ScriptForest, no_more, written, kept, kept_with}
use Rattle.tree_revision.specs.Records.{PlainOp, complete, state, props, resize, stop, suspend, resume}
use Rattle.tree_revision.specs.Script.{PlainAct, commit, hold, mount}

-- the coordinates of a point are below 2^63, as all numbers of 64 bits are
pub record IsPointFit (point : Point) : Type 0 where
  pub x : point.x <ℤ pos (2 ^ 63)
  pub y : point.y <ℤ pos (2 ^ 63)

-- the points of a change of state
abbrev pub IsChangeFit : StateChange → Type 0
IsChangeFit (Set point) = IsPointFit point
IsChangeFit (Add by) = IsPointFit by
IsChangeFit (SetIf count point) = IsPointFit point

-- the label that an edit gives is a text
abbrev pub IsEditFit : NodeEdit → Type 0
IsEditFit edit = IfSome edit.label (λ label. IsTrue (is_utf8 label))

-- the labels of the nodes of a tree, and of the edits of those that are kept, are texts
abbrev pub AreLabelsText : ScriptForest → Type 0
AreLabelsText no_more = Unit {0}
AreLabelsText (written fields children siblings) = IsTrue (is_utf8 fields.label) × AreLabelsText children × AreLabelsText siblings
AreLabelsText (kept tag change siblings) = IfSome change IsEditFit × AreLabelsText siblings
AreLabelsText (kept_with tag change children siblings) = IfSome change IsEditFit × AreLabelsText children × AreLabelsText siblings

-- the points and labels of a change that a commit makes
abbrev pub IsOpFit : PlainOp → Type 0
IsOpFit (complete nodes) = AreLabelsText nodes
IsOpFit (state tag change) = IsChangeFit change
IsOpFit (props tag change) = IsEditFit change
IsOpFit (resize size) = Unit {0}
IsOpFit stop = Unit {0}
IsOpFit suspend = Unit {0}
IsOpFit resume = Unit {0}

-- the points and labels of what a step does
abbrev pub IsActFit : PlainAct → Type 0
IsActFit (commit op) = IsOpFit op
IsActFit hold = Unit {0}
IsActFit mount = Unit {0}
