-- Which scripts can be written as texts that read back.
use Rattle.std.specs.Prelude.{◌<◌, ◌^◌, ◌≡◌, drop, All, Bool, false, IsTrue, ◌||◌, nat_eq, IfSome, replicate, None}
use Rattle.native_state.specs.declared.StateChange.{StateChange}
use Rattle.native_state.specs.declared.StateChange.TheVariants.{Set, Add, SetIf}
use Rattle.prop_table.specs.Table.{v2_rules, start_of}
use Rattle.shadow_node.specs.declared.NodeEdit.{NodeEdit}
use Rattle.shadow_node.specs.Fields.{NodeFields}
use Rattle.tree_build.specs.Script.{ScriptForest, no_more, written, kept, kept_with}
use Rattle.tree_revision.specs.Records.{PlainOp, complete, state, props, resize, stop, suspend, resume}
use Rattle.tree_revision.specs.Script.{PlainAct, commit, hold, mount, PlainScript}
use Rattle.tree_revision.specs.Sound.{IsSoundScript, IsWithinCounts}

-- what a script of version 1 or 2 says of a node: version 1 leaves the rows that version 2 adds at their start
pub record AreFieldsWritable (two : Bool) (fields : NodeFields) : Type 0 where
  pub rows : two ≡ false → drop 16 fields.props ≡ start_of (drop 16 v2_rules)

-- a change of a node: version 1 does not name the rows that version 2 adds
pub record IsEditWritable (two : Bool) (edit : NodeEdit) : Type 0 where
  pub rows : two ≡ false → drop 16 edit.rows ≡ replicate 6 None

-- the nodes of a tree
abbrev pub AreNodesWritable : (two : Bool) → ScriptForest → Type 0
AreNodesWritable two no_more = Unit {0}
AreNodesWritable two (written fields children siblings) =
    AreFieldsWritable two fields × AreNodesWritable two children × AreNodesWritable two siblings
AreNodesWritable two (kept tag change siblings) = IfSome change (IsEditWritable two) × AreNodesWritable two siblings
AreNodesWritable two (kept_with tag change children siblings) =
    IfSome change (IsEditWritable two) × AreNodesWritable two children × AreNodesWritable two siblings

-- a count of a conditional change is below 2^63
abbrev pub IsChangeWritable : StateChange → Type 0
IsChangeWritable (Set point) = Unit {0}
IsChangeWritable (Add by) = Unit {0}
IsChangeWritable (SetIf count point) = count < 2 ^ 63

-- a change that a commit makes: version 1 does not suspend or resume
abbrev pub IsOpWritable : (two : Bool) → PlainOp → Type 0
IsOpWritable two (complete nodes) = AreNodesWritable two nodes
IsOpWritable two (state tag change) = IsChangeWritable change
IsOpWritable two (props tag change) = IsEditWritable two change
IsOpWritable two (resize size) = Unit {0}
IsOpWritable two stop = Unit {0}
IsOpWritable two suspend = IsTrue two
IsOpWritable two resume = IsTrue two

-- what a step does
abbrev pub IsActWritable : (two : Bool) → PlainAct → Type 0
IsActWritable two (commit op) = IsOpWritable two op
IsActWritable two hold = Unit {0}
IsActWritable two mount = Unit {0}

-- a sound script of version 1 or 2, within the counts, with steps that its version has
pub record IsWritable (script : PlainScript) : Type 0 where
  pub version : IsTrue (nat_eq script.version 1 || nat_eq script.version 2)
  pub sound : IsSoundScript script
  pub counts : IsWithinCounts script
  pub steps : All (λ actor. All (λ step. IsActWritable (nat_eq script.version 2) step.act) actor.steps) script.actors
