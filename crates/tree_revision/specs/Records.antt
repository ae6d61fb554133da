-- Commits as plain data.
use Rattle.std.specs.Prelude.{ℕ}
use Rattle.shadow_frame.specs.declared.Size.{Size}
use Rattle.native_state.specs.declared.StateChange.{StateChange}
use Rattle.shadow_node.specs.declared.NodeEdit.{NodeEdit}
use Rattle.tree_build.specs.Script.{ScriptForest, no_more, script_forest}
use Rattle.tree_revision.specs.declared.record.Op.{Op}
use Rattle.tree_revision.specs.declared.record.Op.TheVariants.{Complete, State, Props, Size as SizeOp, Stop, Suspend, Resume}
use Rattle.tree_revision.specs.declared.record.Record.{Record}

-- a change that a commit makes
pub data PlainOp : Type 0 where
  complete : ScriptForest → PlainOp
  state : ℕ → StateChange → PlainOp
  props : ℕ → NodeEdit → PlainOp
  resize : Size → PlainOp
  stop : PlainOp
  suspend : PlainOp
  resume : PlainOp

-- an admitted commit: its actor and call, the number of the revision that its caller held, and its change
pub record PlainRecord : Type 0 where
  pub actor : ℕ
  pub call : ℕ
  pub held : ℕ
  pub op : PlainOp

-- a change without pointers
abbrev pub plain_op : Op → PlainOp
plain_op (Complete nodes) = complete (script_forest nodes)
plain_op (State tag change) = state tag change
plain_op (Props tag change) = props tag change
plain_op (SizeOp size) = resize size
plain_op Stop = stop
plain_op Suspend = suspend
plain_op Resume = resume

-- a record without pointers
abbrev pub plain_record : Record → PlainRecord
plain_record entry = record { actor = entry.actor; call = entry.call; held = entry.held; op = plain_op entry.op.value }

-- the nodes that a change names; only a complete names any
abbrev pub nodes_of : PlainOp → ScriptForest
nodes_of (complete nodes) = nodes
nodes_of _ = no_more
