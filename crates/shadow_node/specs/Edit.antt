-- A node with a change.
use Rattle.std.specs.Prelude.{unwrap_or}
use Rattle.prop_table.specs.Edits.{merged}
use Rattle.shadow_node.specs.declared.NodeEdit.{NodeEdit}
use Rattle.shadow_node.specs.Fields.{NodeFields, SettledFields}

-- the named rows, and the label where one is given, are changed, and all else is as before
abbrev pub edited : NodeEdit → NodeFields → NodeFields
edited change fields = record {
  tag = fields.tag;
  kind = fields.kind;
  props = merged fields.props change.rows;
  label = unwrap_or change.label fields.label;
}

-- the same of a node with its state and its frame, which stay
abbrev pub edited_settled : NodeEdit → SettledFields → SettledFields
edited_settled change settled = record { fields = edited change settled.fields; state = settled.state; frame = settled.frame }
