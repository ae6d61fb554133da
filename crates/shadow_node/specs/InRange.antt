-- When the values of a node and of a change of it are in range.
use Rattle.std.specs.Prelude.{ℕ, ◌≤◌, ◌<◌, ◌^◌, length, IfSome}
use Rattle.prop_table.specs.Table.{v2_rules, AreNodeProps}
use Rattle.prop_table.specs.Edits.{AreEditsInRows}
use Rattle.shadow_node.specs.declared.NodeEdit.{NodeEdit}
use Rattle.shadow_node.specs.Fields.{NodeFields}

-- a tag is from 1 to 2,147,483,647
pub record IsTagInRange (tag : ℕ) : Type 0 where
  pub low : 1 ≤ tag
  pub high : tag < 2 ^ 31

-- what a script says of a node: its tag is in range, its props are in those of the node's table, and its label has at most 256 bytes
pub record AreFieldsInRange (fields : NodeFields) : Type 0 where
  pub tag : IsTagInRange fields.tag
  pub props : AreNodeProps fields.props
  pub label : length fields.label ≤ 256

-- a change of a node: each named row takes its number, and the label, where one is given, has at most 256 bytes
pub record IsEditInRange (edit : NodeEdit) : Type 0 where
  pub rows : AreEditsInRows v2_rules edit.rows
  pub label : IfSome edit.label (λ label. length label ≤ 256)
