-- A node's axes are in range where its props are.
use Rattle.std.proofs.Common.{ℕ, ◌<◌, ℤ, Option, Some, None, lit<}
use Rattle.prop_table.specs.Props.{PropList, value_at}
use Rattle.prop_table.specs.Table.{RowRule, IsInRow, AreNodeProps, v2_rules}
use Rattle.prop_table.specs.Rules.{rule_at}
use Rattle.prop_table.specs.declared.rows.TheConstants.{LEFT, TOP, RIGHT, BOTTOM, WIDTH, HEIGHT}
use Rattle.prop_table.proofs.InRows.{IsInRow-at}
use Rattle.shadow_frame.specs.Range.{IsWithin, IsAxisInRange}
use Rattle.shadow_kinds.specs.Axes.{x_axis_of, y_axis_of}

-- a number that a row takes is within the row's bounds
IsWithin-rule : (rule : RowRule) (value : Option ℤ) → IsInRow rule value → IsWithin rule.low rule.high value
IsWithin-rule rule None i = tt
IsWithin-rule rule (Some value) i = i

-- each row of a node's props is within its bounds
IsWithin-row : (props : PropList) (row : ℕ) → AreNodeProps props → row < 22 → IsWithin (rule_at v2_rules row).low (rule_at v2_rules row).high (value_at props row)
IsWithin-row props row a h = IsWithin-rule (rule_at v2_rules row) (value_at props row) (IsInRow-at v2_rules props row a h)

-- left, right and width are in the range of a placed axis
pub x_axis_of-in_range : (props : PropList) → AreNodeProps props → IsAxisInRange (x_axis_of props)
x_axis_of-in_range props a = record {
  start_within = IsWithin-row props LEFT a (lit< tt);
  end_within = IsWithin-row props RIGHT a (lit< tt);
  size_within = IsWithin-row props WIDTH a (lit< tt);
}

-- top, bottom and height are in the range of a placed axis
pub y_axis_of-in_range : (props : PropList) → AreNodeProps props → IsAxisInRange (y_axis_of props)
y_axis_of-in_range props a = record {
  start_within = IsWithin-row props TOP a (lit< tt);
  end_within = IsWithin-row props BOTTOM a (lit< tt);
  size_within = IsWithin-row props HEIGHT a (lit< tt);
}
