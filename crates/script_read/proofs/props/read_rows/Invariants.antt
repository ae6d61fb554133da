use Rattle.std.proofs.Common.{◌≡◌}
use Rattle.serde_json.specs.View.{view}
use Rattle.prop_table.specs.Rules.{rules_of}
use Rattle.script_read.proofs.Rows.{rows_to}
use Rattle.script_read.proofs.props.read_rows.Given as goal

abbrev pub invariant-loop-row : goal.invariant-loop-row
invariant-loop-row g l = l.props ≡ rows_to l.row (rules_of l.table) (view l.value)
