use Rattle.std.proofs.Common.{◌≡◌, map, drop}
use Rattle.serde_json.specs.View.{view}
use Rattle.prop_table.specs.Rules.{rule_of}
use Rattle.script_read.specs.Faults.{bad_row}
use Rattle.script_read.proofs.props.bad_row.Given as goal

abbrev pub invariant-loop-row : goal.invariant-loop-row
invariant-loop-row l = bad_row (map rule_of (drop l.row-index l.rows)) (view l.props) ≡ bad_row (map rule_of l.rows) (view l.props)
