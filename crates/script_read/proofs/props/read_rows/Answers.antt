use Rattle.std.proofs.Common.{◌≡◌, arith, rules, length}
use Rattle.std.proofs.lemmas.List.{length-map}
use Rattle.serde_json.specs.View.{view}
use Rattle.prop_table.specs.Rules.{rules_of, rule_of}
use Rattle.script_read.proofs.Rows.{rows_more}
use Rattle.script_read.proofs.props.read_rows.Goals as goal

pub loop-row-preserved : goal.loop-row-preserved
loop-row-preserved g c =
    rows_more (view c.args.value.now) (rules_of c.args.table.now) c.loop-row.row c.loop-row.props c.with_row-props.result
    (let n : length c.args.table.now.rows.now ≡ g.row.N = search rules in omega (arith, length-map c.args.table.now.rows.now rule_of)) c.loop-row.invariant c.with_row-props.ensures
