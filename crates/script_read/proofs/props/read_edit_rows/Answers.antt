use Rattle.std.proofs.Common.{◌≡◌, arith, rules, length}
use Rattle.std.proofs.lemmas.List.{length-map}
use Rattle.serde_json.specs.View.{view}
use Rattle.prop_table.specs.Rules.{rules_of, rule_of}
use Rattle.script_read.proofs.Rows.{edits_more}
use Rattle.script_read.proofs.props.read_edit_rows.Goals as goal

pub loop-row-preserved : goal.loop-row-preserved
loop-row-preserved g c =
    edits_more (view c.args.value.now) (rules_of c.args.table.now) c.loop-row.row c.loop-row.edit c.with_edit-edit.result
    (let n : length c.args.table.now.rows.now ≡ g.row.N = search rules in omega (arith, length-map c.args.table.now.rows.now rule_of)) c.loop-row.invariant c.with_edit-edit.ensures
