use Rattle.std.proofs.Common.{◌≡◌, ◌<◌, length, arith, rules, sym, ◌∙◌}
use Rattle.serde_json.specs.View.{members_view}
use Rattle.prop_table.specs.Table.{v2_rules}
use Rattle.script_read.specs.Writing.{with_members, row_members, changed_rows}
use Rattle.script_read.proofs.RowMembers.{row_put, changed_rows-length, changed_rows-at}
use Rattle.script_read.proofs.writing.put_changed.Goals as goal

pub loop-index-preserved : goal.loop-index-preserved
loop-index-preserved c =
    let within : c.loop-index.index < 22 = omega arith in
    let many : length (changed_rows v2_rules c.args.props.now) ≡ 22 = changed_rows-length v2_rules c.args.props.now (sym c.count-index-end.ensures.count) ∙ c.count-index-end.ensures.count in
    row_put v2_rules (changed_rows v2_rules c.args.props.now) c.loop-index.index c.node_row-row.result c.unless_start-named.result (members_view c.loop-index.members.entries) (members_view c.put_row.new.members.entries)
    (with_members (row_members v2_rules (changed_rows v2_rules c.args.props.now)) (members_view c.args.members.now.entries)) within (omega arith) c.node_row-row.ensures (changed_rows-at v2_rules c.args.props.now c.loop-index.index within (omega (arith, c.count-index-end.ensures.count)) ∙ rw (← c.node_row-row.ensures, ← c.get.ensures) (sym c.unless_start-named.ensures)) (search rules) c.loop-index.invariant
