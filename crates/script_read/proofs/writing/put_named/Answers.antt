use Rattle.std.proofs.Common.{◌<◌, arith, rules, sym}
use Rattle.serde_json.specs.View.{members_view}
use Rattle.prop_table.specs.Table.{v2_rules}
use Rattle.script_read.specs.Writing.{with_members, row_members}
use Rattle.script_read.proofs.RowMembers.{row_put}
use Rattle.script_read.proofs.writing.put_named.Goals as goal

pub loop-index-preserved : goal.loop-index-preserved
loop-index-preserved c =
    let within : c.loop-index.index < 22 = omega arith in
    row_put v2_rules c.args.rows.now c.loop-index.index c.node_row-row.result c.get.result (members_view c.loop-index.members.entries) (members_view c.put_row.new.members.entries)
    (with_members (row_members v2_rules c.args.rows.now) (members_view c.args.members.now.entries)) within (omega arith) c.node_row-row.ensures (sym c.get.ensures) (search rules) c.loop-index.invariant
