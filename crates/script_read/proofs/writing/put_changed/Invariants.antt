use Rattle.std.proofs.Common.{◌≡◌, drop}
use Rattle.serde_json.specs.View.{members_view}
use Rattle.prop_table.specs.Table.{v2_rules}
use Rattle.script_read.specs.Writing.{with_members, row_members, changed_rows}
use Rattle.script_read.proofs.writing.put_changed.Given as goal

abbrev pub invariant-loop-index : goal.invariant-loop-index
invariant-loop-index l =
    with_members (row_members (drop l.index v2_rules) (drop l.index (changed_rows v2_rules l.props))) (members_view l.members.entries)
    ≡ with_members (row_members v2_rules (changed_rows v2_rules l.props)) (members_view l.initial.members.entries)
