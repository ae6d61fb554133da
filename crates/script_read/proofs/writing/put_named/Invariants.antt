use Rattle.std.proofs.Common.{◌≡◌, drop}
use Rattle.serde_json.specs.View.{members_view}
use Rattle.prop_table.specs.Table.{v2_rules}
use Rattle.script_read.specs.Writing.{with_members, row_members}
use Rattle.script_read.proofs.writing.put_named.Given as goal

abbrev pub invariant-loop-index : goal.invariant-loop-index
invariant-loop-index l =
    with_members (row_members (drop l.index v2_rules) (drop l.index l.rows)) (members_view l.members.entries)
    ≡ with_members (row_members v2_rules l.rows) (members_view l.initial.members.entries)
