use Rattle.std.proofs.Common.{◌≡◌, sym, ◌∙◌, rules}
use Rattle.std.specs.Prelude.{true}
use Rattle.serde_json.specs.View.{members_view}
use Rattle.serde_json.proofs.Views.{view-Object}
use Rattle.prop_table.specs.Table.{v2_rules}
use Rattle.script_read.specs.Writing.{row_members, changed_rows, edit_members, some_label}
use Rattle.script_read.proofs.RowMembers.{props_put, some_object-none, some_object-some, no_entries, no_members-entries}
use Rattle.script_read.proofs.writing.some_props.Goals as goal

pub returns-then-is_empty-clause-json : goal.returns-then-is_empty-clause-json
returns-then-is_empty-clause-json c =
    let all = props_put (row_members v2_rules (changed_rows v2_rules c.args.props.now)) c.some_label.result (some_label c.args.label.now)
    (members_view c.put_changed.new.members.entries) (members_view c.put_label.new.members.entries) (search rules) (search rules) c.some_label.ensures.some
    in
    sym (some_object-none (edit_members (changed_rows v2_rules c.args.props.now) (some_label c.args.label.now))
    (all ∙ no_entries c.put_label.new.members.entries (c.is_empty.ensures.0 (search rules))))

pub returns-clause-json : goal.returns-clause-json
returns-clause-json c =
    let all = props_put (row_members v2_rules (changed_rows v2_rules c.args.props.now)) c.some_label.result (some_label c.args.label.now)
    (members_view c.put_changed.new.members.entries) (members_view c.put_label.new.members.entries) (search rules) (search rules) c.some_label.ensures.some
    in
    rw (view-Object c.put_label.new.members, ← all)
    (sym (some_object-some (edit_members (changed_rows v2_rules c.args.props.now) (some_label c.args.label.now))
    (λ none. let empty : c.is_empty.result ≡ true = c.is_empty.ensures.1 (no_members-entries c.put_label.new.members.entries (sym all ∙ none)) in cc)))
