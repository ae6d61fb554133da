use Rattle.std.proofs.Common.{◌≡◌, ◌+◌, true, false, rules, arith, codes}
use Rattle.std.specs.Prelude.{is_some}
use Rattle.serde_json.specs.Find.{get}
use Rattle.serde_json.specs.View.{view}
use Rattle.script_read.proofs.Entries.{rows_counted}
use Rattle.script_read.proofs.props.has_rows_form.Goals as goal

pub returns-then-is_some : goal.returns-then-is_some
returns-then-is_some c =
    let labelled : is_some (get (codes "label") (view c.args.props.now)) ≡ true = search rules in
    rows_counted (view c.args.props.now) c.in-Some.members.now.entries c.args.rows.now c.rows_found-found.result c.len.result (c.rows_found-found.result + 1)
    (search rules) c.rows_found-found.ensures (search rules) (rw labelled (omega arith))

pub returns-else-is_some : goal.returns-else-is_some
returns-else-is_some c =
    let unlabelled : is_some (get (codes "label") (view c.args.props.now)) ≡ false = search rules in
    rows_counted (view c.args.props.now) c.in-Some.members.now.entries c.args.rows.now c.rows_found-found.result c.len-else-is_some.result c.rows_found-found.result
    (search rules) c.rows_found-found.ensures (search rules) (rw unlabelled (omega arith))
