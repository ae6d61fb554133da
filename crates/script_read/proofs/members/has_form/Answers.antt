use Rattle.std.proofs.Common.{rules}
use Rattle.serde_json.specs.View.{view}
use Rattle.script_read.proofs.Entries.{form_counted}
use Rattle.script_read.proofs.members.has_form.Goals as goal

pub returns-then-names_found-required : goal.returns-then-names_found-required
returns-then-names_found-required c =
    form_counted (view c.args.value.now) c.in-Some.members.now.entries c.args.required.now c.args.optional.now c.names_found.result c.len.result
    c.names_found-then-names_found-required.result (search rules) c.names_found.ensures (search rules) (search rules) c.names_found-then-names_found-required.ensures
