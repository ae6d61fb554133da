use Rattle.std.proofs.Common.{sym, arith}
use Rattle.std.proofs.lemmas.Grind.{common_steps}
use Rattle.serde_json.proofs.Views.{view-Array}
use Rattle.script_read.proofs.RowMembers.{some_array-some}
use Rattle.script_read.proofs.writing.some_array.Goals as goal

pub returns-else-is_empty : goal.returns-else-is_empty
returns-else-is_empty c =
    rw (view-Array c.args.values) (sym (some_array-some c.args.values.items (λ none. grind (arith, common_steps, none))))
