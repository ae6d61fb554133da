use Rattle.std.proofs.Common.{rules}
use Rattle.serde_json.specs.View.{view}
use Rattle.script_read.proofs.Items.{array_items}
use Rattle.script_read.proofs.members.items_in.Goals as goal

pub returns-in-Some : goal.returns-in-Some
returns-in-Some c =
    array_items (view c.args.value.now) c.as_slice.result.now (search rules)
