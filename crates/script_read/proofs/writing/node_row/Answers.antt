use Rattle.std.proofs.Common.{ap, ◌∙◌, arith}
use Rattle.prop_table.specs.Rules.{rule_at}
use Rattle.script_read.proofs.RowMembers.{rule_of-at}
use Rattle.script_read.proofs.writing.node_row.Goals as goal

pub returns : goal.returns
returns c =
    rule_of-at c.node_table.result.rows.now c.args.index _ (omega (arith, c.node_table.result.sized)) ∙ ap (λ rules. rule_at rules c.args.index) c.node_table.ensures
