use Rattle.std.proofs.Common.{arith}
use Rattle.std.proofs.lemmas.Grind.{common_steps}
use Rattle.prop_table.specs.Table.{IsInRow}
use Rattle.prop_table.specs.Rules.{rules_of, rule_at}
use Rattle.prop_table.proofs.Merging.{AreEditsInRows-set}
use Rattle.prop_table.proofs.table.PropTable.edit.Goals as goal

pub returns-clause-rows : goal.returns-clause-rows
returns-clause-rows g c = λ a.
    let i : IsInRow (rule_at (rules_of c.args.self.now) c.args.row) c.args.value = grind (arith, common_steps) in
    rw c.put.ensures.value (AreEditsInRows-set (rules_of c.args.self.now) c.args.edit.now c.args.row c.args.value a i)
