use Rattle.std.proofs.Common.{◌≡◌, drop, map}
use Rattle.std.specs.List.{position_from}
use Rattle.std.specs.Str.{bytes_eq}
use Rattle.prop_table.specs.Rules.{rule_of, rules_of, row_named}
use Rattle.prop_table.proofs.table.PropTable.find.Given as goal

abbrev pub invariant-loop-index : goal.invariant-loop-index
invariant-loop-index g l =
    position_from (λ rule. bytes_eq rule.name l.name) l.index (map rule_of (drop l.index l.self.rows.now)) ≡ row_named (rules_of l.self) l.name
