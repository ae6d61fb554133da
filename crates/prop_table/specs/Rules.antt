-- What a table's rows say.
use Rattle.std.specs.Prelude.{ℕ, pos, List, [], Option, None, map, slice_index_or, bytes_eq}
use Rattle.std.specs.List.{position_from}
use Rattle.prop_table.specs.Table.{RowRule, row_rule}
use Rattle.prop_table.specs.declared.table.Row.{Row}
use Rattle.prop_table.specs.declared.table.PropTable.{PropTable}

-- what a row says
abbrev pub rule_of : Row → RowRule
rule_of row = row_rule row.name.now row.low row.high row.start

-- what a table's rows say
abbrev pub rules_of : {n : ℕ} → PropTable n → List RowRule
rules_of table = map rule_of table.rows.now

-- what no row says: the rule that stands past the end of a table
abbrev pub no_rule : RowRule
no_rule = row_rule [] (pos 0) (pos 0) None

-- the rule of a row, by its number
abbrev pub rule_at : List RowRule → ℕ → RowRule
rule_at rules row = slice_index_or rules row no_rule

-- the number of the first row of that name
abbrev pub row_named : List RowRule → List ℕ → Option ℕ
row_named rules name = position_from (λ rule. bytes_eq rule.name name) 0 rules
