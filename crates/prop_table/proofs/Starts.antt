-- What a table's rows begin with.
use Rattle.std.proofs.Common.{◌≡◌, ℕ, ◌≤◌, List, [], ◌∷◌, map, length, take, refl, ap, sym, ◌∙◌}
use Rattle.std.proofs.lemmas.List.{take_all}
use Rattle.prop_table.specs.Props.{PropList}
use Rattle.prop_table.specs.Table.{start_of}
use Rattle.prop_table.specs.Rules.{rule_of}
use Rattle.prop_table.specs.declared.table.Row.{Row}

start_of-rules : (rows : List Row) → map (λ row. row.start) rows ≡ start_of (map rule_of rows)
start_of-rules [] = refl
start_of-rules (row ∷ rows) = ap (λ rest. row.start ∷ rest) (start_of-rules rows)

-- props that hold the start of each row are the table's start
pub all_starts : (rows : List Row) (props : PropList) (n : ℕ) → length props ≤ n → length rows ≤ n → take n props ≡ map (λ row. row.start) (take n rows)
    → props ≡ start_of (map rule_of rows)
all_starts rows props n p r e =
    sym (take_all n props p) ∙ e ∙ ap (map (λ (row : Row). row.start)) (take_all n rows r) ∙ start_of-rules rows
