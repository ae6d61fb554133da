-- The rows that an object of props names, one after another.
use Rattle.std.proofs.Common.{◌≡◌, ℕ, suc, zero, ◌+◌, ◌<◌, ◌≤◌, List, [], ◌∷◌, ◌++◌, length, get_or, take, drop, add-one, arith, refl, ap, sym, ◌∙◌}
use Rattle.std.proofs.lemmas.List.{take_all}
use Rattle.std.proofs.Math.ListN.{drop_of_length-le}
use Rattle.std.proofs.lemmas.List.{get_or-map, append-nil}
use Rattle.std.specs.Prelude.{ℤ, Option, Some, None, unwrap_or, map, replicate}
use Rattle.serde_json.specs.Data.{Data}
use Rattle.prop_table.specs.Props.{PropList}
use Rattle.prop_table.specs.Edits.{EditList, with_edit}
use Rattle.prop_table.specs.Table.{RowRule, start_of}
use Rattle.prop_table.specs.Rules.{rule_of, rule_at, no_rule}
use Rattle.prop_table.specs.declared.table.Row.{Row}
use Rattle.script_read.specs.Value.{named_row, rows_of, named_rows, edit_with}

-- the rule of a row that was read
pub rule_read : (rows : List Row) (i : ℕ) (row : Row) → i < length rows → row ≡ get_or rows i row → rule_at (map rule_of rows) i ≡ rule_of row
rule_read rows i row h e = get_or-map rule_of rows i row no_rule h ∙ ap rule_of (sym e)

-- the first rows as an object names them, and the others at their start
abbrev pub rows_to : ℕ → List RowRule → Data → PropList
rows_to i rules given = map (λ rule. unwrap_or (named_row given rule) rule.start) (take i rules) ++ start_of (drop i rules)

edited_later : (first : Option ℤ) (props : PropList) (i : ℕ) (said : Option (Option ℤ)) → with_edit (first ∷ props) (suc i) said ≡ first ∷ with_edit props i said
edited_later first props i None = refl
edited_later first props i (Some value) = refl

edited_first : (start : Option ℤ) (props : PropList) (said : Option (Option ℤ)) → with_edit (start ∷ props) 0 said ≡ unwrap_or said start ∷ props
edited_first start props None = refl
edited_first start props (Some value) = refl

rows_next : (given : Data) (rules : List RowRule) (i : ℕ) → i < length rules
    → with_edit (rows_to i rules given) i (named_row given (rule_at rules i)) ≡ rows_to (suc i) rules given
rows_next given [] i h = absurd (omega arith)
rows_next given (rule ∷ rules) zero h = edited_first rule.start (start_of rules) (named_row given rule)
rows_next given (rule ∷ rules) (suc i) h =
    edited_later (unwrap_or (named_row given rule) rule.start) (rows_to i rules given) i (named_row given (rule_at rules i))
    ∙ ap (λ props. unwrap_or (named_row given rule) rule.start ∷ props) (rows_next given rules i (omega arith))

-- one more row
pub rows_more : (given : Data) (rules : List RowRule) (i : ℕ) (props next : PropList) → i < length rules → props ≡ rows_to i rules given
    → next ≡ with_edit props i (named_row given (rule_at rules i)) → next ≡ rows_to (i + 1) rules given
rows_more given rules i props next h p n = n ∙ (rw (p, add-one) (rows_next given rules i h))

-- all rows
pub rows_end : (given : Data) (rules : List RowRule) (i : ℕ) (props : PropList) → length rules ≤ i → props ≡ rows_to i rules given → props ≡ rows_of rules given
rows_end given rules i props h p = p ∙ (rw (take_all i rules h, drop_of_length-le rules h) (append-nil (rows_of rules given)))

-- the first rows as an object names them, and the others unnamed
abbrev pub edits_to : ℕ → List RowRule → Data → EditList
edits_to i rules given = map (named_row given) (take i rules) ++ replicate (length (drop i rules)) None

marked_later : (first : Option (Option ℤ)) (edit : EditList) (i : ℕ) (said : Option (Option ℤ)) → edit_with (first ∷ edit) (suc i) said ≡ first ∷ edit_with edit i said
marked_later first edit i None = refl
marked_later first edit i (Some value) = refl

marked_first : (edit : EditList) (said : Option (Option ℤ)) → edit_with (None ∷ edit) 0 said ≡ said ∷ edit
marked_first edit None = refl
marked_first edit (Some value) = refl

edits_next : (given : Data) (rules : List RowRule) (i : ℕ) → i < length rules
    → edit_with (edits_to i rules given) i (named_row given (rule_at rules i)) ≡ edits_to (suc i) rules given
edits_next given [] i h = absurd (omega arith)
edits_next given (rule ∷ rules) zero h = marked_first (replicate (length rules) None) (named_row given rule)
edits_next given (rule ∷ rules) (suc i) h =
    marked_later (named_row given rule) (edits_to i rules given) i (named_row given (rule_at rules i))
    ∙ ap (λ edit. named_row given rule ∷ edit) (edits_next given rules i (omega arith))

-- one more row
pub edits_more : (given : Data) (rules : List RowRule) (i : ℕ) (edit next : EditList) → i < length rules → edit ≡ edits_to i rules given
    → next ≡ edit_with edit i (named_row given (rule_at rules i)) → next ≡ edits_to (i + 1) rules given
edits_more given rules i edit next h p n = n ∙ (rw (p, add-one) (edits_next given rules i h))

-- all rows
pub edits_end : (given : Data) (rules : List RowRule) (i : ℕ) (edit : EditList) → length rules ≤ i → edit ≡ edits_to i rules given → edit ≡ named_rows rules given
edits_end given rules i edit h p = p ∙ (rw (take_all i rules h, drop_of_length-le rules h) (append-nil (named_rows rules given)))
