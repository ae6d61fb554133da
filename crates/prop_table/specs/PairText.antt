-- How props are written: each row's name and number.
use Rattle.std.specs.Prelude.{ℕ, ℤ, List, [], ◌∷◌, ◌++◌, Option, Some, None, Bool, false, cond, codes}
use Rattle.std.specs.Fmt.{signed_decimal}
use Rattle.std.specs.Ordering.{int_eq}
use Rattle.prop_table.specs.Props.{PropList}
use Rattle.prop_table.specs.Table.{RowRule}

-- whether a number is the one that its row begins with
abbrev pub is_start : Option ℤ → ℤ → Bool
is_start None value = false
is_start (Some start) value = int_eq value start

-- a space, the row's name, "=" and the number in decimals
abbrev pub named_text : List ℕ → ℤ → List ℕ
named_text name value = codes " " ++ name ++ codes "=" ++ signed_decimal value

-- a row's text, which is empty where the row is absent or at its start
abbrev pub pair_text_of : RowRule → Option ℤ → List ℕ
pair_text_of rule None = []
pair_text_of rule (Some value) = cond (is_start rule.start value) [] (named_text rule.name value)

-- each row's text, in table order
abbrev pub pairs_text_of : List RowRule → PropList → List ℕ
pairs_text_of [] props = []
pairs_text_of (rule ∷ rules) [] = []
pairs_text_of (rule ∷ rules) (value ∷ values) = pair_text_of rule value ++ pairs_text_of rules values
