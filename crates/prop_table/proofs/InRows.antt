-- Props that keep to their rows.
use Rattle.std.proofs.Common.{◌≡◌, ◌<◌, length, refl, ap, arith, ℕ, suc, zero, ℤ, List, [], ◌∷◌, Option, slice_set}
use Rattle.prop_table.specs.Props.{PropList, value_at}
use Rattle.prop_table.specs.Table.{RowRule, IsInRow, AreInRows}
use Rattle.prop_table.specs.Rules.{rule_at}

-- a number that its row takes keeps the props in their rows
pub AreInRows-set : (rules : List RowRule) (props : PropList) (row : ℕ) (value : Option ℤ) → AreInRows rules props → IsInRow (rule_at rules row) value
    → AreInRows rules (slice_set props row value)
AreInRows-set [] [] row value a i = a
AreInRows-set [] (v ∷ vs) row value a i = absurd a
AreInRows-set (rule ∷ rules) [] row value a i = a
AreInRows-set (rule ∷ rules) (v ∷ vs) zero value a i = (i, a.1)
AreInRows-set (rule ∷ rules) (v ∷ vs) (suc row) value a i = (a.0, AreInRows-set rules vs row value a.1 i)

-- a row's number is one that the row takes
pub IsInRow-at : (rules : List RowRule) (props : PropList) (row : ℕ) → AreInRows rules props → row < length rules → IsInRow (rule_at rules row) (value_at props row)
IsInRow-at [] props row a h = absurd (omega arith)
IsInRow-at (rule ∷ rules) [] row a h = absurd a
IsInRow-at (rule ∷ rules) (v ∷ vs) zero a h = a.0
IsInRow-at (rule ∷ rules) (v ∷ vs) (suc row) a h = IsInRow-at rules vs row a.1 (omega arith)

-- props in their rows are as many as the rows
pub AreInRows-length : (rules : List RowRule) (props : PropList) → AreInRows rules props → length props ≡ length rules
AreInRows-length [] [] a = refl
AreInRows-length [] (v ∷ vs) a = absurd a
AreInRows-length (rule ∷ rules) [] a = absurd a
AreInRows-length (rule ∷ rules) (v ∷ vs) a = ap suc (AreInRows-length rules vs a.1)
