-- What looking a row up by its name tells.
use Rattle.std.proofs.Common.{◌≡◌, ◌≢◌, ℕ, zero, suc, ◌+◌, ◌<◌, List, [], ◌∷◌, Bool, true, false, cond, Some, None, length, refl, subst, arith}
use Rattle.std.specs.List.{position_from}
use Rattle.std.specs.Str.{bytes_eq}
use Rattle.std.proofs.lemmas.Bool.Decides.{not_from_Decides}
use Rattle.std.proofs.lemmas.Slice.Eq.{bytes_eq-Decides}
use Rattle.prop_table.specs.Table.{RowRule}
use Rattle.prop_table.specs.Rules.{rule_at, row_named}

-- a rule that is not the one, before rules of which none is
missing_step : (rule : RowRule) (rules : List RowRule) (name : List ℕ) (first : ℕ) (b : Bool) → bytes_eq rule.name name ≡ b
    → cond b (Some first) (position_from (λ rule. bytes_eq rule.name name) (first + 1) rules) ≡ None
    → (position_from (λ rule. bytes_eq rule.name name) (first + 1) rules ≡ None → (row : ℕ) → row < length rules → (rule_at rules row).name ≢ name)
    → (row : ℕ) → row < suc (length rules) → (rule_at (rule ∷ rules) row).name ≢ name
missing_step rule rules name first true test e rest row h = cc
missing_step rule rules name first false test e rest zero h = not_from_Decides (bytes_eq rule.name name) (bytes_eq-Decides rule.name name) test
missing_step rule rules name first false test e rest (suc row) h = rest e row (omega arith)

missing_from : (rules : List RowRule) (name : List ℕ) (first : ℕ) → position_from (λ rule. bytes_eq rule.name name) first rules ≡ None
    → (row : ℕ) → row < length rules → (rule_at rules row).name ≢ name
missing_from [] name first e row h = absurd (omega arith)
missing_from (rule ∷ rules) name first e row h = missing_step rule rules name first (bytes_eq rule.name name) refl e (missing_from rules name (first + 1)) row h

-- no row has a name that is not found
pub row_named-None : (rules : List RowRule) (name : List ℕ) → row_named rules name ≡ None → (row : ℕ) → row < length rules → (rule_at rules row).name ≢ name
row_named-None rules name e = missing_from rules name 0 e

-- the first rule of that name, by its place from a number on
IsFoundFrom : List RowRule → List ℕ → ℕ → ℕ → Type 0
IsFoundFrom rules name first row = (k : ℕ) × (row ≡ first + k) × (k < length rules) × ((rule_at rules k).name ≡ name)

-- a rule that may be the one, before rules among which it is found
found_step : (rule : RowRule) (rules : List RowRule) (name : List ℕ) (first : ℕ) (b : Bool) (row : ℕ) → bytes_eq rule.name name ≡ b
    → cond b (Some first) (position_from (λ rule. bytes_eq rule.name name) (first + 1) rules) ≡ Some row
    → (position_from (λ rule. bytes_eq rule.name name) (first + 1) rules ≡ Some row → IsFoundFrom rules name (first + 1) row) → IsFoundFrom (rule ∷ rules) name first row
unfolding IsFoundFrom
found_step rule rules name first true row test e rest =
    let same : first ≡ row = cc in
    (0, omega arith, omega arith, (bytes_eq-Decides rule.name name).0 test)
found_step rule rules name first false row test e rest =
    let found = rest e in
    (suc found.0, omega (arith, found.1), omega (arith, found.2), found.3)

found_from : (rules : List RowRule) (name : List ℕ) (first row : ℕ) → position_from (λ rule. bytes_eq rule.name name) first rules ≡ Some row → IsFoundFrom rules name first row
found_from [] name first row e = cc
found_from (rule ∷ rules) name first row e = found_step rule rules name first (bytes_eq rule.name name) row refl e (found_from rules name (first + 1) row)

-- a row that is found by a name is in the table, and has the name
pub row_named-Some : (rules : List RowRule) (name : List ℕ) (row : ℕ) → row_named rules name ≡ Some row → (row < length rules) × ((rule_at rules row).name ≡ name)
unfolding IsFoundFrom
row_named-Some rules name row e =
    let found = found_from rules name 0 row e in
    let same : found.0 ≡ row = omega (arith, found.1) in
    let P : ℕ → Type 0 = λ r. (r < length rules) × ((rule_at rules r).name ≡ name) in
    subst P same (found.2, found.3)
