-- Each row of a table is found by its name.
use Rattle.std.proofs.Common.{◌≡◌, ◌∙◌, ℕ, ◌<◌, Bool, true, Option, Some, None, List, length, get_or, refl, ap, zero-add}
use Rattle.std.specs.List.{list_all, range_with_len}
use Rattle.std.specs.Option.{option_eq}
use Rattle.std.specs.Prelude.{nat_eq}
use Rattle.std.specs.Cmp.{unsigned_Decides}
use Rattle.std.proofs.lemmas.List.Sums.{AllPass-from_list_all}
use Rattle.std.proofs.lemmas.List.Elements.{All-get_or}
use Rattle.std.proofs.lemmas.List.FromFn.{get_or-range_with_len, length-range_with_len}
use Rattle.prop_table.specs.Table.{RowRule, v1_rules, v2_rules}
use Rattle.prop_table.specs.Rules.{rule_at, row_named}

same_row : (found : Option ℕ) (row : ℕ) → option_eq nat_eq found (Some row) ≡ true → found ≡ Some row
same_row None row e = cc
same_row (Some r) row e = ap Some ((unsigned_Decides r row).0 e)

-- whether a row is found by its name
is_found : List RowRule → ℕ → Bool
is_found rules row = option_eq nat_eq (row_named rules (rule_at rules row).name) (Some row)

all_found : (rules : List RowRule) (n row : ℕ) → list_all (is_found rules) (range_with_len 0 n) ≡ true → row < n → row_named rules (rule_at rules row).name ≡ Some row
unfolding is_found
all_found rules n row e h =
    let within : row < length (range_with_len 0 n) = rw (length-range_with_len 0 n) h in
    let place : get_or (range_with_len 0 n) row 0 ≡ row = get_or-range_with_len 0 n row 0 h ∙ zero-add row in
    let found = All-get_or (λ r. is_found rules r ≡ true) (range_with_len 0 n) row 0 within (AllPass-from_list_all (is_found rules) (range_with_len 0 n) e) in
    same_row (row_named rules (rule_at rules row).name) row (rw place at found)

-- a row of version 1 is found by its name
pub row_named-v1 : (row : ℕ) → row < 16 → row_named v1_rules (rule_at v1_rules row).name ≡ Some row
unfolding is_found
row_named-v1 row h = all_found v1_rules 16 row refl h

-- a node's row is found by its name
pub row_named-v2 : (row : ℕ) → row < 22 → row_named v2_rules (rule_at v2_rules row).name ≡ Some row
unfolding is_found
row_named-v2 row h = all_found v2_rules 22 row refl h
