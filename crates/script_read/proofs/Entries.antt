-- The members of an object, counted.
use Rattle.std.proofs.Common.{◌≡◌, ℕ, ◌+◌, List, [], ◌∷◌, length, arith, refl, ap, sym, ◌∙◌, zero-add}
use Rattle.std.specs.Prelude.{String, Some, is_some, map, count_by, nat_eq, true, cond, codes}
use Rattle.std.specs.Borrow.{Bor}
use Rattle.std.specs.declared.alloc.Global.{Global}
use Rattle.std.proofs.lemmas.List.{length-map}
use Rattle.std.proofs.lemmas.List.Sums.{sum_by-cons}
use Rattle.prop_table.specs.Table.{RowRule}
use Rattle.prop_table.specs.Rules.{rule_of}
use Rattle.prop_table.specs.declared.table.Row.{Row}
use Rattle.serde_json.specs.Data.{Data, null, boolean, number, string, array, object}
use Rattle.serde_json.specs.Find.{get, as_object}
use Rattle.serde_json.specs.View.{members_view}
use Rattle.serde_json.specs.declared.value.Value.{Value}
use Rattle.script_read.specs.Members.{member_count, names_found, has_form}
use Rattle.script_read.proofs.Lists.{count_mapped}

-- as many members as entries
pub entries_count : (es : List (String Global × Value)) → member_count (members_view es) ≡ length es
entries_count [] = refl
entries_count (e ∷ es) = omega (arith, entries_count es)

-- an object with all of the required members has its form by its count of members
pub form_counted : (d : Data) (es : List (String Global × Value)) (required optional : List (Bor (List ℕ))) (found n more : ℕ) → Some (members_view es) ≡ as_object d
    → found ≡ names_found (map (λ name. name.now) required) d → nat_eq found (length required) ≡ true → n ≡ length es
    → more ≡ names_found (map (λ name. name.now) optional) d
    → nat_eq n (length required + more) ≡ has_form (map (λ name. name.now) required) (map (λ name. name.now) optional) d
form_counted null es required optional found n more o f r l m = cc
form_counted (boolean b) es required optional found n more o f r l m = cc
form_counted (number k) es required optional found n more o f r l m = cc
form_counted (string s) es required optional found n more o f r l m = cc
form_counted (array ds) es required optional found n more o f r l m = cc
form_counted (object ms) es required optional found n more o f r l m =
    let e : members_view es ≡ ms = cc in
    let k : n ≡ member_count ms = l ∙ sym (entries_count es) ∙ ap member_count e in
    let h : nat_eq (names_found (map (λ (name : Bor (List ℕ)). name.now) required) (object ms)) (length (map (λ (name : Bor (List ℕ)). name.now) required)) ≡ true
    = rw (← f, length-map required (λ (name : Bor (List ℕ)). name.now)) r in
    rw (h, ← k, ← m, length-map required (λ (name : Bor (List ℕ)). name.now)) refl

-- the names that rows and "label" have, as many as are found
names_counted : (d : Data) (rows : List Row) → names_found (codes "label" ∷ map (λ (rule : RowRule). rule.name) (map rule_of rows)) d
    ≡ cond (is_some (get (codes "label") d)) 1 0 + count_by (λ row. is_some (get (rule_of row).name d)) rows
names_counted d rows =
    sum_by-cons (λ name. cond (is_some (get name d)) 1 0) (codes "label") (map (λ (rule : RowRule). rule.name) (map rule_of rows))
    ∙ ap (λ found. cond (is_some (get (codes "label") d)) 1 0 + found)
    (count_mapped (λ name. is_some (get name d)) (λ (rule : RowRule). rule.name) (map rule_of rows) ∙ count_mapped (λ (rule : RowRule). is_some (get rule.name d)) rule_of rows)

-- an object of props has its form by its count of members
pub rows_counted : (d : Data) (es : List (String Global × Value)) (rows : List Row) (found n total : ℕ) → Some (members_view es) ≡ as_object d
    → found ≡ count_by (λ row. is_some (get (rule_of row).name d)) rows → n ≡ length es → total ≡ cond (is_some (get (codes "label") d)) 1 0 + found
    → nat_eq n total ≡ has_form [] (codes "label" ∷ map (λ (rule : RowRule). rule.name) (map rule_of rows)) d
rows_counted null es rows found n total o f l t = cc
rows_counted (boolean b) es rows found n total o f l t = cc
rows_counted (number k) es rows found n total o f l t = cc
rows_counted (string s) es rows found n total o f l t = cc
rows_counted (array ds) es rows found n total o f l t = cc
rows_counted (object ms) es rows found n total o f l t =
    let e : members_view es ≡ ms = cc in
    let k : n ≡ member_count ms = l ∙ sym (entries_count es) ∙ ap member_count e in
    let h : total ≡ 0 + names_found (codes "label" ∷ map (λ (rule : RowRule). rule.name) (map rule_of rows)) (object ms)
    = t ∙ ap (λ more. cond (is_some (get (codes "label") (object ms))) 1 0 + more) f ∙ sym (names_counted (object ms) rows)
    ∙ sym (zero-add (names_found (codes "label" ∷ map (λ (rule : RowRule). rule.name) (map rule_of rows)) (object ms)))
    in
    rw (k, h) refl
