-- What an object has under the names of rows that were put one after another.
use Rattle.std.proofs.Common.{◌≡◌, ℕ, ◌+◌, List, [], ◌∷◌, ◌++◌, map, length, drop, Bool, true, false, not, ◌&&◌, Option, Some, None, is_some, option_map, count_by, sum_by, fold, cond, bytes_eq, codes, Ordering, Less, Equal, Greater, nat_cmp, refl, ap, sym, ◌∙◌, arith}
use Rattle.std.specs.Ordering.{match_ordering}
use Rattle.std.specs.Cmp.Lexicographic.{slice_cmp}
use Rattle.std.proofs.lemmas.Slice.Eq.{bytes_eq-Decides}
use Rattle.serde_json.specs.Data.{Data, object, Members, no_members, member, put}
use Rattle.serde_json.specs.Find.{get, get_member}
use Rattle.serde_json.proofs.Views.{get_member-put, get_member-put_other}
use Rattle.prop_table.specs.Edits.{EditList}
use Rattle.prop_table.specs.Table.{RowRule, v2_rules}
use Rattle.script_read.specs.Members.{member_count, names_found}
use Rattle.script_read.specs.Writing.{with_members, row_json, row_members}

-- a name is none of the rows'
abbrev pub IsNoName : List ℕ → List RowRule → Type 0
IsNoName name [] = Unit {0}
IsNoName name (rule ∷ rules) = (rule.name ≡ name → ⊥) × IsNoName name rules

-- no two rows have the same name
abbrev pub AreApart : List RowRule → Type 0
AreApart [] = Unit {0}
AreApart (rule ∷ rules) = IsNoName rule.name rules × AreApart rules

is_no_name : List ℕ → List RowRule → Bool
is_no_name name [] = true
is_no_name name (rule ∷ rules) = not (bytes_eq rule.name name) && is_no_name name rules

are_apart : List RowRule → Bool
are_apart [] = true
are_apart (rule ∷ rules) = is_no_name rule.name rules && are_apart rules

pub both : (a b : Bool) → (a && b) ≡ true → (a ≡ true) × (b ≡ true)
both true true e = (refl, refl)
both true false e = cc
both false b e = cc

not_same : (a b : List ℕ) → not (bytes_eq a b) ≡ true → a ≡ b → ⊥
not_same a b n e = let same : bytes_eq a b ≡ true = (bytes_eq-Decides a b).1 e in let other : not (bytes_eq a b) ≡ false = ap not same in cc

no_name_by : (name : List ℕ) (rules : List RowRule) → is_no_name name rules ≡ true → IsNoName name rules
unfolding is_no_name
no_name_by name [] e = tt
no_name_by name (rule ∷ rules) e =
    let p = both (not (bytes_eq rule.name name)) (is_no_name name rules) e in (not_same rule.name name p.0, no_name_by name rules p.1)

apart_by : (rules : List RowRule) → are_apart rules ≡ true → AreApart rules
unfolding are_apart
apart_by [] e = tt
apart_by (rule ∷ rules) e =
    let p = both (is_no_name rule.name rules) (are_apart rules) e in (no_name_by rule.name rules p.0, apart_by rules p.1)

pub v2_apart : AreApart v2_rules
unfolding are_apart is_no_name
v2_apart = apart_by v2_rules refl

pub no_label : IsNoName (codes "label") v2_rules
unfolding is_no_name
no_label = no_name_by (codes "label") v2_rules refl

-- none of the rows is named
abbrev pub AreAbsent : List RowRule → Members → Type 0
AreAbsent [] all = Unit {0}
AreAbsent (rule ∷ rules) all = (get_member rule.name all ≡ None) × AreAbsent rules all

pub absent_none : (rules : List RowRule) → AreAbsent rules no_members
absent_none [] = tt
absent_none (rule ∷ rules) = (refl, absent_none rules)

absent_put : (name : List ℕ) (value : Data) (rules : List RowRule) (all : Members) → IsNoName name rules → AreAbsent rules all → AreAbsent rules (put name value all)
absent_put name value [] all n a = tt
absent_put name value (rule ∷ rules) all n a = (get_member-put_other rule.name name value all n.0 ∙ a.0, absent_put name value rules all n.1 a.1)

-- a name that is no row's is found as before
pub rows_beside : (name : List ℕ) (rules : List RowRule) (edit : EditList) (all : Members) → IsNoName name rules
    → get_member name (with_members (row_members rules edit) all) ≡ get_member name all
rows_beside name [] edit all n = refl
rows_beside name (rule ∷ rules) [] all n = refl
rows_beside name (rule ∷ rules) (None ∷ edit) all n = rows_beside name rules edit all n.1
rows_beside name (rule ∷ rules) (Some value ∷ edit) all n =
    rows_beside name rules edit (put rule.name (row_json value) all) n.1 ∙ get_member-put_other name rule.name (row_json value) all (λ e. n.0 (sym e))

-- a value has under each row's name what an edit says of the row
abbrev pub RowsAre : List RowRule → EditList → Data → Type 0
RowsAre [] [] value = Unit {0}
RowsAre [] (named ∷ edit) value = ⊥
RowsAre (rule ∷ rules) [] value = ⊥
RowsAre (rule ∷ rules) (named ∷ edit) value = (get rule.name value ≡ option_map row_json named) × RowsAre rules edit value

pub rows_put : (rules : List RowRule) (edit : EditList) (all : Members) → AreApart rules → AreAbsent rules all → length edit ≡ length rules
    → RowsAre rules edit (object (with_members (row_members rules edit) all))
rows_put [] [] all p a e = tt
rows_put [] (named ∷ edit) all p a e = absurd (omega arith)
rows_put (rule ∷ rules) [] all p a e = absurd (omega arith)
rows_put (rule ∷ rules) (None ∷ edit) all p a e = (rows_beside rule.name rules edit all p.0 ∙ a.0, rows_put rules edit all p.1 a.1 (omega arith))
rows_put (rule ∷ rules) (Some value ∷ edit) all p a e = (
  rows_beside rule.name rules edit (put rule.name (row_json value) all) p.0 ∙ get_member-put rule.name (row_json value) all,
  rows_put rules edit (put rule.name (row_json value) all) p.1 (absent_put rule.name (row_json value) rules all p.0 a.1) (omega arith),
)

-- the same for another value that has the same under each name
pub rows_same : (rules : List RowRule) (edit : EditList) (v w : Data) → ((name : List ℕ) → get name w ≡ get name v) → RowsAre rules edit v → RowsAre rules edit w
rows_same [] [] v w s r = tt
rows_same [] (named ∷ edit) v w s r = absurd r
rows_same (rule ∷ rules) [] v w s r = absurd r
rows_same (rule ∷ rules) (named ∷ edit) v w s r = (s rule.name ∙ r.0, rows_same rules edit v w s r.1)

-- another member is put beside the rows
pub rows_kept : (name : List ℕ) (other : Data) (rules : List RowRule) (edit : EditList) (all : Members) → IsNoName name rules
    → RowsAre rules edit (object all) → RowsAre rules edit (object (put name other all))
rows_kept name other [] [] all n r = tt
rows_kept name other [] (named ∷ edit) all n r = absurd r
rows_kept name other (rule ∷ rules) [] all n r = absurd r
rows_kept name other (rule ∷ rules) (named ∷ edit) all n r =
    (get_member-put_other rule.name name other all n.0 ∙ r.0, rows_kept name other rules edit all n.1 r.1)

-- the later rows
pub rows_later : (first second : List RowRule) (edit : EditList) (value : Data) → RowsAre (first ++ second) edit value → RowsAre second (drop (length first) edit) value
rows_later [] second edit value r = r
rows_later (rule ∷ first) second [] value r = absurd r
rows_later (rule ∷ first) second (named ∷ edit) value r = rows_later first second edit value r.1

-- how many rows an edit names
abbrev pub named_count : EditList → ℕ
named_count [] = 0
named_count (None ∷ edit) = named_count edit
named_count (Some value ∷ edit) = named_count edit + 1

count_either : (o : Ordering) (a b c : Members) (n : ℕ) → (o ≡ Equal → ⊥) → member_count a ≡ n → member_count c ≡ n → member_count (match_ordering o a b c) ≡ n
count_either Less a b c n other x y = x
count_either Equal a b c n other x y = absurd (other refl)
count_either Greater a b c n other x y = y

found_equal : (o : Ordering) (old : Data) (rest : Option Data) → match_ordering o rest (Some old) rest ≡ None → (o ≡ Equal → ⊥) × (rest ≡ None)
found_equal Less old rest e = (λ f. cc, e)
found_equal Equal old rest e = absurd cc
found_equal Greater old rest e = (λ f. cc, e)

-- a new name is one member more
pub member_count-put : (name : List ℕ) (value : Data) (all : Members) → get_member name all ≡ None → member_count (put name value all) ≡ member_count all + 1
member_count-put name value no_members e = refl
member_count-put name value (member other old others) e =
    let p = found_equal (slice_cmp nat_cmp name other) old (get_member name others) e in
    count_either (slice_cmp nat_cmp name other) _ _ _ (member_count (member other old others) + 1) p.0 refl (ap (λ n. n + 1) (member_count-put name value others p.1))

-- as many members more as rows are named
pub rows_counted : (rules : List RowRule) (edit : EditList) (all : Members) → AreApart rules → AreAbsent rules all → length edit ≡ length rules
    → member_count (with_members (row_members rules edit) all) ≡ member_count all + named_count edit
rows_counted [] [] all p a e = omega arith
rows_counted [] (named ∷ edit) all p a e = absurd (omega arith)
rows_counted (rule ∷ rules) [] all p a e = absurd (omega arith)
rows_counted (rule ∷ rules) (None ∷ edit) all p a e = rows_counted rules edit all p.1 a.1 (omega arith)
rows_counted (rule ∷ rules) (Some value ∷ edit) all p a e =
    let one = member_count-put rule.name (row_json value) all a.0 in
    let others = rows_counted rules edit (put rule.name (row_json value) all) p.1 (absent_put rule.name (row_json value) rules all p.0 a.1) (omega arith) in
    omega (arith, one, others)

pub fold_from : {A : Type 0} (f : A → ℕ) (xs : List A) (n : ℕ) → fold (λ a x. a + f x) n xs ≡ n + sum_by f xs
fold_from f [] n = omega arith
fold_from f (x ∷ xs) n = omega (arith, fold_from f xs (n + f x), fold_from f xs (0 + f x))

-- a count begins with its first
pub count_by-first : {A : Type 0} (p : A → Bool) (x : A) (xs : List A) → count_by p (x ∷ xs) ≡ cond (p x) 1 0 + count_by p xs
count_by-first p x xs = omega (arith, fold_from (λ x. cond (p x) 1 0) xs (0 + cond (p x) 1 0))

-- as many names are found as rows are named
pub rows_found : (rules : List RowRule) (edit : EditList) (value : Data) → RowsAre rules edit value → names_found (map (λ rule. rule.name) rules) value ≡ named_count edit
rows_found [] [] value r = refl
rows_found [] (named ∷ edit) value r = absurd r
rows_found (rule ∷ rules) [] value r = absurd r
rows_found (rule ∷ rules) (None ∷ edit) value r =
    count_by-first (λ name. is_some (get name value)) rule.name (map (λ rule. rule.name) rules) ∙ rw (r.0, rows_found rules edit value r.1) (omega arith)
rows_found (rule ∷ rules) (Some named ∷ edit) value r =
    count_by-first (λ name. is_some (get name value)) rule.name (map (λ rule. rule.name) rules) ∙ rw (r.0, rows_found rules edit value r.1) (omega arith)

-- the names of more rows
pub count_by-both : {A : Type 0} (p : A → Bool) (xs ys : List A) → count_by p (xs ++ ys) ≡ count_by p xs + count_by p ys
count_by-both p [] ys = omega arith
count_by-both p (x ∷ xs) ys = omega (arith, count_by-first p x (xs ++ ys), count_by-first p x xs, count_by-both p xs ys)
