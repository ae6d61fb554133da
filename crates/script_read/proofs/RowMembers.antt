-- The members of rows, row by row.
use Rattle.std.proofs.Common.{◌≡◌, ℕ, zero, suc, ◌+◌, ◌<◌, List, [], ◌∷◌, ◌++◌, map, length, get_or, drop, refl, ap, sym, ◌∙◌, add-one, drop-cons, arith, Ordering, Less, Equal, Greater}
use Rattle.std.proofs.lemmas.List.{get_or_default}
use Rattle.std.specs.Prelude.{Option, Some, None, option_map, codes, ℤ}
use Rattle.std.specs.Prelude.{Bool, true, false}
use Rattle.std.specs.Borrow.{Bor}
use Rattle.std.specs.Ordering.{nat_cmp, match_ordering}
use Rattle.std.specs.Cmp.Lexicographic.{slice_cmp}
use Rattle.serde_json.specs.View.{items_view, members_view}
use Rattle.serde_json.specs.declared.value.Value.{Value}
use Rattle.serde_json.proofs.Views.{Entry}
use Rattle.serde_json.specs.Data.{Data, array, object, Members, no_members, member, put}
use Rattle.prop_table.specs.Props.{PropList, value_at}
use Rattle.prop_table.specs.Edits.{EditList, named_at}
use Rattle.prop_table.specs.Table.{RowRule}
use Rattle.prop_table.specs.Rules.{rule_of, rule_at, no_rule}
use Rattle.prop_table.specs.declared.table.Row.{Row}
use Rattle.script_read.specs.Writing.{Member, with_members, member_if, text_json, row_json, row_members, unless_start, changed_rows, some_object, some_array}

-- some members, and then others
pub with_both : (first second : List Member) (all : Members) → with_members (first ++ second) all ≡ with_members second (with_members first all)
with_both [] second all = refl
with_both (one ∷ first) second all = with_both first second (put one.0 one.1 all)

-- the row at an index, and then those after it
pub rows_from : (rules : List RowRule) (edit : EditList) (i : ℕ) (rule : RowRule) (named : Option (Option ℤ)) → i < length rules → i < length edit
    → get_or rules i rule ≡ rule → get_or edit i None ≡ named
    → row_members (drop i rules) (drop i edit) ≡ member_if rule.name (option_map row_json named) ++ row_members (drop (i + 1) rules) (drop (i + 1) edit)
rows_from rules edit i rule named r e here there =
    rw (add-one, drop-cons rules i rule r, drop-cons edit i None e, here, there) refl

-- the row at an index is put
pub row_put : (rules : List RowRule) (edit : EditList) (i : ℕ) (row : Row) (named : Option (Option ℤ)) (before after whole : Members) → i < length rules → i < length edit
    → rule_of row ≡ rule_at rules i → named_at edit i ≡ named → after ≡ with_members (member_if row.name.now (option_map row_json named)) before
    → with_members (row_members (drop i rules) (drop i edit)) before ≡ whole → with_members (row_members (drop (i + 1) rules) (drop (i + 1) edit)) after ≡ whole
row_put rules edit i row named before after whole r e here there put all =
    rw (
      put,
      ← with_both (member_if row.name.now (option_map row_json named)) (row_members (drop (i + 1) rules) (drop (i + 1) edit)) before,
      ← rows_from rules edit i (rule_of row) named r e (get_or_default rules i (rule_of row) no_rule r ∙ sym here) there,
    )
    all

-- as many rows differ or not as there are props
pub changed_rows-length : (rules : List RowRule) (props : PropList) → length rules ≡ length props → length (changed_rows rules props) ≡ length props
changed_rows-length [] [] e = refl
changed_rows-length [] (value ∷ values) e = absurd (omega arith)
changed_rows-length (rule ∷ rules) [] e = refl
changed_rows-length (rule ∷ rules) (value ∷ values) e = ap suc (changed_rows-length rules values (omega arith))

-- what is said of the row at an index
pub changed_rows-at : (rules : List RowRule) (props : PropList) (i : ℕ) → i < length rules → i < length props
    → named_at (changed_rows rules props) i ≡ unless_start (rule_at rules i).start (value_at props i)
changed_rows-at [] props i r p = absurd (omega arith)
changed_rows-at (rule ∷ rules) [] i r p = absurd (omega arith)
changed_rows-at (rule ∷ rules) (value ∷ values) zero r p = refl
changed_rows-at (rule ∷ rules) (value ∷ values) (suc i) r p = changed_rows-at rules values i (omega arith) (omega arith)

-- the rule of the row at an index
pub rule_of-at : (rows : List Row) (i : ℕ) (d : Row) → i < length rows → rule_of (get_or rows i d) ≡ rule_at (map rule_of rows) i
rule_of-at [] i d h = absurd (omega arith)
rule_of-at (row ∷ rows) zero d h = refl
rule_of-at (row ∷ rows) (suc i) d h = rule_of-at rows i d (omega arith)

-- there is a member
has_one : Members → Bool
has_one no_members = false
has_one (member name value others) = true

has_one-either : (o : Ordering) (a b c : Members) → has_one a ≡ true → has_one b ≡ true → has_one c ≡ true → has_one (match_ordering o a b c) ≡ true
has_one-either Less a b c x y z = x
has_one-either Equal a b c x y z = y
has_one-either Greater a b c x y z = z

has_one-put : (name : List ℕ) (value : Data) (all : Members) → has_one (put name value all) ≡ true
unfolding has_one
has_one-put name value no_members = refl
has_one-put name value (member other old others) = has_one-either (slice_cmp nat_cmp name other) _ _ _ refl refl refl

has_one-with : (more : List Member) (all : Members) → has_one all ≡ true → has_one (with_members more all) ≡ true
has_one-with [] all h = h
has_one-with (one ∷ more) all h = has_one-with more (put one.0 one.1 all) (has_one-put one.0 one.1 all)

no_one : (all : Members) → all ≡ no_members → has_one all ≡ true → ⊥
unfolding has_one
no_one all e h = let f : has_one all ≡ false = ap has_one e in cc

-- members that leave an object empty are none
pub some_object-none : (members : List Member) → with_members members no_members ≡ no_members → some_object members ≡ None
some_object-none [] e = refl
some_object-none (one ∷ members) e = absurd (no_one _ e (has_one-with members (put one.0 one.1 no_members) (has_one-put one.0 one.1 no_members)))

-- other members are an object
pub some_object-some : (members : List Member) → (with_members members no_members ≡ no_members → ⊥) → some_object members ≡ Some (object (with_members members no_members))
some_object-some [] n = absurd (n refl)
some_object-some (one ∷ members) n = refl

label_behind : (label : Option (Bor (List ℕ))) → option_map (λ found. text_json found.now) label ≡ option_map text_json (option_map (λ found. found.now) label)
label_behind None = refl
label_behind (Some found) = refl

-- rows, and then a label behind a reference
pub props_put : (rows : List Member) (label : Option (Bor (List ℕ))) (given : Option (List ℕ)) (first second : Members) → first ≡ with_members rows no_members
    → second ≡ with_members (member_if (codes "label") (option_map (λ found. text_json found.now) label)) first → option_map (λ found. found.now) label ≡ given
    → with_members (rows ++ member_if (codes "label") (option_map text_json given)) no_members ≡ second
props_put rows label given first second f s g =
    with_both rows (member_if (codes "label") (option_map text_json given)) no_members
    ∙ rw (← f, ← g, ← label_behind label) (sym s)

-- a map without entries has no members
pub no_entries : (entries : List Entry) → length entries ≡ 0 → members_view entries ≡ no_members
no_entries [] e = refl
no_entries (entry ∷ entries) e = absurd (omega arith)

-- a map without members has no entries
pub no_members-entries : (entries : List Entry) → members_view entries ≡ no_members → length entries ≡ 0
no_members-entries [] e = refl
no_members-entries (entry ∷ entries) e = cc

-- a list with values is an array
pub some_array-some : (values : List Value) → (length values ≡ 0 → ⊥) → some_array (items_view values) ≡ Some (array (items_view values))
some_array-some [] n = absurd (n refl)
some_array-some (value ∷ values) n = refl
