-- What was written of an edit reads back, and has no fault.
use Rattle.std.proofs.Common.{◌≡◌, ℕ, zero, suc, ◌+◌, ◌<◌, ◌≤◌, ◌^◌, List, [], ◌∷◌, ◌++◌, map, length, drop, replicate, Bool, true, false, nat_eq, int_le, Option, Some, None, is_some, is_none, IsNone, option_map, option_and_then, unwrap_or, cond, codes, ℤ, pos, negsuc, ◌≤ℤ◌, ◌<ℤ◌, if◌then◌else◌, lt-ltb, le-leb, refl, ap, sym, subst, ◌∙◌, arith}
use Rattle.std.specs.List.{list_all}
use Rattle.std.specs.Ordering.{int_eq}
use Rattle.std.specs.Int.Signed.{le_z_yes}
use Rattle.std.proofs.lemmas.Int.{ints}
use lib.Dec.{T}
use Rattle.std.specs.Str.{is_utf8}
use Rattle.std.proofs.lemmas.Bool.Decides.{Decides-int_eq, nat_tests}
use Rattle.serde_json.specs.Data.{Data, null, object, Members, no_members, put}
use Rattle.serde_json.specs.Find.{get, get_member, as_i64, of_integer, as_object}
use Rattle.serde_json.proofs.Views.{get_member-put}
use Rattle.prop_table.specs.Props.{PropList}
use Rattle.prop_table.specs.Edits.{EditList, IsEditInRow, AreEditsInRows, merged}
use Rattle.prop_table.specs.Table.{RowRule, v1_rules, v2_rules, IsInRow, AreInRows, start_of}
use Rattle.script_read.specs.Members.{member_count, names_found, has_form}
use Rattle.script_read.specs.Places.{refused}
use Rattle.script_read.specs.Faults.{is_from, taken, bad_row, label_of, bad_props, rules_for}
use Rattle.script_read.specs.Value.{named_rows, named_label, edits_of, props_of}
use Rattle.script_read.specs.Writing.{with_members, row_json, text_json, row_members, edit_members, object_of, unless_start, changed_rows, some_object}
use Rattle.script_read.proofs.RowMembers.{with_both}
use Rattle.script_read.proofs.PutRows.{both, absent_none, RowsAre, rows_put, rows_beside, rows_kept, rows_later, rows_counted, rows_found, named_count, member_count-put, count_by-first, count_by-both, v2_apart, no_label}

-- a number of 64 bits reads back
pub integer_back : (z : ℤ) → z <ℤ pos (2 ^ 63) → as_i64 (of_integer z) ≡ Some z
integer_back (pos n) h = let within : n < 2 ^ 63 = omega (arith, ints) in rw (lt-ltb n (2 ^ 63) within) refl
integer_back (negsuc n) h = refl

small_fits : (z high : ℤ) → z ≤ℤ high → high ≤ℤ pos 4294967295 → z <ℤ pos (2 ^ 63)
small_fits z high a b = omega (arith, ints)

-- each row ends far below 2^63
abbrev AreSmall : List RowRule → Type 0
AreSmall [] = Unit {0}
AreSmall (rule ∷ rules) = (rule.high ≤ℤ pos 4294967295) × AreSmall rules

holds : (test : Bool) → test ≡ true → T test
holds true h = tt
holds false h = cc

small_by : (rules : List RowRule) → list_all (λ rule. int_le rule.high (pos 4294967295)) rules ≡ true → AreSmall rules
small_by [] e = tt
small_by (rule ∷ rules) e =
    let p = both (int_le rule.high (pos 4294967295)) (list_all (λ rule. int_le rule.high (pos 4294967295)) rules) e in
    (le_z_yes (holds (int_le rule.high (pos 4294967295)) p.0), small_by rules p.1)

v2_small : AreSmall v2_rules
v2_small = small_by v2_rules refl

pub from_range : (low high z : ℤ) → low ≤ℤ z → z ≤ℤ high → is_from low high z ≡ true
from_range low high z l h = grind (arith, nat_tests)

none_start : (start : Option ℤ) → IsNone start → is_none start ≡ true
none_start None i = refl
none_start (Some z) i = cc

-- what is written of a row reads back, where the row takes it
taken_back : (rule : RowRule) (value : Option ℤ) → rule.high ≤ℤ pos 4294967295 → IsInRow rule value → taken rule (row_json value) ≡ Some value
taken_back rule None s i = rw (none_start rule.start i) refl
taken_back rule (Some z) s i =
    rw (integer_back z (small_fits z rule.high i.1 s), from_range rule.low rule.high z i.0 i.1) refl

named_back : (rule : RowRule) (named : Option (Option ℤ)) (found : Option Data) → rule.high ≤ℤ pos 4294967295 → IsEditInRow rule named → found ≡ option_map row_json named
    → option_and_then (taken rule) found ≡ named
named_back rule None found s i e = rw e refl
named_back rule (Some value) found s i e = rw (e, taken_back rule value s i) refl

rows_back : (rules : List RowRule) (edit : EditList) (value : Data) → AreSmall rules → AreEditsInRows rules edit → RowsAre rules edit value → named_rows rules value ≡ edit
rows_back [] [] value s i r = refl
rows_back [] (named ∷ edit) value s i r = absurd r
rows_back (rule ∷ rules) [] value s i r = absurd r
rows_back (rule ∷ rules) (named ∷ edit) value s i r =
    rw (named_back rule named (get rule.name value) s.0 i.0 r.0, rows_back rules edit value s.1 i.1 r.1) refl

-- an edit reads back; version 1 reads its own rows alone
pub edit_back : (two : Bool) (edit : EditList) (value : Data) → AreEditsInRows v2_rules edit → (two ≡ false → drop 16 edit ≡ replicate 6 None) → RowsAre v2_rules edit value
    → edits_of two value ≡ edit
edit_back true edit value i n r = rows_back v2_rules edit value v2_small i r
edit_back false edit value i n r =
    let whole : named_rows v2_rules value ≡ edit = rows_back v2_rules edit value v2_small i r in
    let later : named_rows (drop 16 v2_rules) value ≡ replicate 6 None = ap (drop 16) whole ∙ n refl in
    ap (λ more. named_rows v1_rules value ++ more) (sym later) ∙ whole

-- no row is refused
row_taken : (rule : RowRule) (named : Option (Option ℤ)) (value : Data) → rule.high ≤ℤ pos 4294967295 → IsEditInRow rule named → get rule.name value ≡ option_map row_json named
    → refused rule.name (λ found. is_some (taken rule found)) value ≡ None
row_taken rule None value s i e = rw e refl
row_taken rule (Some row) value s i e = rw (e, taken_back rule row s i) refl

abbrev AreTaken : List RowRule → Data → Type 0
AreTaken [] value = Unit {0}
AreTaken (rule ∷ rules) value = (refused rule.name (λ found. is_some (taken rule found)) value ≡ None) × AreTaken rules value

rows_taken : (rules : List RowRule) (edit : EditList) (value : Data) → AreSmall rules → AreEditsInRows rules edit → RowsAre rules edit value → AreTaken rules value
rows_taken [] edit value s i r = tt
rows_taken (rule ∷ rules) [] value s i r = absurd r
rows_taken (rule ∷ rules) (named ∷ edit) value s i r = (row_taken rule named value s.0 i.0 r.0, rows_taken rules edit value s.1 i.1 r.1)

front_taken : (first second : List RowRule) (value : Data) → AreTaken (first ++ second) value → AreTaken first value
front_taken [] second value a = tt
front_taken (rule ∷ first) second value a = (a.0, front_taken first second value a.1)

no_bad_row : (rules : List RowRule) (value : Data) → AreTaken rules value → bad_row rules value ≡ None
no_bad_row [] value a = refl
no_bad_row (rule ∷ rules) value a = rw (a.0, no_bad_row rules value a.1) refl

two_tables : (two : Bool) (value : Data) → AreTaken v2_rules value → AreTaken (rules_for two) value
two_tables true value a = a
two_tables false value a = front_taken v1_rules (drop 16 v2_rules) value a

abbrev pub label_count : Option (List ℕ) → ℕ
label_count None = 0
label_count (Some label) = 1

-- what an object of props has
pub record IsPropsObject (edit : EditList) (given : Option (List ℕ)) (value : Data) : Type 0 where
  pub rows : RowsAre v2_rules edit value
  pub label : get (codes "label") value ≡ option_map text_json given
  pub members : unwrap_or (option_map member_count (as_object value)) 0 ≡ named_count edit + label_count given

pub members_of_props : (edit : EditList) (label : Option (List ℕ)) → length edit ≡ 22 → IsPropsObject edit label (object_of (edit_members edit label))
members_of_props edit None e =
    let all : with_members (edit_members edit None) no_members ≡ with_members (row_members v2_rules edit) no_members = with_both (row_members v2_rules edit) [] no_members in
    rw all
    (record {
      rows = rows_put v2_rules edit no_members v2_apart (absent_none v2_rules) e;
      label = rows_beside (codes "label") v2_rules edit no_members no_label;
      members = omega (arith, rows_counted v2_rules edit no_members v2_apart (absent_none v2_rules) e);
    })
members_of_props edit (Some label) e =
    let all : with_members (edit_members edit (Some label)) no_members ≡ put (codes "label") (text_json label) (with_members (row_members v2_rules edit) no_members)
    = with_both (row_members v2_rules edit) ((codes "label", text_json label) ∷ []) no_members in
    let new = rows_beside (codes "label") v2_rules edit no_members no_label in
    rw all
    (record {
      rows = rows_kept (codes "label") (text_json label) v2_rules edit (with_members (row_members v2_rules edit) no_members) no_label (rows_put v2_rules edit no_members v2_apart (absent_none v2_rules) e);
      label = get_member-put (codes "label") (text_json label) (with_members (row_members v2_rules edit) no_members);
      members = omega (arith, member_count-put (codes "label") (text_json label) (with_members (row_members v2_rules edit) no_members) new, rows_counted v2_rules edit no_members v2_apart (absent_none v2_rules) e);
    })

absent_label : (edit : EditList) → get_member (codes "label") (with_members (row_members v2_rules edit) no_members) ≡ None
absent_label edit = rows_beside (codes "label") v2_rules edit no_members no_label

-- what is read from an object is read from a value that stands for it where there are no members
pub same_props : (members : List (List ℕ × Data)) (name : List ℕ) → get name (unwrap_or (some_object members) null) ≡ get name (object_of members)
same_props [] name = refl
same_props (one ∷ members) name = refl

-- a label reads back
label_back : (label : List ℕ) → is_utf8 label ≡ true → length label ≤ 256 → label_of (text_json label) ≡ Some label
label_back label u l = rw (u, le-leb (length label) 256 l) refl

-- a text of at most 256 bytes, where there is one
abbrev pub IsLabel : Option (List ℕ) → Type 0
IsLabel None = Unit {0}
IsLabel (Some label) = (is_utf8 label ≡ true) × (length label ≤ 256)

pub named_label_back : (label : Option (List ℕ)) (value : Data) → IsLabel label → get (codes "label") value ≡ option_map text_json label → named_label value ≡ label
named_label_back None value i e = rw e refl
named_label_back (Some label) value i e = rw (e, label_back label i.0 i.1) refl

label_taken : (label : Option (List ℕ)) (value : Data) → IsLabel label → get (codes "label") value ≡ option_map text_json label
    → refused (codes "label") (λ found. is_some (label_of found)) value ≡ None
label_taken None value i e = rw e refl
label_taken (Some label) value i e = rw (e, label_back label i.0 i.1) refl

label_found : (label : Option (List ℕ)) (value : Data) → get (codes "label") value ≡ option_map text_json label → cond (is_some (get (codes "label") value)) 1 0 ≡ label_count label
label_found None value e = rw e refl
label_found (Some label) value e = rw e refl

-- the names of a version's rows and "label" are as many as the members
names_are_all : (two : Bool) (edit : EditList) (label : Option (List ℕ)) (value : Data) → (two ≡ false → drop 16 edit ≡ replicate 6 None) → IsPropsObject edit label value
    → names_found (codes "label" ∷ map (λ rule. rule.name) (rules_for two)) value ≡ named_count edit + label_count label
names_are_all true edit label value n p =
    omega (
      arith,
      count_by-first (λ name. is_some (get name value)) (codes "label") (map (λ rule. rule.name) v2_rules),
      label_found label value p.label,
      rows_found v2_rules edit value p.rows,
    )
names_are_all false edit label value n p =
    let later : names_found (map (λ rule. rule.name) (drop 16 v2_rules)) value ≡ 0 =
    rows_found (drop 16 v2_rules) (replicate 6 None) value (subst (λ rows. RowsAre (drop 16 v2_rules) rows value) (n refl) (rows_later v1_rules (drop 16 v2_rules) edit value p.rows)) in
    omega (
      arith,
      count_by-first (λ name. is_some (get name value)) (codes "label") (map (λ rule. rule.name) v1_rules),
      label_found label value p.label,
      rows_found v2_rules edit value p.rows,
      count_by-both (λ name. is_some (get name value)) (map (λ rule. rule.name) v1_rules) (map (λ rule. rule.name) (drop 16 v2_rules)),
      later,
    )

as_many : (m n : ℕ) → m ≡ n → nat_eq m (0 + n) ≡ true
as_many m n e = grind (arith, nat_tests)

-- an object of props has no fault
pub no_bad_props : (two : Bool) (edit : EditList) (label : Option (List ℕ)) (members : Members) → AreEditsInRows v2_rules edit → IsLabel label
    → (two ≡ false → drop 16 edit ≡ replicate 6 None) → IsPropsObject edit label (object members) → bad_props (rules_for two) (object members) ≡ None
no_bad_props two edit label members i l n p =
    let names = names_are_all two edit label (object members) n p in
    let rows = no_bad_row (rules_for two) (object members) (two_tables two (object members) (rows_taken v2_rules edit (object members) v2_small i p.rows)) in
    let form : has_form [] (codes "label" ∷ map (λ rule. rule.name) (rules_for two)) (object members) ≡ true =
    as_many (member_count members) _ (p.members ∙ sym names) in
    rw (form, rows, label_taken label (object members) l p.label) refl

unless_start-row : (rule : RowRule) (z : ℤ) (row : Option ℤ) (same : Bool) → IsInRow rule (Some z) → (if same then None else Some (Some z)) ≡ Some row → IsInRow rule row
unless_start-row rule z row true i e = cc
unless_start-row rule z row false i e = let same : Some z ≡ row = cc in subst (IsInRow rule) same i

same_or : (z start : ℤ) (same : Bool) → int_eq z start ≡ same → unwrap_or (if same then None else Some (Some z)) (Some start) ≡ Some z
same_or z start true e = ap Some (sym ((Decides-int_eq z start).0 e))
same_or z start false e = refl

unless_start-in_row : (rule : RowRule) (start value : Option ℤ) (named : Option (Option ℤ)) → IsInRow rule value → unless_start start value ≡ named → IsEditInRow rule named
unless_start-in_row rule start value None i e = tt
unless_start-in_row rule None None (Some row) i e = cc
unless_start-in_row rule None (Some z) (Some row) i e = let same : Some z ≡ row = cc in subst (IsInRow rule) same i
unless_start-in_row rule (Some start) None (Some row) i e = let same : None ≡ row = cc in subst (IsInRow rule) same i
unless_start-in_row rule (Some start) (Some z) (Some row) i e = unless_start-row rule z row (int_eq z start) i e

-- rows that differ from their start take what they are
pub changed_in_rows : (rules : List RowRule) (props : PropList) → AreInRows rules props → AreEditsInRows rules (changed_rows rules props)
changed_in_rows [] [] a = tt
changed_in_rows [] (value ∷ values) a = absurd a
changed_in_rows (rule ∷ rules) [] a = absurd a
changed_in_rows (rule ∷ rules) (value ∷ values) a =
    (unless_start-in_row rule rule.start value (unless_start rule.start value) a.0 refl, changed_in_rows rules values a.1)

changed_rows-none : (rules : List RowRule) → changed_rows rules [] ≡ []
changed_rows-none [] = refl
changed_rows-none (rule ∷ rules) = refl

changed_rows-drop : (n : ℕ) (rules : List RowRule) (props : PropList) → drop n (changed_rows rules props) ≡ changed_rows (drop n rules) (drop n props)
changed_rows-drop zero rules props = refl
changed_rows-drop (suc n) [] props = refl
changed_rows-drop (suc n) (rule ∷ rules) [] = sym (changed_rows-none (drop n rules))
changed_rows-drop (suc n) (rule ∷ rules) (value ∷ values) = changed_rows-drop n rules values

-- version 1 names none of the rows of version 2
pub changed_unnamed : (two : Bool) (props : PropList) → (two ≡ false → drop 16 props ≡ start_of (drop 16 v2_rules))
    → (two ≡ false → drop 16 (changed_rows v2_rules props) ≡ replicate 6 None)
changed_unnamed two props n e = rw (changed_rows-drop 16 v2_rules props, n e) refl

unless_start-back : (start value : Option ℤ) → unwrap_or (unless_start start value) start ≡ value
unless_start-back None None = refl
unless_start-back None (Some z) = refl
unless_start-back (Some start) None = refl
unless_start-back (Some start) (Some z) = same_or z start (int_eq z start) refl

-- the start of each row, with the rows that differ from it
pub merged-changed : (rules : List RowRule) (props : PropList) → AreInRows rules props → merged (start_of rules) (changed_rows rules props) ≡ props
merged-changed [] [] a = refl
merged-changed [] (value ∷ values) a = absurd a
merged-changed (rule ∷ rules) [] a = absurd a
merged-changed (rule ∷ rules) (value ∷ values) a = rw (unless_start-back rule.start value, merged-changed rules values a.1) refl

-- props are read as an edit of each row's start
pub props_merged : (two : Bool) (value : Data) → props_of two value ≡ merged (start_of v2_rules) (edits_of two value)
props_merged true value = refl
props_merged false value = refl
