-- The props that an object names are in range.
use Rattle.std.proofs.Common.{◌≡◌, ℕ, ◌≤◌, List, [], ◌∷◌, length, refl, arith}
use Rattle.std.specs.Prelude.{ℤ, Option, Some, None, unwrap_or, IfSome, option_and_then, nat_le, cond, Bool, true, false, codes, int_le, is_none, IsNone}
use Rattle.serde_json.specs.Data.{Data}
use Rattle.serde_json.specs.Find.{get, as_str}
use Rattle.prop_table.specs.Table.{RowRule, v1_rules, v2_rules, IsInRow, AreInRows, AreNodeProps, start_of}
use Rattle.prop_table.specs.Edits.{IsEditInRow, AreEditsInRows}
use Rattle.prop_table.proofs.NodeRows.{AreInRows-v1_start, AreNodeProps-start}
use Rattle.prop_table.proofs.Widening.{AreNodeProps-widened, AreEditsInRows-widened}
use Rattle.shadow_node.specs.InRange.{IsEditInRange}
use Rattle.script_read.specs.Faults.{takes, row_value, taken, label_of}
use Rattle.script_read.specs.Value.{named_row, rows_of, props_of, named_rows, edits_of, named_label, edit_of}
use Rattle.script_read.proofs.Ranges.{at_most}
use Rattle.script_read.proofs.Refusals.{both}

empty_row : (start : Option ℤ) → is_none start ≡ true → IsNone start
empty_row None h = refl
empty_row (Some value) h = cc

-- a row takes what is in its range
takes_ok : (rule : RowRule) (value : Option ℤ) → takes rule value ≡ true → IsInRow rule value
takes_ok rule None h = empty_row rule.start h
takes_ok rule (Some value) h =
    let b = both (int_le rule.low value) (int_le value rule.high) h in
    (at_most rule.low value b.0, at_most value rule.high b.1)

guarded : {A : Type 0} (test : Bool) (found value : A) → cond test (Some found) None ≡ Some value → (test ≡ true) × (found ≡ value)
guarded true found value h = (refl, cc)
guarded false found value h = cc

taken_by : (rule : RowRule) (said : Option (Option ℤ)) (value : Option ℤ) → option_and_then (λ number. cond (takes rule number) (Some number) None) said ≡ Some value
    → IsInRow rule value
taken_by rule None value h = cc
taken_by rule (Some number) value h = let g = guarded (takes rule number) number value h in rw (← g.1) (takes_ok rule number g.0)

named_by : (rule : RowRule) (found : Option Data) (value : Option ℤ) → option_and_then (taken rule) found ≡ Some value → IsInRow rule value
named_by rule None value h = cc
named_by rule (Some given) value h = taken_by rule (row_value given) value h

row_in : (rule : RowRule) (said : Option (Option ℤ)) → ((value : Option ℤ) → said ≡ Some value → IsInRow rule value) → IsInRow rule rule.start
    → IsInRow rule (unwrap_or said rule.start)
row_in rule None f s = s
row_in rule (Some value) f s = f value refl

rows_in : (rules : List RowRule) (given : Data) → AreInRows rules (start_of rules) → AreInRows rules (rows_of rules given)
rows_in [] given s = tt
rows_in (rule ∷ rules) given s = (row_in rule (named_row given rule) (named_by rule (get rule.name given)) s.0, rows_in rules given s.1)

-- the props of a written node
pub props_in : (two : Bool) (given : Data) → AreNodeProps (props_of two given)
props_in true given = rows_in v2_rules given AreNodeProps-start
props_in false given = AreNodeProps-widened (rows_of v1_rules given) (rows_in v1_rules given AreInRows-v1_start)

edit_in : (rule : RowRule) (said : Option (Option ℤ)) → ((value : Option ℤ) → said ≡ Some value → IsInRow rule value) → IsEditInRow rule said
edit_in rule None f = tt
edit_in rule (Some value) f = f value refl

edits_in : (rules : List RowRule) (given : Data) → AreEditsInRows rules (named_rows rules given)
edits_in [] given = tt
edits_in (rule ∷ rules) given = (edit_in rule (named_row given rule) (named_by rule (get rule.name given)), edits_in rules given)

changes_in : (two : Bool) (given : Data) → AreEditsInRows v2_rules (edits_of two given)
changes_in true given = edits_in v2_rules given
changes_in false given = AreEditsInRows-widened (named_rows v1_rules given) (edits_in v1_rules given)

short_text : (text : List ℕ) → IfSome (cond (nat_le (length text) 256) (Some text) None) (λ label. length label ≤ 256)
short_text text =
    elim (nat_le (length text) 256) as (λ b. (nat_le (length text) 256 ≡ b) → IfSome (cond b (Some text) None) (λ label. length label ≤ 256)) [
      | true ↦ λ e. grind (arith, e)
      | false ↦ λ e. tt
    ] refl

short_value : (text : Option (List ℕ)) → IfSome (option_and_then (λ text. cond (nat_le (length text) 256) (Some text) None) text) (λ label. length label ≤ 256)
short_value None = tt
short_value (Some text) = short_text text

short_member : (found : Option Data) → IfSome (option_and_then label_of found) (λ label. length label ≤ 256)
short_member None = tt
short_member (Some value) = short_value (as_str value)

-- the label that an object names
pub label_in : (given : Data) → IfSome (named_label given) (λ label. length label ≤ 256)
label_in given = short_member (get (codes "label") given)

-- a label, or none
pub label_short : (label : Option (List ℕ)) → IfSome label (λ label. length label ≤ 256) → length (unwrap_or label []) ≤ 256
label_short None h = omega arith
label_short (Some label) h = h

-- the change that an object names
pub change_in : (two : Bool) (given : Data) → IsEditInRange (edit_of two given)
change_in two given = record { rows = changes_in two given; label = label_in given }
