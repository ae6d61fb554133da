-- Rows of props, a state and a label are told apart by how their words begin.
use Rattle.std.proofs.Common.{◌≡◌, ℕ, ℤ, pos, negsuc, ◌<◌, ◌≤◌, ◌^◌, ◌≤ℤ◌, List, [], ◌∷◌, ◌++◌, Bool, true, false, ◌&&◌, cond, Option, Some, None, IsNone, ◌⊎◌, inl, inr, ⊎_elim, nat_lt, codes, arith, refl, ap, sym, ◌∙◌, append_assoc, ltb-true, leb→le}
use Rattle.std.specs.Int.Signed.{mag}
use Rattle.std.specs.List.{list_all}
use Rattle.std.specs.Cmp.{signed_Decides}
use Rattle.std.specs.Fmt.{signed_decimal}
use Rattle.std.proofs.lemmas.Fmt.{signed_decimal_injective}
use Rattle.std.proofs.lemmas.List.{append_cancel_left}
use Rattle.prop_table.specs.Props.{PropList}
use Rattle.prop_table.specs.Table.{RowRule, IsInRow, AreInRows, v2_rules}
use Rattle.prop_table.specs.PairText.{is_start}
use Rattle.run_report.specs.Text.{hex_text}
use Rattle.run_report.proofs.LineWords.{is_word_byte, and_left, and_right, differs, apart}
use Rattle.run_report.proofs.Words.{hex_is}
use Rattle.run_report.proofs.ViewWords.{key_of, row_words, rows_words, label_words}

-- a row's key is of bytes of words, and its numbers have 64 bits
abbrev pub is_plain : RowRule → Bool
is_plain rule = list_all is_word_byte (key_of rule) && (nat_lt (mag rule.low) (2 ^ 63) && nat_lt (mag rule.high) (2 ^ 63))

-- each row is so, and its key differs from that of a label and from those of the rows after it
abbrev pub are_told : List RowRule → Bool
are_told [] = true
are_told (rule ∷ rules) =
    is_plain rule && (differs (key_of rule) (codes "label=") && (list_all (λ other. differs (key_of rule) (key_of other)) rules && are_told rules))

-- the rows of a node's table are told apart
pub v2_told : are_told v2_rules ≡ true
v2_told = refl

-- a word that begins otherwise is not a label's
label_unlike : (key x : List ℕ) (more : List (List ℕ)) (label : List ℕ) → differs key (codes "label=") ≡ true → (key ++ x) ∷ more ≡ label_words label → ⊥
label_unlike key x more [] d e = cc
label_unlike key x more (byte ∷ bytes) d e = apart key (codes "label=") x (hex_text (byte ∷ bytes)) d (cc)

-- the first of some words is a row's, or of those after it
first_word : (absent : Bool) (first word : List ℕ) (more rest others : List (List ℕ)) → first ∷ more ≡ (cond absent [] (word ∷ []) ++ rest) ++ others
    → (first ∷ more ≡ rest ++ others) ⊎ (first ≡ word)
first_word true first word more rest others e = inl e
first_word false first word more rest others e = inr (cc)

-- a word that begins otherwise is none of the rows', nor the label's
pub rows_unlike : (key x : List ℕ) (more : List (List ℕ)) (rules : List RowRule) (values : PropList) (label : List ℕ) → differs key (codes "label=") ≡ true
    → list_all (λ other. differs key (key_of other)) rules ≡ true → (key ++ x) ∷ more ≡ rows_words rules values ++ label_words label → ⊥
rows_unlike key x more [] values label d a e = label_unlike key x more label d e
rows_unlike key x more (rule ∷ rules) [] label d a e = label_unlike key x more label d e
rows_unlike key x more (rule ∷ rules) (None ∷ values) label d a e =
    rows_unlike key x more rules values label d (and_right (differs key (key_of rule)) (list_all (λ other. differs key (key_of other)) rules) a) e
rows_unlike key x more (rule ∷ rules) (Some value ∷ values) label d a e =
    ⊎_elim
    (λ rest. rows_unlike key x more rules values label d (and_right (differs key (key_of rule)) (list_all (λ other. differs key (key_of other)) rules) a) rest)
    (λ word. apart key (key_of rule) x (signed_decimal value) (and_left (differs key (key_of rule)) (list_all (λ other. differs key (key_of other)) rules) a) word)
    (first_word (is_start rule.start value) (key ++ x) (key_of rule ++ signed_decimal value) more (rows_words rules values) (label_words label) e)

-- a row that may be absent has no start
not_start : (start : Option ℤ) (value : ℤ) → IsNone start → is_start start value ≡ false
not_start None value none = refl
not_start (Some number) value none = absurd (cc)

-- two numbers at the start are one
start_is : (start : Option ℤ) (m n : ℤ) → is_start start m ≡ true → is_start start n ≡ true → m ≡ n
start_is None m n p q = absurd (cc)
start_is (Some number) m n p q = (signed_Decides m number).0 p ∙ sym ((signed_Decides n number).0 q)

-- what lies between two numbers of so many bits has so many
pub mag_between : (low n high : ℤ) (bound : ℕ) → low ≤ℤ n → n ≤ℤ high → mag low < bound → mag high < bound → mag n < bound
mag_between low (pos n) (pos high) bound p q l h = let below : n ≤ high = leb→le n high q.le in omega arith
mag_between low (pos n) (negsuc high) bound p q l h = absurd q.le
mag_between (pos low) (negsuc n) high bound p q l h = absurd p.le
mag_between (negsuc low) (negsuc n) high bound p q l h = let below : n ≤ low = leb→le n low p.le in omega arith

module _ (rule : RowRule) (plain : is_plain rule ≡ true) (r s : List (List ℕ)) (not_r : (x : List ℕ) (more : List (List ℕ)) → (key_of rule ++ x) ∷ more ≡ r → ⊥)
    (not_s : (x : List ℕ) (more : List (List ℕ)) → (key_of rule ++ x) ∷ more ≡ s → ⊥) where
  -- a number of the row has 64 bits
  row_mag : (n : ℤ) → IsInRow rule (Some n) → mag n < 2 ^ 63
  row_mag n p =
      let bounds : (nat_lt (mag rule.low) (2 ^ 63) && nat_lt (mag rule.high) (2 ^ 63)) ≡ true = and_right (list_all is_word_byte (key_of rule)) (nat_lt (mag rule.low) (2 ^ 63) && nat_lt (mag rule.high) (2 ^ 63)) plain in
      mag_between rule.low n rule.high (2 ^ 63) p.0 p.1
      (ltb-true (mag rule.low) (2 ^ 63) (and_left (nat_lt (mag rule.low) (2 ^ 63)) (nat_lt (mag rule.high) (2 ^ 63)) bounds))
      (ltb-true (mag rule.high) (2 ^ 63) (and_right (nat_lt (mag rule.low) (2 ^ 63)) (nat_lt (mag rule.high) (2 ^ 63)) bounds))

  -- two numbers of a row, each written or at the start
  given_row : (m n : ℤ) (a b : Bool) → is_start rule.start m ≡ a → is_start rule.start n ≡ b → IsInRow rule (Some m) → IsInRow rule (Some n)
      → cond a [] ((key_of rule ++ signed_decimal m) ∷ []) ++ r ≡ cond b [] ((key_of rule ++ signed_decimal n) ∷ []) ++ s → (m ≡ n) × (r ≡ s)
  given_row m n true true a_is b_is p q e = (start_is rule.start m n a_is b_is, e)
  given_row m n true false a_is b_is p q e = absurd (not_r (signed_decimal n) s (sym e))
  given_row m n false true a_is b_is p q e = absurd (not_s (signed_decimal m) r e)
  given_row m n false false a_is b_is p q e =
      (signed_decimal_injective m n (row_mag m p) (row_mag n q) (append_cancel_left (key_of rule) (signed_decimal m) (signed_decimal n) (cc)), cc)

  -- a row is read back
  pub row_off : (v w : Option ℤ) → IsInRow rule v → IsInRow rule w → row_words rule v ++ r ≡ row_words rule w ++ s → (v ≡ w) × (r ≡ s)
  row_off None None p q e = (refl, e)
  row_off None (Some n) p q e = absurd (not_r (signed_decimal n) s (sym (rw (not_start rule.start n p) at e)))
  row_off (Some m) None p q e = absurd (not_s (signed_decimal m) r (rw (not_start rule.start m q) at e))
  row_off (Some m) (Some n) p q e =
      let both = given_row m n (is_start rule.start m) (is_start rule.start n) refl refl p q e in (ap Some both.0, both.1)

-- a label is read back
label_is : (k l : List ℕ) → label_words k ≡ label_words l → k ≡ l
label_is [] [] e = refl
label_is [] (y ∷ ys) e = absurd (cc)
label_is (x ∷ xs) [] e = absurd (cc)
label_is (x ∷ xs) (y ∷ ys) e = hex_is (x ∷ xs) (y ∷ ys) (append_cancel_left (codes "label=") (hex_text (x ∷ xs)) (hex_text (y ∷ ys)) (cc))

-- rows and a label are read back
pub rows_off : (rules : List RowRule) (vs ws : PropList) (k l : List ℕ) → are_told rules ≡ true → AreInRows rules vs → AreInRows rules ws
    → rows_words rules vs ++ label_words k ≡ rows_words rules ws ++ label_words l → (vs ≡ ws) × (k ≡ l)
rows_off [] [] [] k l told p q e = (refl, label_is k l e)
rows_off [] [] (w ∷ ws) k l told p q e = absurd q
rows_off [] (v ∷ vs) ws k l told p q e = absurd p
rows_off (rule ∷ rules) [] ws k l told p q e = absurd p
rows_off (rule ∷ rules) (v ∷ vs) [] k l told p q e = absurd q
rows_off (rule ∷ rules) (v ∷ vs) (w ∷ ws) k l told p q e =
    let to_label : Bool = differs (key_of rule) (codes "label=") in
    let to_rows : Bool = list_all (λ other. differs (key_of rule) (key_of other)) rules in
    let apart_told : (to_label && (to_rows && are_told rules)) ≡ true = and_right (is_plain rule) (to_label && (to_rows && are_told rules)) told in
    let rows_told : (to_rows && are_told rules) ≡ true = and_right to_label (to_rows && are_told rules) apart_told in
    let label_apart : to_label ≡ true = and_left to_label (to_rows && are_told rules) apart_told in
    let rows_apart : to_rows ≡ true = and_left to_rows (are_told rules) rows_told in
    let first = row_off rule (and_left (is_plain rule) (to_label && (to_rows && are_told rules)) told) (rows_words rules vs ++ label_words k) (rows_words rules ws ++ label_words l)
    (λ x more. rows_unlike (key_of rule) x more rules vs k label_apart rows_apart) (λ x more. rows_unlike (key_of rule) x more rules ws l label_apart rows_apart)
    v w p.0 q.0 (sym (append_assoc (row_words rule v) (rows_words rules vs) (label_words k)) ∙ e ∙ append_assoc (row_words rule w) (rows_words rules ws) (label_words l)) in
    let rest = rows_off rules vs ws k l (and_right to_rows (are_told rules) rows_told) p.1 q.1 first.1 in
    let v_is : v ≡ w = first.0 in
    let vs_is : vs ≡ ws = rest.0 in (cc, rest.1)
