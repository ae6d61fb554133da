-- The rows of props, one after another.
use Rattle.std.proofs.Common.{◌≡◌, ℕ, zero, suc, ◌+◌, ◌<◌, List, [], ◌∷◌, ◌++◌, length, take, arith, refl, ap, sym, ◌∙◌, append_assoc, add-one}
use Rattle.std.proofs.lemmas.List.{append-nil}
use Rattle.byte_ports.specs.Sinks.{SinkView, Part}
use Rattle.prop_table.specs.Props.{PropList, value_at}
use Rattle.prop_table.specs.Table.{RowRule}
use Rattle.prop_table.specs.Rules.{rule_at}
use Rattle.prop_table.specs.PairText.{pair_text_of, pairs_text_of}
use Rattle.run_report.specs.Lines.{IsHeldBack}
use Rattle.run_report.specs.Text.{label_text, hex_text}
use Rattle.run_report.proofs.HeldBack.{fault_first, fault_then, held_both}
use Rattle.std.specs.Prelude.{codes}

-- the text of a row, by its number
abbrev pub row_text : List RowRule → PropList → ℕ → List ℕ
row_text rules props i = pair_text_of (rule_at rules i) (value_at props i)

-- the first i + 1 rows are the first i and the next
rows-take : (rules : List RowRule) (props : PropList) (i : ℕ) → i < length rules
    → pairs_text_of (take (suc i) rules) props ≡ pairs_text_of (take i rules) props ++ row_text rules props i
rows-take [] props i below = absurd (omega (arith, below))
rows-take (rule ∷ rules) [] zero below = refl
rows-take (rule ∷ rules) [] (suc i) below = refl
rows-take (rule ∷ rules) (value ∷ values) zero below = append-nil (pair_text_of rule value)
rows-take (rule ∷ rules) (value ∷ values) (suc i) below =
    ap (λ rest. pair_text_of rule value ++ rest) (rows-take rules values i (omega (arith, below)))
    ∙ sym (append_assoc (pair_text_of rule value) (pairs_text_of (take i rules) values) (row_text rules values i))

-- all rows are the first i, the next, and a rest
rows-split : (rules : List RowRule) (props : PropList) (i : ℕ) → i < length rules
    → (rest : List ℕ) × (pairs_text_of rules props ≡ pairs_text_of (take i rules) props ++ (row_text rules props i ++ rest))
rows-split [] props i below = absurd (omega (arith, below))
rows-split (rule ∷ rules) [] zero below = ([], refl)
rows-split (rule ∷ rules) [] (suc i) below = ([], refl)
rows-split (rule ∷ rules) (value ∷ values) zero below = (pairs_text_of rules values, refl)
rows-split (rule ∷ rules) (value ∷ values) (suc i) below =
    let more = rows-split rules values i (omega (arith, below)) in (
      more.0,
      ap (λ rest. pair_text_of rule value ++ rest) more.1
          ∙ sym (append_assoc (pair_text_of rule value) (pairs_text_of (take i rules) values) (row_text rules values i ++ more.0)),
    )

-- one more row
pub held_row : (old between new : SinkView) (held middle left : List ℕ) (rules : List RowRule) (props : PropList) (i : ℕ) → i < length rules
    → IsHeldBack old held between middle (pairs_text_of (take i rules) props) → IsHeldBack between middle new left (row_text rules props i)
    → IsHeldBack old held new left (pairs_text_of (take (i + 1) rules) props)
held_row old between new held middle left rules props i below before after =
    rw (add-one, rows-take rules props i below)
    (held_both old between new held middle left (pairs_text_of (take i rules) props) (row_text rules props i) before after)

-- a fault at a row
pub fault_row : (old between new : SinkView) (held middle : List ℕ) (rules : List RowRule) (props : PropList) (i : ℕ) → i < length rules
    → IsHeldBack old held between middle (pairs_text_of (take i rules) props) → Part between new (middle ++ row_text rules props i)
    → Part old new (held ++ pairs_text_of rules props)
fault_row old between new held middle rules props i below before after =
    let more = rows-split rules props i below in
    let one : List ℕ = row_text rules props i in
    rw more.1
    (fault_then old between new held middle (pairs_text_of (take i rules) props) (one ++ more.0) before (fault_first between new middle one more.0 after))

-- the text of a label that is not empty
pub label_text_some : (bytes : List ℕ) → (bytes ≡ [] → ⊥) → label_text bytes ≡ codes " label=" ++ hex_text bytes
label_text_some [] some = absurd (some refl)
label_text_some (byte ∷ bytes) some = refl
