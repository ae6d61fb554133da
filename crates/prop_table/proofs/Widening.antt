-- What widened version 1 props and edits hold.
use Rattle.std.proofs.Common.{◌≡◌, ℕ, zero, suc, ◌+◌, ◌<◌, List, [], ◌∷◌, ◌++◌, take, drop, length, get_or, slice_set, None, ap, subst, arith, rules}
use Rattle.std.proofs.lemmas.List.{get_or_append_left, get_or-append-add}
use Rattle.prop_table.specs.Props.{PropList, value_at}
use Rattle.prop_table.specs.Table.{RowRule, AreInRows, AreNodeProps, v1_rules, v2_rules, start_of}
use Rattle.prop_table.specs.Edits.{EditList, AreEditsInRows, widened_edit}
use Rattle.prop_table.specs.Widened.{widened}

-- the rows of version 1 stay as they are
pub widened-kept : (props : PropList) (row : ℕ) → row < length props → value_at (widened props) row ≡ value_at props row
widened-kept props row h = get_or_append_left props (start_of (drop 16 v2_rules)) None row h

-- the rows that version 2 adds are at their start
pub widened-added : (props : PropList) (row : ℕ) → length props ≡ 16 → value_at (widened props) (16 + row) ≡ value_at (start_of (drop 16 v2_rules)) row
widened-added props row n =
    let P : ℕ → Type 0 = λ k. value_at (widened props) (k + row) ≡ value_at (start_of (drop 16 v2_rules)) row in
    subst P n (get_or-append-add props (start_of (drop 16 v2_rules)) row None)

-- one more element that is copied from the first list over the second
pub copied-more : {X : Type 0} (xs ys : List X) (i : ℕ) (x d : X) → i < length xs → i < length ys → x ≡ get_or xs i d
    → slice_set (take i xs ++ drop i ys) i x ≡ take (suc i) xs ++ drop (suc i) ys
copied-more [] ys i x d h k e = absurd (omega arith)
copied-more (x' ∷ xs) [] i x d h k e = absurd (omega arith)
copied-more (x' ∷ xs) (y' ∷ ys) zero x d h k e = ap (λ z. z ∷ ys) e
copied-more (x' ∷ xs) (y' ∷ ys) (suc i) x d h k e = ap (λ rest. x' ∷ rest) (copied-more xs ys i x d (omega arith) (omega arith) e)

AreInRows-append : (rules more : List RowRule) (props others : PropList) → AreInRows rules props → AreInRows more others → AreInRows (rules ++ more) (props ++ others)
AreInRows-append [] more [] others a b = b
AreInRows-append [] more (v ∷ vs) others a b = absurd a
AreInRows-append (rule ∷ rules) more [] others a b = absurd a
AreInRows-append (rule ∷ rules) more (v ∷ vs) others a b = (a.0, AreInRows-append rules more vs others a.1 b)

AreEditsInRows-append : (rules more : List RowRule) (edit others : EditList) → AreEditsInRows rules edit → AreEditsInRows more others
    → AreEditsInRows (rules ++ more) (edit ++ others)
AreEditsInRows-append [] more [] others a b = b
AreEditsInRows-append [] more (e ∷ es) others a b = absurd a
AreEditsInRows-append (rule ∷ rules) more [] others a b = absurd a
AreEditsInRows-append (rule ∷ rules) more (e ∷ es) others a b = (a.0, AreEditsInRows-append rules more es others a.1 b)

-- widened props keep to a node's rows
pub AreNodeProps-widened : (props : PropList) → AreInRows v1_rules props → AreNodeProps (widened props)
AreNodeProps-widened props a =
    let added : AreInRows (drop 16 v2_rules) (start_of (drop 16 v2_rules)) = search rules depth 20 in
    AreInRows-append v1_rules (drop 16 v2_rules) props (start_of (drop 16 v2_rules)) a added

-- a widened edit keeps to a node's rows
pub AreEditsInRows-widened : (edit : EditList) → AreEditsInRows v1_rules edit → AreEditsInRows v2_rules (widened_edit edit)
AreEditsInRows-widened edit a = AreEditsInRows-append v1_rules (drop 16 v2_rules) edit _ a (tt, (tt, (tt, (tt, (tt, (tt, tt))))))
