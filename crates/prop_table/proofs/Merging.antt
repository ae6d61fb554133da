-- What a merge holds, row by row.
use Rattle.std.proofs.Common.{◌≡◌, ℕ, zero, suc, ◌+◌, ◌<◌, ℤ, List, [], ◌∷◌, ◌++◌, length, Option, Some, None, unwrap_or, slice_set, take, refl, ap, sym, add-one, length-take-le, arith}
use Rattle.std.proofs.Math.Seq.{take-suc}
use Rattle.prop_table.specs.Props.{PropList}
use Rattle.prop_table.specs.Table.{RowRule, IsInRow, AreInRows}
use Rattle.prop_table.specs.Rules.{rule_at}
use Rattle.prop_table.specs.Edits.{EditList, named_at, merged, with_edit, IsEditInRow, AreEditsInRows}

-- an edit that ends before the first row names none
pub merged-empty : (props : PropList) → merged props [] ≡ props
merged-empty [] = refl
merged-empty (value ∷ values) = refl

-- one more row of an edit
pub merged-more : (props : PropList) (edit : EditList) (named : Option (Option ℤ)) → merged props (edit ++ named ∷ []) ≡ with_edit (merged props edit) (length edit) named
merged-more [] edit None = refl
merged-more [] edit (Some value) = refl
merged-more (v ∷ vs) [] None = ap (λ rest. v ∷ rest) (merged-empty vs)
merged-more (v ∷ vs) [] (Some value) = ap (λ rest. value ∷ rest) (merged-empty vs)
merged-more (v ∷ vs) (e ∷ es) None = ap (λ rest. unwrap_or e v ∷ rest) (merged-more vs es None)
merged-more (v ∷ vs) (e ∷ es) (Some value) = ap (λ rest. unwrap_or e v ∷ rest) (merged-more vs es (Some value))

-- one more row of an edit that is read
pub merged-step : (props : PropList) (edit : EditList) (row : ℕ) (named : Option (Option ℤ)) → row < length edit → named ≡ named_at edit row
    → with_edit (merged props (take row edit)) row named ≡ merged props (take (row + 1) edit)
merged-step props edit row named h e =
    let count : length (take row edit) ≡ row = length-take-le row edit (omega arith) in
    let more : take (row + 1) edit ≡ take row edit ++ named_at edit row ∷ [] = rw add-one (take-suc edit row None h) in
    let read = merged-more props (take row edit) (named_at edit row) in
    rw (more, e) (sym (rw count at read))

IsInRow-named : (rule : RowRule) (value : Option ℤ) (named : Option (Option ℤ)) → IsInRow rule value → IsEditInRow rule named → IsInRow rule (unwrap_or named value)
IsInRow-named rule value None i e = i
IsInRow-named rule value (Some new) i e = e

-- a merge keeps to the rows
pub AreInRows-merged : (rules : List RowRule) (props : PropList) (edit : EditList) → AreInRows rules props → AreEditsInRows rules edit → AreInRows rules (merged props edit)
AreInRows-merged [] [] edit a e = tt
AreInRows-merged [] (v ∷ vs) edit a e = absurd a
AreInRows-merged (rule ∷ rules) [] edit a e = absurd a
AreInRows-merged (rule ∷ rules) (v ∷ vs) [] a e = absurd e
AreInRows-merged (rule ∷ rules) (v ∷ vs) (named ∷ edit) a e = (IsInRow-named rule v named a.0 e.0, AreInRows-merged rules vs edit a.1 e.1)

-- an edit that names one more row keeps to the rows
pub AreEditsInRows-set : (rules : List RowRule) (edit : EditList) (row : ℕ) (value : Option ℤ) → AreEditsInRows rules edit → IsInRow (rule_at rules row) value
    → AreEditsInRows rules (slice_set edit row (Some value))
AreEditsInRows-set [] [] row value a i = a
AreEditsInRows-set [] (e ∷ es) row value a i = absurd a
AreEditsInRows-set (rule ∷ rules) [] row value a i = a
AreEditsInRows-set (rule ∷ rules) (e ∷ es) zero value a i = (i, a.1)
AreEditsInRows-set (rule ∷ rules) (e ∷ es) (suc row) value a i = (a.0, AreEditsInRows-set rules es row value a.1 i)
