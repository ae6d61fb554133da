-- Edits of props: what each row is to become, where it is named.
use Rattle.std.specs.Prelude.{ℕ, ℤ, List, [], ◌∷◌, ◌++◌, Option, Some, None, slice_index_or, slice_set, unwrap_or, replicate}
use Rattle.prop_table.specs.Props.{PropList}
use Rattle.prop_table.specs.Table.{RowRule, IsInRow}

-- for each row nothing where it is unnamed, and else its new number, which may be absent
abbrev pub EditList : Type 0
EditList = List (Option (Option ℤ))

-- what an edit holds for a row
abbrev pub named_at : EditList → ℕ → Option (Option ℤ)
named_at edit row = slice_index_or edit row None

-- named rows from the edit, and all others as they were
abbrev pub merged : PropList → EditList → PropList
merged [] edit = []
merged (value ∷ values) [] = value ∷ values
merged (value ∷ values) (named ∷ edit) = unwrap_or named value ∷ merged values edit

-- props with one row as an edit holds it
abbrev pub with_edit : PropList → ℕ → Option (Option ℤ) → PropList
with_edit props row None = props
with_edit props row (Some value) = slice_set props row value

-- an edit of a row takes what the row takes
abbrev pub IsEditInRow : RowRule → Option (Option ℤ) → Type 0
IsEditInRow rule None = Unit {0}
IsEditInRow rule (Some value) = IsInRow rule value

-- each row that an edit names is to become what the row takes
abbrev pub AreEditsInRows : List RowRule → EditList → Type 0
AreEditsInRows [] [] = Unit {0}
AreEditsInRows [] (named ∷ edit) = ⊥
AreEditsInRows (rule ∷ rules) [] = ⊥
AreEditsInRows (rule ∷ rules) (named ∷ edit) = IsEditInRow rule named × AreEditsInRows rules edit

-- an edit of version 1 rows as an edit of a node's rows: those that version 2 adds stay unnamed
abbrev pub widened_edit : EditList → EditList
widened_edit edit = edit ++ replicate 6 None
