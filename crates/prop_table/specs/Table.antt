-- The tables of props: what each row is called, its range, and what it begins with.
use Rattle.std.specs.Prelude.{ℕ, ℤ, pos, negsuc, ◌≤ℤ◌, ◌++◌, List, [], ◌∷◌, Option, Some, None, IsNone, map, codes}
use Rattle.prop_table.specs.Props.{PropList}

-- one row of a table
pub record RowRule : Type 0 where
  pub name : List ℕ
  pub low : ℤ
  pub high : ℤ
  pub start : Option ℤ

abbrev pub row_rule : List ℕ → ℤ → ℤ → Option ℤ → RowRule
row_rule name low high start = record { name = name; low = low; high = high; start = start }

-- the rows of script version 1
abbrev pub v1_rules : List RowRule
v1_rules =
    row_rule (codes "left") (negsuc 999999) (pos 1000000) None ∷
    row_rule (codes "top") (negsuc 999999) (pos 1000000) None ∷
    row_rule (codes "right") (negsuc 999999) (pos 1000000) None ∷
    row_rule (codes "bottom") (negsuc 999999) (pos 1000000) None ∷
    row_rule (codes "width") (pos 0) (pos 1000000) None ∷
    row_rule (codes "height") (pos 0) (pos 1000000) None ∷
    row_rule (codes "background") (pos 0) (pos 4294967295) (Some (pos 0)) ∷
    row_rule (codes "border_color") (pos 0) (pos 4294967295) (Some (pos 0)) ∷
    row_rule (codes "opacity") (pos 0) (pos 100) (Some (pos 100)) ∷
    row_rule (codes "z") (negsuc 999) (pos 1000) None ∷
    row_rule (codes "clip") (pos 0) (pos 1) (Some (pos 0)) ∷
    row_rule (codes "collapsable") (pos 0) (pos 1) (Some (pos 1)) ∷
    row_rule (codes "pointer") (pos 0) (pos 3) (Some (pos 0)) ∷
    row_rule (codes "border") (pos 0) (pos 100) (Some (pos 0)) ∷
    row_rule (codes "test_mark") (pos 0) (pos 1) (Some (pos 0)) ∷
    row_rule (codes "native_mark") (pos 0) (pos 1) (Some (pos 0)) ∷
    []

-- the rows of script version 2: those of version 1, and six more
abbrev pub v2_rules : List RowRule
v2_rules =
    v1_rules ++
    row_rule (codes "hidden") (pos 0) (pos 1) (Some (pos 0)) ∷
    row_rule (codes "accessible") (pos 0) (pos 1) (Some (pos 0)) ∷
    row_rule (codes "elevation") (pos 0) (pos 24) (Some (pos 0)) ∷
    row_rule (codes "shadow") (pos 0) (pos 4294967295) (Some (pos 0)) ∷
    row_rule (codes "outline") (pos 0) (pos 100) (Some (pos 0)) ∷
    row_rule (codes "outline_color") (pos 0) (pos 4294967295) (Some (pos 0)) ∷
    []

-- a row's number is in its range, and absent only where the row may begin absent
abbrev pub IsInRow : RowRule → Option ℤ → Type 0
IsInRow rule None = IsNone rule.start
IsInRow rule (Some value) = (rule.low ≤ℤ value) × (value ≤ℤ rule.high)

-- each row of a table has a number in its range
abbrev pub AreInRows : List RowRule → PropList → Type 0
AreInRows [] [] = Unit {0}
AreInRows [] (value ∷ values) = ⊥
AreInRows (rule ∷ rules) [] = ⊥
AreInRows (rule ∷ rules) (value ∷ values) = IsInRow rule value × AreInRows rules values

-- a node's props are in the ranges of the node's table
abbrev pub AreNodeProps : PropList → Type 0
AreNodeProps props = AreInRows v2_rules props

-- what each row begins with
abbrev pub start_of : List RowRule → PropList
start_of rules = map (λ rule. rule.start) rules
