-- When props are the same, row by row.
use Rattle.std.specs.Prelude.{Bool}
use Rattle.std.specs.Ordering.{int_eq}
use Rattle.std.specs.Cmp.Lexicographic.{pointwise}
use Rattle.std.specs.Option.{option_eq}
use Rattle.prop_table.specs.Props.{PropList}

-- the same number in each row
abbrev pub is_same_props : PropList → PropList → Bool
is_same_props a b = pointwise (option_eq int_eq) a b
