-- The families of a surface: a finite map from tag to family.
use Rattle.std.specs.Prelude.{ℕ, unwrap_or}
use Rattle.std.specs.Option.{option_map}
use Rattle.std.specs.Ordering.{nat_cmp}
use Rattle.std.specs.FinMap.{FinMap, get}
use Rattle.native_state.specs.declared.Family.{Family}
use Rattle.native_state.specs.declared.StateCell.{StateCell}
use Rattle.native_state.specs.State.{start_cell}

-- the cell of a tag's family; a tag without a family has one that never changed
abbrev pub cell_in : FinMap nat_cmp Family → ℕ → StateCell
cell_in families tag = unwrap_or (option_map (λ family. family.cell) (get families tag)) start_cell
