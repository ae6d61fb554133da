-- When two cells are the same.
use Rattle.std.specs.Prelude.{Bool, ◌&&◌, nat_eq}
use Rattle.shadow_frame.specs.Same.{is_same_point}
use Rattle.native_state.specs.declared.StateCell.{StateCell}

-- the same count and the same point
abbrev pub is_same_cell : StateCell → StateCell → Bool
is_same_cell a b = nat_eq a.count b.count && is_same_point a.point b.point
