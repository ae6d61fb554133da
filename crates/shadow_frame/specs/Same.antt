-- When two places are the same.
use Rattle.std.specs.Prelude.{Bool, ◌&&◌}
use Rattle.std.specs.Ordering.{int_eq}
use Rattle.shadow_frame.specs.declared.Rect.{Rect}
use Rattle.shadow_frame.specs.declared.Point.{Point}
use Rattle.shadow_frame.specs.declared.Size.{Size}

-- the same point
abbrev pub is_same_point : Point → Point → Bool
is_same_point a b = int_eq a.x b.x && int_eq a.y b.y

-- the same size
abbrev pub is_same_size : Size → Size → Bool
is_same_size a b = int_eq a.width b.width && int_eq a.height b.height

-- the same frame
abbrev pub is_same_frame : Rect → Rect → Bool
is_same_frame a b = is_same_point a.origin b.origin && is_same_size a.size b.size
