-- Places whose nodes neither of two walks entered.
use Rattle.std.specs.Prelude.{◌≡◌, Option, IfSome, true}
use Rattle.shadow_frame.specs.declared.Point.{Point}
use Rattle.view_flatten.specs.declared.placing.Placed.{Placed}
use Rattle.view_flatten.specs.Placed.{view_from}

-- where neither node was entered, the views differ at most in where they begin
abbrev pub IsSameButOrigin : Placed → Placed → Type 0
IsSameButOrigin was is = was.is_skipped ≡ true → is.is_skipped ≡ true → (origin : Point) → view_from origin was.spot.tree.fields ≡ view_from origin is.spot.tree.fields

-- the same of a place and the one that its tag had
abbrev pub IsSameAsBefore : Option Placed → Placed → Type 0
IsSameAsBefore was is = IfSome was (λ was. IsSameButOrigin was is)
