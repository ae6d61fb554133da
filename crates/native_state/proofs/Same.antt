-- Two cells are the same exactly where they are equal.
use Rattle.std.proofs.Common.{◌≡◌, Decides, ap}
use Rattle.std.proofs.lemmas.Bool.Decides.{Decides-eqb, Decides-and}
use Rattle.shadow_frame.proofs.Same.{by_parts, same_points}
use Rattle.native_state.specs.declared.StateCell.{StateCell}
use Rattle.native_state.specs.Same.{is_same_cell}

pub same_cells : (a b : StateCell) → Decides (is_same_cell a b) (a ≡ b)
same_cells a b =
    by_parts _ (Decides-and _ _ (Decides-eqb a.count b.count) (same_points a.point b.point)) (λ h i. record { count = h.0 i; point = h.1 i })
    (λ e. (ap (λ p. p.count) e, ap (λ p. p.point) e))
