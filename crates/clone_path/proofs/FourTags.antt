-- The tags of the tests differ.
use Rattle.std.proofs.Common.{◌≡◌, ℕ, List, [], ◌∷◌, refl, sym, subst}
use Rattle.std.specs.Prelude.{nat_eq}
use Rattle.std.specs.List.{IsDistinct}

four : IsDistinct nat_eq (1 ∷ 2 ∷ 3 ∷ 4 ∷ [])
unfolding IsDistinct
four = ((refl, (refl, (refl, tt))), ((refl, (refl, tt)), ((refl, tt), (tt, tt))))

pub four_differ : (tags : List ℕ) → tags ≡ 1 ∷ 2 ∷ 3 ∷ 4 ∷ [] → IsDistinct nat_eq tags
four_differ tags e = subst (IsDistinct nat_eq) (sym e) four
