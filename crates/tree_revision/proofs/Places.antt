-- Places of nodes, one after another.
use Rattle.std.proofs.Common.{◌≡◌, ℕ, Bool, true, false, cond, List, [], ◌∷◌, ◌++◌, Some, None, nat_eq, refl, ap, ◌∙◌}
use Rattle.std.specs.Option.{option_map, option_or}
use Rattle.std.specs.Ordering.{nat_cmp, eq_by_cmp}
use Rattle.std.specs.FinMap.{find}
use Rattle.tree_revision.specs.Unchanged.{seen_by, seen_place}
use Rattle.tree_revision.specs.declared.stamping.Place.{Place}
use Rattle.tree_revision.proofs.Counts.{ties-nat_eq}

-- one more place at the end is seen where its tag has none yet
pub seen_pushed : (places : List (ℕ × Place)) (tag : ℕ) (new : Place) (looked : ℕ)
    → seen_by (places ++ (tag, new) ∷ []) looked ≡ option_or (seen_by places looked) (cond (nat_eq tag looked) (Some (seen_place new)) None)
seen_pushed [] tag new looked = ap (λ b. option_map seen_place (cond b (Some new) None)) (ties-nat_eq looked tag) ∙ by (nat_eq tag looked)
  where
    by : (b : Bool) → option_map seen_place (cond b (Some new) None) ≡ cond b (Some (seen_place new)) None
    by true = refl
    by false = refl
seen_pushed (first ∷ places) tag new looked = by (eq_by_cmp nat_cmp looked first.0) (seen_pushed places tag new looked)
  where
    by : (b : Bool) → seen_by (places ++ (tag, new) ∷ []) looked ≡ option_or (seen_by places looked) (cond (nat_eq tag looked) (Some (seen_place new)) None)
        → option_map seen_place (cond b (Some first.1) (find nat_cmp looked (places ++ (tag, new) ∷ [])))
        ≡ option_or (option_map seen_place (cond b (Some first.1) (find nat_cmp looked places))) (cond (nat_eq tag looked) (Some (seen_place new)) None)
    by true rest = refl
    by false rest = rest
