-- A search among tags that rise finds a tag where it is one of them.
use Rattle.std.proofs.Common.{◌≡◌, ℕ, zero, suc, ◌<◌, ◌≤◌, List, [], ◌∷◌, length, get_or, true, false, nat_eq, Ok, Err, inl, inr, refl, sym, arith}
use Rattle.std.specs.Prelude.{Result, is_ok}
use Rattle.std.specs.List.{list_any}
use Rattle.std.specs.List.Sorted.{IsBinarySearchResult, IsNonDecreasing}
use Rattle.std.specs.Ordering.{nat_cmp}
use Rattle.std.proofs.lemmas.Bool.{cases_order, eq-eqb, ne_eqb, or_from, or_left, or_right}
use Rattle.std.proofs.lemmas.List.Sorted.{searched}
use Rattle.std.specs.Result.{MatchResult}

-- a number that stands at an index is one of the numbers
any_at : (xs : List ℕ) (x i : ℕ) → i < length xs → get_or xs i 0 ≡ x → list_any (nat_eq x) xs ≡ true
any_at [] x i lt e = absurd (omega arith)
any_at (y ∷ ys) x zero lt e = or_left (nat_eq x y) (list_any (nat_eq x) ys) (eq-eqb x y (sym e))
any_at (y ∷ ys) x (suc i) lt e = or_right (nat_eq x y) (list_any (nat_eq x) ys) (any_at ys x i (omega arith) e)

-- a number that stands at no index is none of them
none_at : (xs : List ℕ) (x : ℕ) → ((k : ℕ) → k < length xs → nat_eq x (get_or xs k 0) ≡ false) → list_any (nat_eq x) xs ≡ false
none_at [] x h = refl
none_at (y ∷ ys) x h = or_from (nat_eq x y) (list_any (nat_eq x) ys) (h 0 (omega arith)) (none_at ys x (λ k lt. h (suc k) (omega arith)))

-- whether a search among numbers that rise finds a number
pub found_where : (xs : List ℕ) (x : ℕ) (r : Result ℕ ℕ) → IsBinarySearchResult (λ y. nat_cmp y x) xs r → IsNonDecreasing xs → is_ok r ≡ list_any (nat_eq x) xs
found_where xs x r h rise = go r (searched xs x r h (λ i j le lt. rise i j 0 le lt))
  where
    apart_at : (i k : ℕ) → k < length xs → x ≡ get_or xs k 0 → ((k : ℕ) → k < i → get_or xs k 0 < x) → ((k : ℕ) → i ≤ k → k < length xs → x < get_or xs k 0) → ⊥
    apart_at i k lt e below above = elim (cases_order k i) [ inl same ↦ omega (arith, above k (omega arith) lt) | inr (inl less) ↦ omega (arith, below k less) | inr (inr more) ↦ omega (arith, above k (omega arith) lt) ]

    go : (r : Result ℕ ℕ) → MatchResult r (λ i. (i < length xs) × (get_or xs i 0 ≡ x)) (λ i. (i ≤ length xs) × ((k : ℕ) → k < i → get_or xs k 0 < x) × ((k : ℕ) → i ≤ k → k < length xs → x < get_or xs k 0)) → is_ok r ≡ list_any (nat_eq x) xs
    go (Ok i) at = sym (any_at xs x i at.0 at.1)
    go (Err i) apart = sym (none_at xs x (λ k lt. ne_eqb x (get_or xs k 0) (λ e. apart_at i k lt e apart.1 apart.2)))
