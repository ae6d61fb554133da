-- Numbers of which each is below the next differ.
use Rattle.std.proofs.Common.{◌≡◌, ℕ, zero, suc, ◌<◌, Bool, true, false, List, [], ◌∷◌, length, get_or, nat_eq, nat_lt, sym, subst, add-one, arith}
use Rattle.std.specs.List.{AllByRecursion, IsAllAdjacentAnswer, IsDistinct}
use Rattle.std.specs.List.Sorted.{IsPermutation}
use Rattle.std.proofs.lemmas.Bool.{ltb-true, ne_eqb}
use Rattle.std.proofs.lemmas.Bool.Decides.{nat_tests}
use Rattle.std.proofs.lemmas.List.Sorted.{IsPermutation-sym}
use Rattle.std.proofs.lemmas.Map.Keys.{IsDistinct-IsPermutation}

-- each number is below the next
abbrev DoRise : List ℕ → Type 0
DoRise xs = (k d : ℕ) → suc k < length xs → get_or xs k d < get_or xs (suc k) d

-- the second may be left out
skipped : (low x : ℕ) (xs : List ℕ) → DoRise (low ∷ x ∷ xs) → DoRise (low ∷ xs)
skipped low x xs up zero d lt = omega (arith, up 0 d (omega arith), up 1 d (omega arith))
skipped low x xs up (suc k) d lt = up (suc (suc k)) d (omega arith)

-- the first differs from all after it
apart_above : (low : ℕ) (xs : List ℕ) → DoRise (low ∷ xs) → AllByRecursion (λ x. nat_eq low x ≡ false) xs
apart_above low [] up = tt
apart_above low (x ∷ xs) up = (ne_eqb low x (λ e. absurd (omega (arith, e, up 0 0 (omega arith)))), apart_above low xs (skipped low x xs up))

-- so all of them differ
rising_differ : (xs : List ℕ) → DoRise xs → IsDistinct nat_eq xs
unfolding IsDistinct
rising_differ [] up = tt
rising_differ (x ∷ xs) up = (apart_above x xs up, rising_differ xs (λ k d lt. up (suc k) d (omega arith)))

-- what a test of neighbours says
pub differ_from_answer : (xs : List ℕ) (answer : Bool) → IsAllAdjacentAnswer (λ x y b. b ≡ nat_lt x y) xs answer → answer ≡ true → IsDistinct nat_eq xs
differ_from_answer xs true all is = rising_differ xs (λ k d lt. subst (λ n. get_or xs k d < get_or xs n d) (add-one k) (below _ _ (all k d (omega arith))))
  where
    below : (x y : ℕ) → true ≡ nat_lt x y → x < y
    below x y is = ltb-true x y (sym is)
differ_from_answer xs false some is = absurd (cc)

-- and a list in another order differs as it does
pub differ_moved : (xs ys : List ℕ) → IsPermutation xs ys → IsDistinct nat_eq ys → IsDistinct nat_eq xs
differ_moved xs ys moved = IsDistinct-IsPermutation nat_eq (λ x y. grind (arith, nat_tests)) ys xs (IsPermutation-sym xs ys moved)
