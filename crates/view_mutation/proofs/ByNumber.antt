-- Values with numbers: what a stable sort leaves, and what a look-up finds.
use Rattle.std.proofs.Common.{◌≡◌, ◌≢◌, ℕ, suc, ◌<◌, ◌≤◌, Bool, true, false, cond, not, ◌&&◌, List, [], ◌∷◌, ◌++◌, Option, Some, None, nat_eq, nat_cmp, is_lt, take, drop, take-append-drop, refl, sym, ap, subst, ◌∙◌, arith, inl, inr}
use Rattle.std.specs.Prelude.{filter}
use Rattle.std.specs.List.{IsAllAdjacentAnswer}
use Rattle.std.specs.List.Sorted.{IsNonDecreasingBy, IsStableBy, ties}
use Rattle.std.specs.Ordering.{is_le, is_some_and, eq_by_cmp}
use Rattle.std.specs.FinMap.{find}
use Rattle.std.proofs.lemmas.Bool.{cases_order}
use Rattle.std.proofs.lemmas.Bool.Decides.{nat_tests}
use Rattle.std.proofs.lemmas.List.Sorted.{IsNonDecreasingBy-drop, IsNonDecreasingBy-from_all_adjacent}
use Rattle.page_map.specs.Rising.{AreAbove, AreBelow, AreFrom}
use Rattle.page_map.proofs.Each.{each_within}
use Rattle.page_map.proofs.Rising.{find_after, find_none}
use Rattle.view_mutation.specs.Pairs.{pairs_at}

-- a look-up tests for equal numbers
pub same_number : (q n : ℕ) → eq_by_cmp nat_cmp q n ≡ nat_eq n q
same_number q n =
    elim (cases_order q n) [
      | inl same ↦ grind (arith, nat_tests)
      | inr (inl less) ↦ grind (arith, nat_tests)
      | inr (inr more) ↦ grind (arith, nat_tests)
    ]

-- a sort takes equal numbers for ties
tie_is : (q n : ℕ) → nat_eq n q ≡ (not (is_lt (nat_cmp q n)) && not (is_lt (nat_cmp n q)))
tie_is q n =
    elim (cases_order q n) [
      | inl same ↦ grind (arith, nat_tests)
      | inr (inl less) ↦ grind (arith, nat_tests)
      | inr (inr more) ↦ grind (arith, nat_tests)
    ]

-- a test of two neighbours' numbers
not_above : (x y : ℕ) → true ≡ is_some_and is_le (Some (nat_cmp x y)) → x ≤ y
not_above x y h =
    elim (cases_order x y) [
      | inl same ↦ omega arith
      | inr (inl less) ↦ omega arith
      | inr (inr more) ↦ grind (arith, nat_tests)
    ]

module _ {V : Type 0} where
  -- where no number is above the next one, they do not fall
  pub in_order_from_answer : (es : List (ℕ × V)) (answer : Bool) → IsAllAdjacentAnswer (λ x y b. b ≡ is_some_and is_le (Some (nat_cmp x.0 y.0))) es answer → answer ≡ true → IsNonDecreasingBy (λ e. e.0) es
  in_order_from_answer es true all is = IsNonDecreasingBy-from_all_adjacent (λ e. e.0) es (λ k d lt. not_above _ _ (all k d lt))
  in_order_from_answer es false some is = absurd (cc)

  -- one number is below the other
  abbrev goes_before : ℕ × V → ℕ × V → Bool
  goes_before x y = is_lt (nat_cmp x.0 y.0)

  -- a stable sort leaves those of one number as they stand
  pub kept_by_sort : (xs ys : List (ℕ × V)) → IsStableBy goes_before xs ys → (q : ℕ) → pairs_at ys q ≡ pairs_at xs q
  kept_by_sort xs ys stable q = by (pairs_at ys q) (pairs_at xs q) refl refl
    where
      tied : (v : V) (es : List (ℕ × V)) → pairs_at es q ≡ filter (ties goes_before (q, v)) es
      tied v es = λ i. filter (λ e. tie_is q e.0 i) es

      kept : V → pairs_at ys q ≡ pairs_at xs q
      kept v = tied v ys ∙ stable (q, v) ∙ sym (tied v xs)

      by : (one other : List (ℕ × V)) → pairs_at ys q ≡ one → pairs_at xs q ≡ other → pairs_at ys q ≡ pairs_at xs q
      by [] [] e f = e ∙ sym f
      by (y ∷ _) other e f = kept y.1
      by [] (x ∷ _) e f = kept x.1

  -- the first value of a list
  abbrev first_value : List (ℕ × V) → Option V
  first_value [] = None
  first_value (e ∷ es) = Some e.1

  -- the first of a list to which an element may be added in front
  first_of_both : (b : Bool) (e : ℕ × V) (es : List (ℕ × V)) → cond b (Some e.1) (first_value es) ≡ first_value (cond b (e ∷ es) es)
  first_of_both true e es = refl
  first_of_both false e es = refl

  -- what is found is the first of those of that number
  find_first : (q : ℕ) (es : List (ℕ × V)) → find nat_cmp q es ≡ first_value (pairs_at es q)
  find_first q [] = refl
  find_first q (e ∷ es) =
      let left = pairs_at es q in
      ap (cond (eq_by_cmp nat_cmp q e.0) (Some e.1)) (find_first q es)
      ∙ first_of_both (eq_by_cmp nat_cmp q e.0) e left
      ∙ ap (λ b. first_value (cond b (e ∷ left) left)) (same_number q e.0)

  -- so it goes by those of that number alone
  pub find_kept : (xs ys : List (ℕ × V)) (q : ℕ) → pairs_at ys q ≡ pairs_at xs q → find nat_cmp q ys ≡ find nat_cmp q xs
  find_kept xs ys q h = find_first q ys ∙ ap first_value h ∙ sym (find_first q xs)

  -- a number that the first of those from it on has not is not found
  pub find_passed : (q : ℕ) (es : List (ℕ × V)) (i : ℕ) (e : ℕ × V) (others : List (ℕ × V)) → IsNonDecreasingBy (λ e. e.0) es → AreBelow q (take i es) → AreFrom q (drop i es) → drop i es ≡ e ∷ others → e.0 ≢ q → find nat_cmp q es ≡ None
  find_passed q es i e others rises below from is differs =
      let first : q ≤ e.0 = (subst (AreFrom q) is from).0 in
      let left : IsNonDecreasingBy (λ e. e.0) (e ∷ others) = subst (IsNonDecreasingBy (λ e. e.0)) is (IsNonDecreasingBy-drop (λ e. e.0) i es rises) in
      let later : AreAbove q others = each_within (λ o. q < o.0) others (λ k d low high. omega (arith, left 0 (suc k) d (omega arith) (omega arith))) in
      ap (find nat_cmp q) (sym (take-append-drop i es) ∙ ap (λ rest. take i es ++ rest) is)
      ∙ find_after q (take i es) (e ∷ others) below
      ∙ find_none q (e ∷ others) (omega arith, later)
