-- Tags that differ in a whole differ in each of its parts, and none is in two parts.
use Rattle.std.proofs.Common.{◌≡◌, ℕ, List, [], ◌∷◌, ◌++◌, true, false, nat_eq, refl, sym, ◌∙◌, subst, inl, inr}
use Rattle.std.specs.List.{IsDistinct, list_any}
use Rattle.std.proofs.lemmas.Bool.{both_ways, eqb-false, eqb-true, false_from_ne_true, ne_eqb, or_cases, or_left, or_parts, or_right}
use Rattle.std.proofs.lemmas.List.Folds.{list_any-append}
use Rattle.std.proofs.lemmas.Map.Keys.{IsDistinct-head, IsDistinct-tail, IsDistinct-cons}
use Rattle.view_flatten.proofs.Distinct.{distinct_none, each_in_first, each_in_second, not_among}

-- two tags differ either way round
pub apart_flipped : (a b : ℕ) → nat_eq a b ≡ false → nat_eq b a ≡ false
apart_flipped a b h = ne_eqb b a (λ e. eqb-false a b h (sym e))

-- a tag that is not there is none of those that are there
pub apart_from_one : (a b : ℕ) (xs : List ℕ) → list_any (nat_eq a) xs ≡ false → list_any (nat_eq b) xs ≡ true → nat_eq a b ≡ false
apart_from_one a b xs h k = ne_eqb a b (λ e. both_ways (list_any (nat_eq a) xs) h (subst (λ x. list_any (nat_eq x) xs ≡ true) (sym e) k))

-- a tag that is not in the whole is in neither part
pub in_neither : (x : ℕ) (xs ys : List ℕ) → list_any (nat_eq x) (xs ++ ys) ≡ false → (list_any (nat_eq x) xs ≡ false) × (list_any (nat_eq x) ys ≡ false)
in_neither x xs ys h = or_parts (list_any (nat_eq x) xs) (list_any (nat_eq x) ys) (sym (list_any-append (nat_eq x) xs ys) ∙ h)

-- a tag of the first part is in the whole
pub in_whole_first : (x : ℕ) (xs ys : List ℕ) → list_any (nat_eq x) xs ≡ true → list_any (nat_eq x) (xs ++ ys) ≡ true
in_whole_first x xs ys h = list_any-append (nat_eq x) xs ys ∙ or_left (list_any (nat_eq x) xs) (list_any (nat_eq x) ys) h

-- and so is one of the second
pub in_whole_second : (x : ℕ) (xs ys : List ℕ) → list_any (nat_eq x) ys ≡ true → list_any (nat_eq x) (xs ++ ys) ≡ true
in_whole_second x xs ys h = list_any-append (nat_eq x) xs ys ∙ or_right (list_any (nat_eq x) xs) (list_any (nat_eq x) ys) h

-- the tags of the first part differ
pub distinct_first : (xs ys : List ℕ) → IsDistinct nat_eq (xs ++ ys) → IsDistinct nat_eq xs
distinct_first [] ys d = distinct_none
distinct_first (x ∷ xs) ys d =
    IsDistinct-cons nat_eq x xs (each_in_first (λ y. nat_eq x y ≡ false) xs ys (IsDistinct-head nat_eq x (xs ++ ys) d))
    (distinct_first xs ys (IsDistinct-tail nat_eq x (xs ++ ys) d))

-- and those of the second
pub distinct_second : (xs ys : List ℕ) → IsDistinct nat_eq (xs ++ ys) → IsDistinct nat_eq ys
distinct_second [] ys d = d
distinct_second (x ∷ xs) ys d = distinct_second xs ys (IsDistinct-tail nat_eq x (xs ++ ys) d)

-- a tag of the first part is not in the second
pub not_in_second : (x : ℕ) (xs ys : List ℕ) → IsDistinct nat_eq (xs ++ ys) → list_any (nat_eq x) xs ≡ true → list_any (nat_eq x) ys ≡ false
not_in_second x [] ys d h = absurd (both_ways false refl h)
not_in_second x (y ∷ xs) ys d h =
    elim (or_cases (nat_eq x y) (list_any (nat_eq x) xs) h) [
      | inl own ↦
          subst (λ t. list_any (nat_eq t) ys ≡ false) (sym (eqb-true x y own))
          (not_among y ys (each_in_second (λ z. nat_eq y z ≡ false) xs ys (IsDistinct-head nat_eq y (xs ++ ys) d)))
      | inr later ↦ not_in_second x xs ys (IsDistinct-tail nat_eq y (xs ++ ys) d) later
    ]

-- and a tag of the second is not in the first
pub not_in_first : (x : ℕ) (xs ys : List ℕ) → IsDistinct nat_eq (xs ++ ys) → list_any (nat_eq x) ys ≡ true → list_any (nat_eq x) xs ≡ false
not_in_first x xs ys d h = false_from_ne_true (list_any (nat_eq x) xs) (λ e. both_ways (list_any (nat_eq x) ys) (not_in_second x xs ys d e) h)
