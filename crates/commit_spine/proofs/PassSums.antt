-- Sums of a number over the passes of a spine.
use Rattle.std.proofs.Common.{◌≡◌, ◌≢◌, ℕ, zero, suc, ◌+◌, ◌<◌, ◌≤◌, List, [], ◌∷◌, length, set, get_or, sum_by, arith, refl, ap, sym, ◌∙◌, suc-ne-zero}
use Rattle.std.proofs.lemmas.List.Sums.{sum_by-cons, sum_by-set, get_or-le-sum_by}
use mathlib.Core.Option as maybe
use lib.ListN.{get_elem?}

module _ {A : Type 0} where
  pub seat_is_below : (l : List A) (seat : ℕ) (a : A) → get_elem? l seat ≡ maybe.some a → seat < length l
  seat_is_below [] seat a at = absurd (maybe.some-ne-none a (sym at))
  seat_is_below (x ∷ l) zero a at = omega arith
  seat_is_below (x ∷ l) (suc seat) a at = omega (arith, seat_is_below l seat a at)

  is_read : (l : List A) (seat : ℕ) (a : A) → get_elem? l seat ≡ maybe.some a → get_or l seat a ≡ a
  is_read [] seat a at = refl
  is_read (x ∷ l) zero a at = maybe.some-injective x a at
  is_read (x ∷ l) (suc seat) a at = is_read l seat a at

  -- some pass has each seat
  pub seat_is_there : (l : List A) (seat : ℕ) → seat < length l → (a : A) × (get_elem? l seat ≡ maybe.some a)
  seat_is_there [] seat below = absurd (omega arith)
  seat_is_there (x ∷ l) zero below = (x, refl)
  seat_is_there (x ∷ l) (suc seat) below = seat_is_there l seat (omega arith)

module _ {A : Type 0} (f : A → ℕ) where
  pub sum_after_set : (l : List A) (seat : ℕ) (old new : A) → get_elem? l seat ≡ maybe.some old → sum_by f (set l seat new) + f old ≡ sum_by f l + f new
  sum_after_set l seat old new at =
      let read : f (get_or l seat old) ≡ f old = ap f (is_read l seat old at) in
      omega (arith, sum_by-set f l seat new old (seat_is_below l seat old at), read)

  pub one_is_within : (l : List A) (seat : ℕ) (a : A) → get_elem? l seat ≡ maybe.some a → f a ≤ sum_by f l
  one_is_within l seat a at =
      let read : f (get_or l seat a) ≡ f a = ap f (is_read l seat a at) in
      omega (arith, get_or-le-sum_by f l seat a (seat_is_below l seat a at), read)

  pub sum_of_none : (l : List A) → ((seat : ℕ) (a : A) → get_elem? l seat ≡ maybe.some a → f a ≡ 0) → sum_by f l ≡ 0
  sum_of_none [] none = refl
  sum_of_none (x ∷ l) none =
      let rest = sum_of_none l (λ seat a at. none (suc seat) a at) in
      sum_by-cons f x l ∙ omega (arith, none 0 x refl, rest)

  -- where one pass has all, each other has none
  pub others_have_none : (l : List A) (seat : ℕ) (a : A) → get_elem? l seat ≡ maybe.some a → f a ≡ sum_by f l
      → (other : ℕ) (b : A) → other ≢ seat → get_elem? l other ≡ maybe.some b → f b ≡ 0
  others_have_none [] seat a at all other b differs there = absurd (maybe.some-ne-none a (sym at))
  others_have_none (x ∷ l) zero a at all zero b differs there = absurd (differs refl)
  others_have_none (x ∷ l) zero a at all (suc other) b differs there =
      let first : f x ≡ f a = ap f (maybe.some-injective x a at) in
      omega (arith, sum_by-cons f x l, one_is_within l other b there)
  others_have_none (x ∷ l) (suc seat) a at all zero b differs there =
      let first : f x ≡ f b = ap f (maybe.some-injective x b there) in
      omega (arith, sum_by-cons f x l, one_is_within l seat a at)
  others_have_none (x ∷ l) (suc seat) a at all (suc other) b differs there =
      let rest : f a ≡ sum_by f l = omega (arith, sum_by-cons f x l, one_is_within l seat a at) in
      others_have_none l seat a at rest other b (λ same. differs (ap suc same)) there

  -- where each other pass has none, one has all
  pub one_has_all : (l : List A) (seat : ℕ) (a : A) → get_elem? l seat ≡ maybe.some a
      → ((other : ℕ) (b : A) → other ≢ seat → get_elem? l other ≡ maybe.some b → f b ≡ 0) → sum_by f l ≡ f a
  one_has_all [] seat a at none = absurd (maybe.some-ne-none a (sym at))
  one_has_all (x ∷ l) zero a at none =
      let first : f x ≡ f a = ap f (maybe.some-injective x a at) in
      let rest = sum_of_none l (λ other b there. none (suc other) b (suc-ne-zero other) there) in
      sum_by-cons f x l ∙ omega (arith, rest)
  one_has_all (x ∷ l) (suc seat) a at none =
      let first : f x ≡ 0 = none 0 x (λ same. suc-ne-zero seat (sym same)) refl in
      let rest = one_has_all l seat a at (λ other b differs there. none (suc other) b (λ same. differs (omega arith)) there) in
      sum_by-cons f x l ∙ omega (arith, rest)

  -- a join of two passes whose number is the sum leaves the sum as it was
  pub sum_after_join : (l : List A) (seat other : ℕ) (a b both spent : A) → get_elem? l seat ≡ maybe.some a
      → get_elem? (set l seat both) other ≡ maybe.some b → f both ≡ f a + f b → f spent ≡ 0
      → sum_by f (set (set l seat both) other spent) ≡ sum_by f l
  sum_after_join l seat other a b both spent at there adds none =
      omega (arith, sum_after_set l seat a both at, sum_after_set (set l seat both) other b spent there)
