-- What a stable sort by two numbers leaves where the first is the same: the elements ordered by the second.
use Rattle.std.proofs.Common.{◌≡◌, ℕ, suc, ◌+◌, ◌≤◌, ◌<◌, Bool, true, false, cond, not, ◌&&◌, List, [], ◌∷◌, length, get_or, filter, nat_eq, nat_cmp, is_lt, refl, sym, ap, ◌∙◌, subst, arith, inl, inr}
use Rattle.std.specs.Prelude.{ℤ, ◌≤ℤ◌, Some, IsTrue, int_lt}
use Rattle.std.specs.List.{IsAllAdjacentAnswer}
use Rattle.std.specs.Ordering.{int_cmp, ordering_then, partial_le, partial_ordering_then}
use Rattle.std.specs.Cmp.{IsStrictWeakOrder}
use Rattle.std.specs.List.Sorted.{ties, IsSortedBy, IsStableBy, IsNonDecreasingBy}
use Rattle.std.proofs.lemmas.Bool.{cond-true, cond-false, cases_Bool, cases_order, eqb-true}
use Rattle.std.proofs.lemmas.Bool.Decides.{nat_tests}
use Rattle.std.proofs.lemmas.Int.{ints}
use Rattle.std.proofs.lemmas.Cmp.{then_total, on_total, nat_cmp_total, int_cmp_total}
use Rattle.std.proofs.lemmas.List.Sorted.{sorted_far, ranks_by}
use Rattle.view_flatten.specs.Placing.{put_by, ordered_by}

-- whether two numbers are the same
abbrev alike : ℤ → ℤ → Bool
alike a b = not (int_lt a b) && not (int_lt b a)

not_below : (a b : ℤ) → int_lt a b ≡ false → b ≤ℤ a
not_below a b h = grind (arith, ints)

below : (a b : ℤ) → int_lt a b ≡ true → a ≤ℤ b
below a b h = grind (arith, ints)

alike_is : (a b : ℤ) → alike a b ≡ true → a ≡ b
alike_is a b h = grind (arith, ints)

alike_itself : (a : ℤ) → alike a a ≡ true
alike_itself a = grind (arith, ints)

apart : (n a b : ℤ) → int_lt a b ≡ true → alike n a ≡ true → alike n b ≡ false
apart n a b h k = grind (arith, ints)

-- by two numbers, the first deciding
abbrev comes_before : ℕ → ℤ → ℕ → ℤ → Bool
comes_before p a q b = is_lt (ordering_then (nat_cmp p q) (int_cmp a b))

second_decides : (p : ℕ) (a b : ℤ) → comes_before p a p b ≡ int_lt a b
second_decides p a b = grind (arith, nat_tests)

first_decides : (p q : ℕ) (a b : ℤ) → comes_before p a q b ≡ false → q ≤ p
first_decides p q a b h = grind (arith, nat_tests)

-- whether a pair comes no later than another
abbrev comes_no_later : ℕ × ℤ → ℕ × ℤ → Bool
comes_no_later = partial_le (λ x y. partial_ordering_then (Some (nat_cmp x.0 y.0)) (Some (int_cmp x.1 y.1)))

not_before : (p q : ℕ) (a b : ℤ) → true ≡ comes_no_later (p, a) (q, b) → comes_before q b p a ≡ false
not_before p q a b h =
    elim (cases_order p q) [
      | inl same ↦ grind (arith, nat_tests, ints)
      | inr (inl less) ↦ grind (arith, nat_tests, ints)
      | inr (inr more) ↦ grind (arith, nat_tests, ints)
    ]

le_itself : (a : ℤ) → a ≤ℤ a
le_itself a = omega (arith, ints)

level_of : (a b : ℤ) → b ≤ℤ a → a ≤ℤ b → alike a b ≡ true
level_of a b h k = grind (arith, ints)

-- tests in turn keep what both keep
pub filter_twice : {X : Type 0} (s t : X → Bool) (xs : List X) → filter s (filter t xs) ≡ filter (λ x. t x && s x) xs
filter_twice s t [] = refl
filter_twice s t (x ∷ xs) =
    elim (cases_Bool (t x)) [
      | inl h ↦
          ap (filter s) (cond-true (t x) (x ∷ filter t xs) (filter t xs) h) ∙ ap (λ l. cond (s x) (x ∷ l) l) (filter_twice s t xs)
          ∙ ap (λ b. cond (b && s x) (x ∷ filter (λ x. t x && s x) xs) (filter (λ x. t x && s x) xs)) (sym h)
      | inr h ↦
          ap (filter s) (cond-false (t x) (x ∷ filter t xs) (filter t xs) h) ∙ filter_twice s t xs
          ∙ ap (λ b. cond (b && s x) (x ∷ filter (λ x. t x && s x) xs) (filter (λ x. t x && s x) xs)) (sym h)
    ]

module _ {X : Type 0} (first : X → ℕ) (second : X → ℤ) where
  abbrev goes_before : X → X → Bool
  goes_before x y = comes_before (first x) (second x) (first y) (second y)

  ranks : IsStrictWeakOrder goes_before
  ranks = ranks_by (then_total (on_total (λ (k : ℕ × ℤ). k.0) nat_cmp_total) (on_total (λ (k : ℕ × ℤ). k.1) int_cmp_total)) (λ x. (first x, second x))

  -- two elements tie where both numbers are the same
  tie_is : (x y : X) → ties goes_before x y ≡ (nat_eq (first y) (first x) && alike (second x) (second y))
  tie_is x y =
      elim (cases_order (first x) (first y)) [
        | inl same ↦ grind (arith, nat_tests)
        | inr (inl less) ↦ grind (arith, nat_tests)
        | inr (inr more) ↦ grind (arith, nat_tests)
      ]

  -- the elements with that first number
  abbrev those_at : ℕ → List X → List X
  those_at p xs = filter (λ x. nat_eq (first x) p) xs

  -- no element of a list is below that number
  abbrev AreAtLeast : ℤ → List X → Type 0
  AreAtLeast n [] = Unit {0}
  AreAtLeast n (y ∷ ys) = (n ≤ℤ second y) × AreAtLeast n ys

  -- elements with that first number, by the second
  abbrev Rises : ℕ → List X → Type 0
  Rises p [] = Unit {0}
  Rises p (y ∷ ys) = (first y ≡ p) × AreAtLeast (second y) ys × Rises p ys

  at_least-le : (n m : ℤ) (ys : List X) → n ≤ℤ m → AreAtLeast m ys → AreAtLeast n ys
  at_least-le n m [] le h = tt
  at_least-le n m (y ∷ ys) le h = let low = h.0 in (grind (arith, ints), at_least-le n m ys le h.1)

  -- an element put among others
  at_least_put : (n : ℤ) (x : X) (ys : List X) → n ≤ℤ second x → AreAtLeast n ys → AreAtLeast n (put_by second x ys)
  at_least_put n x [] le h = (le, tt)
  at_least_put n x (y ∷ ys) le h =
      elim (int_lt (second y) (second x)) as (λ b. AreAtLeast n (cond b (y ∷ put_by second x ys) (x ∷ y ∷ ys))) [
        | true ↦ (h.0, at_least_put n x ys le h.1)
        | false ↦ (le, h)
      ]

  rises_put : (p : ℕ) (x : X) (ys : List X) → first x ≡ p → Rises p ys → Rises p (put_by second x ys)
  rises_put p x [] e h = (e, tt, tt)
  rises_put p x (y ∷ ys) e h =
      elim (cases_Bool (int_lt (second y) (second x))) as (λ c. Rises p (cond (int_lt (second y) (second x)) (y ∷ put_by second x ys) (x ∷ y ∷ ys))) [
        | inl less ↦ rw less (h.0, at_least_put (second y) x ys (below (second y) (second x) less) h.1, rises_put p x ys e h.2)
        | inr not_less ↦
            let le = not_below (second y) (second x) not_less in
            rw not_less (e, (le, at_least-le (second x) (second y) ys le h.1), h)
      ]

  -- elements in order rise
  rises_ordered : (p : ℕ) (xs : List X) → Rises p (ordered_by second (those_at p xs))
  rises_ordered p [] = tt
  rises_ordered p (x ∷ xs) = go (nat_eq (first x) p) refl (rises_ordered p xs)
    where
      go : (b : Bool) → nat_eq (first x) p ≡ b → Rises p (ordered_by second (those_at p xs)) → Rises p (ordered_by second (cond b (x ∷ those_at p xs) (those_at p xs)))
      go true e others = rises_put p x (ordered_by second (those_at p xs)) (eqb-true (first x) p e) others
      go false e others = others

  -- no later element goes before an earlier one
  abbrev NoneBefore : X → List X → Type 0
  NoneBefore x [] = Unit {0}
  NoneBefore x (y ∷ ys) = (goes_before y x ≡ false) × NoneBefore x ys

  abbrev IsInOrder : List X → Type 0
  IsInOrder [] = Unit {0}
  IsInOrder (x ∷ xs) = NoneBefore x xs × IsInOrder xs

  none_before : (x : X) (xs : List X) → ((k : ℕ) → k < length xs → goes_before (get_or xs k x) x ≡ false) → NoneBefore x xs
  none_before x [] h = tt
  none_before x (y ∷ ys) h = (h 0 (omega arith), none_before x ys (λ k p. h (suc k) (omega arith)))

  in_order : (xs : List X) → ((i j : ℕ) (d : X) → i ≤ j → j < length xs → goes_before (get_or xs j d) (get_or xs i d) ≡ false) → IsInOrder xs
  in_order [] h = tt
  in_order (x ∷ xs) h = (none_before x xs (λ k p. h 0 (suc k) x (omega arith) (omega arith)), in_order xs (λ i j d p q. h (suc i) (suc j) d (omega arith) (omega arith)))

  -- of elements in order, those with the same first number rise
  at_least_kept : (x : X) (xs : List X) → NoneBefore x xs → AreAtLeast (second x) (those_at (first x) xs)
  at_least_kept x [] h = tt
  at_least_kept x (y ∷ ys) h = go (nat_eq (first y) (first x)) refl (at_least_kept x ys h.1)
    where
      go : (b : Bool) → nat_eq (first y) (first x) ≡ b → AreAtLeast (second x) (those_at (first x) ys) → AreAtLeast (second x) (cond b (y ∷ those_at (first x) ys) (those_at (first x) ys))
      go true e others =
          let same : first y ≡ first x = eqb-true (first y) (first x) e in
          let level : comes_before (first x) (second y) (first x) (second x) ≡ false = subst (λ p. comes_before p (second y) (first x) (second x) ≡ false) same h.0 in
          (not_below (second y) (second x) (sym (second_decides (first x) (second y) (second x)) ∙ level), others)
      go false e others = others

  rises_kept : (p : ℕ) (xs : List X) → IsInOrder xs → Rises p (those_at p xs)
  rises_kept p [] h = tt
  rises_kept p (x ∷ xs) h = go (nat_eq (first x) p) refl (rises_kept p xs h.1)
    where
      go : (b : Bool) → nat_eq (first x) p ≡ b → Rises p (those_at p xs) → Rises p (cond b (x ∷ those_at p xs) (those_at p xs))
      go true e others =
          let same : first x ≡ p = eqb-true (first x) p e in
          (same, subst (λ q. AreAtLeast (second x) (those_at q xs)) same (at_least_kept x xs h.0), others)
      go false e others = others

  -- the elements with that second number
  abbrev alikes : ℤ → List X → List X
  alikes n xs = filter (λ x. alike n (second x)) xs

  alikes-kept : (n : ℤ) (y : X) (ys : List X) → alike n (second y) ≡ true → alikes n (y ∷ ys) ≡ y ∷ alikes n ys
  alikes-kept n y ys h = cond-true _ _ _ h

  alikes-dropped : (n : ℤ) (y : X) (ys : List X) → alike n (second y) ≡ false → alikes n (y ∷ ys) ≡ alikes n ys
  alikes-dropped n y ys h = cond-false _ _ _ h

  -- an element that is put among others stays before those with its number
  alikes_put : (n : ℤ) (x : X) (ys : List X) → alikes n (put_by second x ys) ≡ alikes n (x ∷ ys)
  alikes_put n x [] = refl
  alikes_put n x (y ∷ ys) =
      elim (cases_Bool (int_lt (second y) (second x))) [
        | inr stays ↦ ap (alikes n) (cond-false (int_lt (second y) (second x)) (y ∷ put_by second x ys) (x ∷ y ∷ ys) stays)
        | inl past ↦
            ap (alikes n) (cond-true (int_lt (second y) (second x)) (y ∷ put_by second x ys) (x ∷ y ∷ ys) past)
            ∙ elim (cases_Bool (alike n (second y))) [
              | inr without ↦
                  alikes-dropped n y (put_by second x ys) without ∙ alikes_put n x ys
                  ∙ ap (λ l. cond (alike n (second x)) (x ∷ l) l) (sym (alikes-dropped n y ys without))
              | inl with ↦
                  let only = apart n (second y) (second x) past with in
                  alikes-kept n y (put_by second x ys) with ∙ ap (λ l. y ∷ l) (alikes_put n x ys ∙ alikes-dropped n x ys only)
                  ∙ sym (alikes-dropped n x (y ∷ ys) only ∙ alikes-kept n y ys with)
            ]
      ]

  alikes_ordered : (n : ℤ) (xs : List X) → alikes n (ordered_by second xs) ≡ alikes n xs
  alikes_ordered n [] = refl
  alikes_ordered n (x ∷ xs) =
      alikes_put n x (ordered_by second xs) ∙ ap (λ l. cond (alike n (second x)) (x ∷ l) l) (alikes_ordered n xs)

  -- a number that occurs among rising elements is no less than the least
  least_found : (n m : ℤ) (ys : List X) (w : X) (ws : List X) → AreAtLeast n ys → alikes m ys ≡ w ∷ ws → n ≤ℤ m
  least_found n m [] w ws h e = cc
  least_found n m (y ∷ ys) w ws h e =
      elim (cases_Bool (alike m (second y))) [
        | inl with ↦ let same = alike_is m (second y) with in let low = h.0 in grind (arith, ints)
        | inr without ↦ least_found n m ys w ws h.1 (sym (alikes-dropped m y ys without) ∙ e)
      ]

  abbrev AreSameAt : ℕ → List X → List X → Type 0
  AreSameAt p ys zs = (x : X) → first x ≡ p → alikes (second x) ys ≡ alikes (second x) zs

  -- rising elements are the same where those of each number are
  same_rising : (p : ℕ) (ys zs : List X) → Rises p ys → Rises p zs → AreSameAt p ys zs → ys ≡ zs
  same_rising p [] [] left right same = refl
  same_rising p [] (z ∷ zs) left right same =
      let clash = same z right.0 ∙ alikes-kept (second z) z zs (alike_itself (second z)) in cc
  same_rising p (y ∷ ys) [] left right same =
      let clash = sym (same y left.0) ∙ alikes-kept (second y) y ys (alike_itself (second y)) in cc
  same_rising p (y ∷ ys) (z ∷ zs) left right same =
      let at_y = alikes-kept (second y) y ys (alike_itself (second y)) in
      let at_z = alikes-kept (second z) z zs (alike_itself (second z)) in
      let up = least_found (second z) (second y) (z ∷ zs) y _ (le_itself (second z), right.1) (sym (same y left.0) ∙ at_y) in
      let down = least_found (second y) (second z) (y ∷ ys) z _ (le_itself (second y), left.1) (same z right.0 ∙ at_z) in
      let level : alike (second y) (second z) ≡ true = level_of (second y) (second z) up down in
      let heads = sym at_y ∙ same y left.0 ∙ alikes-kept (second y) z zs level in
      let head : y ≡ z = cc in
      let tails : AreSameAt p ys zs =
      λ x e. elim (cases_Bool (alike (second x) (second y))) [
        | inl with ↦
            let both = sym (alikes-kept (second x) y ys with) ∙ same x e ∙ alikes-kept (second x) z zs (ap (λ w. alike (second x) (second w)) (sym head) ∙ with) in cc
        | inr without ↦
            sym (alikes-dropped (second x) y ys without) ∙ same x e ∙ alikes-dropped (second x) z zs (ap (λ w. alike (second x) (second w)) (sym head) ∙ without)
      ] in
      ap (λ w. w ∷ ys) head ∙ ap (λ l. z ∷ l) (same_rising p ys zs left.2 right.2 tails)

  -- those of a first number and a second one are what ties with an element of these
  alikes_at : (x : X) (p : ℕ) (xs : List X) → first x ≡ p → alikes (second x) (those_at p xs) ≡ filter (ties goes_before x) xs
  alikes_at x p xs e =
      filter_twice (λ y. alike (second x) (second y)) (λ y. nat_eq (first y) p) xs
      ∙ (λ i. filter (λ y. nat_eq (first y) (sym e i) && alike (second x) (second y)) xs)
      ∙ (λ i. filter (λ y. sym (tie_is x y) i) xs)

  -- a stable sort by both numbers: those of each first number are in order by the second
  pub ordered_from_sort : (xs ys : List X) → IsSortedBy goes_before ys → IsStableBy goes_before xs ys → (p : ℕ) → those_at p ys ≡ ordered_by second (those_at p xs)
  ordered_from_sort xs ys sorted stable p =
      same_rising p (those_at p ys) (ordered_by second (those_at p xs))
      (rises_kept p ys (in_order ys (sorted_far goes_before ranks ys sorted)))
      (rises_ordered p xs)
      (λ x e. alikes_at x p ys e ∙ stable x ∙ sym (alikes_at x p xs e) ∙ sym (alikes_ordered (second x) (those_at p xs)))

  -- and the first number does not fall
  pub first_from_sort : (ys : List X) → IsSortedBy goes_before ys → IsNonDecreasingBy first ys
  first_from_sort ys sorted i j d le lt =
      first_decides (first (get_or ys j d)) (first (get_or ys i d)) (second (get_or ys j d)) (second (get_or ys i d)) (sorted_far goes_before ranks ys sorted i j d le lt)

  -- elements of which each comes no later than the next are sorted
  pub sorted_from_adjacent : (xs : List X) (r : Bool) → IsAllAdjacentAnswer (λ x y b. b ≡ comes_no_later (first x, second x) (first y, second y)) xs r → IsTrue r
      → IsSortedBy goes_before xs
  sorted_from_adjacent xs true h is = λ k d low lt. not_before (first (get_or xs k d)) (first (get_or xs (k + 1) d)) (second (get_or xs k d)) (second (get_or xs (k + 1) d)) (h k d lt)
  sorted_from_adjacent xs false h is = let clash : ⊥ = cc in absurd clash

  -- sorted elements are in order as they stand
  pub ordered_as_sorted : (xs : List X) → IsSortedBy goes_before xs → (p : ℕ) → those_at p xs ≡ ordered_by second (those_at p xs)
  ordered_as_sorted xs sorted = ordered_from_sort xs xs sorted (λ x. refl)
