-- Of elements that ascend by a number, those with one number stand side by side.
use Rattle.std.proofs.Common.{◌≡◌, ℕ, zero, suc, ◌+◌, ◌-◌, ◌≤◌, ◌<◌, Bool, true, false, List, [], ◌∷◌, length, get_or, take, drop, filter, nat_eq, ltb, leb, refl, ap, sym, ◌∙◌, arith, inl, inr}
use Rattle.std.specs.List.Sorted.{IsPartitionPoint}
use Rattle.std.proofs.lemmas.Bool.{cond-true, cond-false, eq-eqb, ne_eqb, ltb-true, ltb-false, leb-true, leb-false, cases_lt}

-- of nothing there is no part
no_part : {X : Type 0} (n start : ℕ) → take n (drop {A = X} start []) ≡ []
no_part zero zero = refl
no_part zero (suc start) = refl
no_part (suc n) zero = refl
no_part (suc n) (suc start) = refl

-- where a test holds at so many elements from one on and at no other, these are the elements that pass it
part_that_passes : {X : Type 0} (test : X → Bool) (xs : List X) (start n : ℕ)
    → ((k : ℕ) (d : X) → k < start → k < length xs → test (get_or xs k d) ≡ false)
    → ((k : ℕ) (d : X) → start ≤ k → k < start + n → k < length xs → test (get_or xs k d) ≡ true)
    → ((k : ℕ) (d : X) → start + n ≤ k → k < length xs → test (get_or xs k d) ≡ false)
    → take n (drop start xs) ≡ filter test xs
part_that_passes test [] start n low at high = no_part n start
part_that_passes test (x ∷ xs) (suc start) n low at high =
    part_that_passes test xs start n (λ k d h w. low (suc k) d (omega arith) (omega arith)) (λ k d h g w. at (suc k) d (omega arith) (omega arith) (omega arith)) (λ k d h w. high (suc k) d (omega arith) (omega arith))
    ∙ sym (cond-false _ _ _ (low 0 x (omega arith) (omega arith)))
part_that_passes test (x ∷ xs) zero (suc n) low at high =
    ap (λ l. x ∷ l) (part_that_passes test xs zero n (λ k d h w. absurd (omega arith)) (λ k d h g w. at (suc k) d (omega arith) (omega arith) (omega arith)) (λ k d h w. high (suc k) d (omega arith) (omega arith)))
    ∙ sym (cond-true _ _ _ (at 0 x (omega arith) (omega arith) (omega arith)))
part_that_passes test (x ∷ xs) zero zero low at high =
    part_that_passes test xs zero zero (λ k d h w. absurd (omega arith)) (λ k d h g w. absurd (omega arith)) (λ k d h w. high (suc k) d (omega arith) (omega arith))
    ∙ sym (cond-false _ _ _ (high 0 x (omega arith) (omega arith)))

module _ {X : Type 0} (number : X → ℕ) (n : ℕ) where
  -- where the elements with that number start, and where they end
  abbrev StartsAt : List X → ℕ → Type 0
  StartsAt xs i = IsPartitionPoint (λ x. ltb (number x) n ≡ true) (λ x. ltb (number x) n ≡ false) xs i

  abbrev EndsAt : List X → ℕ → Type 0
  EndsAt xs i = IsPartitionPoint (λ x. leb (number x) n ≡ true) (λ x. leb (number x) n ≡ false) xs i

  -- they end no sooner than they start
  pub start_le_end : (xs : List X) (start end : ℕ) → start ≤ length xs → StartsAt xs start → EndsAt xs end → start ≤ end
  start_le_end [] start end within first last = omega (arith, within)
  start_le_end (x ∷ xs) start end within first last =
      elim (cases_lt end start) [
        | inl before ↦
            let low = ltb-true (number (get_or (x ∷ xs) end x)) n (first.0 end x (omega arith) before) in
            let high = leb-false (number (get_or (x ∷ xs) end x)) n (last.1 end x (omega arith) (omega (arith, within))) in
            absurd (omega (arith, low, high))
        | inr after ↦ after
      ]

  -- they are those with that number
  pub those_between : (xs : List X) (start end : ℕ) → start ≤ end → StartsAt xs start → EndsAt xs end → take (end - start) (drop start xs) ≡ filter (λ x. nat_eq (number x) n) xs
  those_between xs start end ordered first last =
      part_that_passes (λ x. nat_eq (number x) n) xs start (end - start)
      (λ k d h w. let low = ltb-true (number (get_or xs k d)) n (first.0 k d (omega arith) h) in ne_eqb (number (get_or xs k d)) n (λ e. omega arith))
      (λ k d h g w.
      let low = ltb-false (number (get_or xs k d)) n (first.1 k d h w) in
      let high = leb-true (number (get_or xs k d)) n (last.0 k d (omega arith) (omega arith)) in
      eq-eqb (number (get_or xs k d)) n (omega arith))
      (λ k d h w. let high = leb-false (number (get_or xs k d)) n (last.1 k d (omega arith) w) in ne_eqb (number (get_or xs k d)) n (λ e. omega arith))
