-- An actor is read back from its name, as each has a name of its own.
use Rattle.std.proofs.Common.{◌≡◌, ℕ, ◌<◌, List, [], Bool, true, false, IsTrue, nat_lt, length, map, ◌≤◌, slice_index_or, bytes_eq, arith, refl, ap, sym, ◌∙◌, subst, ltb-true, ltb-false}
use Rattle.std.specs.List.{AllByRecursion, IsDistinct}
use Rattle.std.proofs.lemmas.List.{length-map}
use Rattle.std.proofs.lemmas.List.Elements.{All-from_recursion}
use Rattle.std.proofs.lemmas.Map.Made.{AllPairs-from_IsDistinct}
use Rattle.std.proofs.lemmas.Slice.Eq.{bytes_eq-Decides}
use Rattle.tree_revision.specs.Sound.{is_name}
use Rattle.run_report.specs.Journal.{PlainActorPart}
use Rattle.run_report.specs.Text.{name_at}
use Rattle.run_report.proofs.LineWords.{IsWord}
use Rattle.run_report.proofs.Words.{name_is_word}

-- names, each of its own
module _ (names : List (List ℕ)) (formed : AllByRecursion (λ name. IsTrue (is_name name)) names) (differ : IsDistinct bytes_eq names) where
  -- each is a word
  place_is_word : (i : ℕ) → i < length names → IsWord (slice_index_or names i [])
  place_is_word i below = name_is_word (slice_index_or names i []) (All-from_recursion (λ name. IsTrue (is_name name)) names formed i [] below)

  -- no name stands before another that is the same
  not_before : (i j : ℕ) → i < j → j < length names → slice_index_or names i [] ≡ slice_index_or names j [] → ⊥
  not_before i j before below e = AllPairs-from_IsDistinct bytes_eq-Decides names differ i j [] before below e

  -- two places of one name are one, by cases on their order
  place_cases : (i j : ℕ) (a b : Bool) → nat_lt i j ≡ a → nat_lt j i ≡ b → i < length names → j < length names → slice_index_or names i [] ≡ slice_index_or names j [] → i ≡ j
  place_cases i j true b is_a is_b p q e = absurd (not_before i j (ltb-true i j is_a) q e)
  place_cases i j false true is_a is_b p q e = absurd (not_before j i (ltb-true j i is_b) p (sym e))
  place_cases i j false false is_a is_b p q e =
      let above : j ≤ i = ltb-false i j is_a in
      let below : i ≤ j = ltb-false j i is_b in omega arith

  -- two actors of one name are one
  place_is : (i j : ℕ) → i < length names → j < length names → slice_index_or names i [] ≡ slice_index_or names j [] → i ≡ j
  place_is i j p q e = place_cases i j (nat_lt i j) (nat_lt j i) refl refl p q e

  -- as many actors as names
  within : (actors : List PlainActorPart) → map (λ part. part.name) actors ≡ names → (i : ℕ) → i < length actors → i < length names
  within actors same i below = omega (arith, ap length same, length-map actors (λ (part : PlainActorPart). part.name), below)

  -- the name of an actor is a word
  pub name_at_is_word : (actors : List PlainActorPart) → map (λ part. part.name) actors ≡ names → (i : ℕ) → i < length actors → IsWord (name_at actors i)
  name_at_is_word actors same i below = subst (λ list. IsWord (slice_index_or list i [])) (sym same) (place_is_word i (within actors same i below))

  -- two actors of one name are one, in two journals of these names
  pub actor_is : (xs ys : List PlainActorPart) → map (λ part. part.name) xs ≡ names → map (λ part. part.name) ys ≡ names → (i j : ℕ) → i < length xs → j < length ys
      → name_at xs i ≡ name_at ys j → i ≡ j
  actor_is xs ys xs_are ys_are i j p q e =
      place_is i j (within xs xs_are i p) (within ys ys_are j q)
      (sym (ap (λ list. slice_index_or list i []) xs_are) ∙ e ∙ ap (λ list. slice_index_or list j []) ys_are)
