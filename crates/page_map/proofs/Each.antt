-- What holds of each element of a list that is cut, joined or looked up.
use Rattle.std.proofs.Common.{ℕ, zero, suc, ◌<◌, List, [], ◌∷◌, ◌++◌, length, get_or, take, drop, arith}
use Rattle.std.specs.List.{AllWithin}
use Rattle.page_map.specs.Rising.{Each}

module _ {X : Type 0} (P : X → Type 0) where
  pub each-append : (xs ys : List X) → Each P xs → Each P ys → Each P (xs ++ ys)
  each-append [] ys p q = q
  each-append (x ∷ xs) ys p q = (p.0, each-append xs ys p.1 q)

  pub each_left : (xs ys : List X) → Each P (xs ++ ys) → Each P xs
  each_left [] ys p = tt
  each_left (x ∷ xs) ys p = (p.0, each_left xs ys p.1)

  pub each_right : (xs ys : List X) → Each P (xs ++ ys) → Each P ys
  each_right [] ys p = p
  each_right (x ∷ xs) ys p = each_right xs ys p.1

  pub each_at : (xs : List X) (k : ℕ) (d : X) → Each P xs → k < length xs → P (get_or xs k d)
  each_at [] k d p lt = absurd (omega arith)
  each_at (x ∷ xs) zero d p lt = p.0
  each_at (x ∷ xs) (suc k) d p lt = each_at xs k d p.1 (omega arith)

  pub each_within : (xs : List X) → AllWithin P xs 0 (length xs) → Each P xs
  each_within [] all = tt
  each_within (x ∷ xs) all = (all 0 x (omega arith) (omega arith), each_within xs (λ k d low high. all (suc k) d (omega arith) (omega arith)))

  pub each_taken : (xs : List X) (i : ℕ) → AllWithin P xs 0 i → Each P (take i xs)
  each_taken [] zero all = tt
  each_taken [] (suc i) all = tt
  each_taken (x ∷ xs) zero all = tt
  each_taken (x ∷ xs) (suc i) all = (all 0 x (omega arith) (omega arith), each_taken xs i (λ k d low high. all (suc k) d (omega arith) (omega arith)))

  pub each_dropped : (xs : List X) (i : ℕ) → AllWithin P xs i (length xs) → Each P (drop i xs)
  each_dropped [] zero all = tt
  each_dropped [] (suc i) all = tt
  each_dropped (x ∷ xs) zero all = each_within (x ∷ xs) all
  each_dropped (x ∷ xs) (suc i) all = each_dropped xs i (λ k d low high. all (suc k) d (omega arith) (omega arith))

  pub each_with : (Q : X → Type 0) → ((x : X) → P x → Q x) → (xs : List X) → Each P xs → Each Q xs
  each_with Q gives [] p = tt
  each_with Q gives (x ∷ xs) p = (gives x p.0, each_with Q gives xs p.1)
