-- Two lists of which each two items at one place agree.
use Rattle.std.proofs.Common.{◌≡◌, ℕ, zero, suc, List, [], ◌∷◌, ◌++◌, length, map, slice_get, slice_set, option_map, Some, arith, refl, ap, sym, ◌∙◌, subst, inl, inr}
use Rattle.std.specs.List.{AllByRecursion, AllZip}
use Rattle.std.proofs.lemmas.Bool.{cases_eq}
use Rattle.std.proofs.lemmas.Option.{none-some, same_Some, slice_get-map}
use Rattle.run_report.proofs.Lists.{slice_get-set_same, slice_get-set_other}

-- something holds of each two items that stand at one place of two lists
abbrev pub Each : {A B : Type 0} → (ℕ → A → B → Type 0) → List A → List B → Type 0
Each {A} {B} P us vs = (i : ℕ) (a : A) (b : B) → slice_get us i ≡ Some a → slice_get vs i ≡ Some b → P i a b

-- one item is set, and the others see that
pub each_set : {A B : Type 0} (P Q : ℕ → A → B → Type 0) (us : List A) (vs : List B) (i : ℕ) (b c : B) → slice_get vs i ≡ Some b → Each P us vs
    → ((j : ℕ) (x : A) (y : B) → (j ≡ i → ⊥) → slice_get us j ≡ Some x → P j x y → Q j x y)
    → ((x : A) → slice_get us i ≡ Some x → P i x b → Q i x c)
    → Each Q us (slice_set vs i c)
each_set P Q us vs i b c at all other own j x y hx hy =
    elim (cases_eq j i) [
      | inl e ↦
          let hx' : slice_get us i ≡ Some x = subst (λ k. slice_get us k ≡ Some x) e hx in
          let hy' : slice_get (slice_set vs i c) i ≡ Some y = subst (λ k. slice_get (slice_set vs i c) k ≡ Some y) e hy in
          let is : c ≡ y = same_Some c y (sym (slice_get-set_same vs i c b at) ∙ hy') in
          subst (λ k. Q k x y) (sym e) (subst (λ z. Q i x z) is (own x hx' (all i x b hx' at)))
      | inr n ↦ other j x y n hx (all j x y hx (sym (slice_get-set_other vs i j c n) ∙ hy))
    ]

-- what holds of each item and what it begins as
pub each_begun : {A B : Type 0} (P : ℕ → A → B → Type 0) (f : A → B) (xs : List A) → ((i : ℕ) (x : A) → P i x (f x)) → Each P xs (map f xs)
each_begun P f xs k i x y hx hy =
    subst (P i x) (same_Some (f x) y (sym (slice_get-map f xs i ∙ ap (option_map f) hx) ∙ hy)) (k i x)

-- so of all of two lists
pub all_zip_begun : {A B : Type 0} (R : A → B → Type 0) (f : A → B) (xs : List A) → ((x : A) → R x (f x)) → AllZip R xs (map f xs)
all_zip_begun R f [] k = tt
all_zip_begun R f (x ∷ xs) k = (k x, all_zip_begun R f xs k)

-- two lists of which each two items agree, and one item more of each
pub all_zip_push : {A B : Type 0} (R : A → B → Type 0) (xs : List A) (ys : List B) (x : A) (y : B) → AllZip R xs ys → R x y → AllZip R (xs ++ x ∷ []) (ys ++ y ∷ [])
all_zip_push R [] [] x y h r = (r, tt)
all_zip_push R [] (z ∷ ys) x y h r = absurd h
all_zip_push R (w ∷ xs) [] x y h r = absurd h
all_zip_push R (w ∷ xs) (z ∷ ys) x y h r = (h.0, all_zip_push R xs ys x y h.1 r)

-- lists of which each two items agree have one length
pub all_zip_length : {A B : Type 0} (R : A → B → Type 0) (xs : List A) (ys : List B) → AllZip R xs ys → length ys ≡ length xs
all_zip_length R [] [] h = refl
all_zip_length R [] (y ∷ ys) h = absurd h
all_zip_length R (x ∷ xs) [] h = absurd h
all_zip_length R (x ∷ xs) (y ∷ ys) h = ap suc (all_zip_length R xs ys h.1)

-- and each two items at one place agree
pub all_zip_at : {A B : Type 0} (R : A → B → Type 0) (xs : List A) (ys : List B) (i : ℕ) (x : A) (y : B) → AllZip R xs ys
    → slice_get xs i ≡ Some x → slice_get ys i ≡ Some y → R x y
all_zip_at R [] ys i x y h s t = absurd (none-some x s)
all_zip_at R (z ∷ xs) [] i x y h s t = absurd h
all_zip_at R (z ∷ xs) (w ∷ ys) zero x y h s t = subst (λ a. R a y) (same_Some z x s) (subst (λ b. R z b) (same_Some w y t) h.0)
all_zip_at R (z ∷ xs) (w ∷ ys) (suc i) x y h s t = all_zip_at R xs ys i x y h.1 s t

-- what holds of each two items at one place, of two lists of one length
pub all_zip_each : {A B : Type 0} (R : A → B → Type 0) (xs : List A) (ys : List B) → length ys ≡ length xs
    → ((i : ℕ) (x : A) (y : B) → slice_get xs i ≡ Some x → slice_get ys i ≡ Some y → R x y) → AllZip R xs ys
all_zip_each R [] [] e k = tt
all_zip_each R [] (y ∷ ys) e k = absurd (omega (arith, e))
all_zip_each R (x ∷ xs) [] e k = absurd (omega (arith, e))
all_zip_each R (x ∷ xs) (y ∷ ys) e k = (k 0 x y refl refl, all_zip_each R xs ys (omega (arith, e)) (λ i a b s t. k (suc i) a b s t))

-- what each two items give of what the second becomes
pub all_zip_become : {A B C : Type 0} (R : A → B → Type 0) (Q : B → Type 0) (S : A → C → Type 0) (f : B → C) → ((a : A) (b : B) → R a b → Q b → S a (f b))
    → (xs : List A) (ys : List B) → AllZip R xs ys → AllByRecursion Q ys → AllZip S xs (map f ys)
all_zip_become R Q S f k [] [] h q = tt
all_zip_become R Q S f k [] (y ∷ ys) h q = absurd h
all_zip_become R Q S f k (x ∷ xs) [] h q = absurd h
all_zip_become R Q S f k (x ∷ xs) (y ∷ ys) h q = (k x y h.0 q.0, all_zip_become R Q S f k xs ys h.1 q.1)

-- one thing that each two items share
pub same_maps : {A B C : Type 0} (f : A → C) (g : B → C) (xs : List A) (ys : List B) → AllZip (λ x y. g y ≡ f x) xs ys → map g ys ≡ map f xs
same_maps f g [] [] h = refl
same_maps f g [] (y ∷ ys) h = absurd h
same_maps f g (x ∷ xs) [] h = absurd h
same_maps f g (x ∷ xs) (y ∷ ys) h = λ i. h.0 i ∷ same_maps f g xs ys h.1 i
