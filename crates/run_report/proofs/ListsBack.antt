-- A list of lines is read back where what follows it begins with another byte.
use Rattle.std.proofs.Common.{◌≡◌, ℕ, List, [], ◌∷◌, ◌++◌, Bool, true, false, slice_index_or, refl, ap, sym, ◌∙◌, append_assoc}
use Rattle.std.specs.List.{AllByRecursion, flat_map}

-- the first byte of a text
abbrev pub first : List ℕ → ℕ
first text = slice_index_or text 0 0

-- items are read back, where what follows one begins with a byte that may
abbrev pub IsReadBack : {A : Type 0} → (A → List ℕ) → (A → Type 0) → (ℕ → Bool) → Type 0
IsReadBack {A} text fits may_follow = (x y : A) (s t : List ℕ) → fits x → fits y → may_follow (first s) ≡ true → may_follow (first t) ≡ true → text x ++ s ≡ text y ++ t → (x ≡ y) × (s ≡ t)

-- items that begin with a byte that may follow one
module _ {A : Type 0} (text : A → List ℕ) (fits : A → Type 0) (begins may_follow : ℕ → Bool) (back : IsReadBack text fits may_follow)
    (text_begins : (x : A) (s : List ℕ) → begins (first (text x ++ s)) ≡ true) (begins_may : (byte : ℕ) → begins byte ≡ true → may_follow byte ≡ true) where
  -- an item's first byte stands first in all that follows
  text_first : (x : A) (more s : List ℕ) → begins (first ((text x ++ more) ++ s)) ≡ true
  text_first x more s = ap (λ whole. begins (first whole)) (append_assoc (text x) more s) ∙ text_begins x (more ++ s)

  -- what follows an item in a list may follow it
  follows : (xs : List A) (s : List ℕ) → may_follow (first s) ≡ true → may_follow (first (flat_map text xs ++ s)) ≡ true
  follows [] s p = p
  follows (x ∷ xs) s p = begins_may (first (flat_map text (x ∷ xs) ++ s)) (text_first x (flat_map text xs) s)

  -- no list goes on where another ends
  ended : (x : A) (xs : List A) (s t : List ℕ) → begins (first t) ≡ false → flat_map text (x ∷ xs) ++ s ≡ t → ⊥
  ended x xs s t p e =
      let here : begins (first t) ≡ true = ap (λ whole. begins (first whole)) (sym e) ∙ text_first x (flat_map text xs) s in
      let clash : true ≡ false = sym here ∙ p in cc

  -- a list is read back
  pub each_off : (xs ys : List A) (s t : List ℕ) → AllByRecursion fits xs → AllByRecursion fits ys → begins (first s) ≡ false → begins (first t) ≡ false
      → may_follow (first s) ≡ true → may_follow (first t) ≡ true → flat_map text xs ++ s ≡ flat_map text ys ++ t → (xs ≡ ys) × (s ≡ t)
  each_off [] [] s t p q bs bt ms mt e = (refl, e)
  each_off [] (y ∷ ys) s t p q bs bt ms mt e = absurd (ended y ys t s bs (sym e))
  each_off (x ∷ xs) [] s t p q bs bt ms mt e = absurd (ended x xs s t bt e)
  each_off (x ∷ xs) (y ∷ ys) s t p q bs bt ms mt e =
      let one = back x y (flat_map text xs ++ s) (flat_map text ys ++ t) p.0 q.0 (follows xs s ms) (follows ys t mt)
      (sym (append_assoc (text x) (flat_map text xs) s) ∙ e ∙ append_assoc (text y) (flat_map text ys) t) in
      let rest = each_off xs ys s t p.1 q.1 bs bt ms mt one.1 in
      let x_is : x ≡ y = one.0 in
      let xs_is : xs ≡ ys = rest.0 in (cc, rest.1)
