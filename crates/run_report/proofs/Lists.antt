-- Lists: what stands at a place, numbered items, numbers in a range.
use Rattle.std.proofs.Common.{All, ◌≡◌, inl, inr, ℕ, zero, suc, ◌+◌, ◌-◌, ◌≤◌, ◌<◌, Bool, true, false, cond, List, [], ◌∷◌, ◌++◌, length, map, filter, count_by, slice_get, slice_set, find, Some, arith, refl, ap, sym, ◌∙◌, subst, append-nil}
use Rattle.std.specs.List.{AllByRecursion, flat_map, enumerate_from, range_with_len}
use Rattle.std.proofs.lemmas.Bool.{cases_Bool, both_ways}
use Rattle.std.proofs.lemmas.Option.{none-some, same_Some, slice_get_within, get_or_from_slice_get}
use Rattle.std.proofs.lemmas.List.{flat_map_more}
use Rattle.std.proofs.lemmas.List.Sums.{sum_by-cons, sum_by-append, sum_by_push}

-- what stands at a place that was set
pub slice_get-set_same : {A : Type 0} (xs : List A) (i : ℕ) (y x : A) → slice_get xs i ≡ Some x → slice_get (slice_set xs i y) i ≡ Some y
slice_get-set_same [] i y x e = absurd (none-some x e)
slice_get-set_same (z ∷ xs) zero y x e = refl
slice_get-set_same (z ∷ xs) (suc i) y x e = slice_get-set_same xs i y x e

-- and at another place
pub slice_get-set_other : {A : Type 0} (xs : List A) (i j : ℕ) (y : A) → (j ≡ i → ⊥) → slice_get (slice_set xs i y) j ≡ slice_get xs j
slice_get-set_other [] i j y d = refl
slice_get-set_other (z ∷ xs) zero zero y d = absurd (d refl)
slice_get-set_other (z ∷ xs) zero (suc j) y d = refl
slice_get-set_other (z ∷ xs) (suc i) zero y d = refl
slice_get-set_other (z ∷ xs) (suc i) (suc j) y d = slice_get-set_other xs i j y (λ e. d (ap suc e))

-- what stands in the first part stands in the whole
pub slice_get-append_left : {A : Type 0} (xs ys : List A) (i : ℕ) (x : A) → slice_get xs i ≡ Some x → slice_get (xs ++ ys) i ≡ Some x
slice_get-append_left [] ys i x e = absurd (none-some x e)
slice_get-append_left (z ∷ xs) ys zero x e = e
slice_get-append_left (z ∷ xs) ys (suc i) x e = slice_get-append_left xs ys i x e

-- what stands directly after the first part
pub slice_get_at : {A : Type 0} (xs : List A) (y : A) (ys : List A) → slice_get (xs ++ y ∷ ys) (length xs) ≡ Some y
slice_get_at [] y ys = refl
slice_get_at (x ∷ xs) y ys = slice_get_at xs y ys

-- of numbered items, one more
pub enumerate_from-push : {A : Type 0} (n : ℕ) (xs : List A) (x : A) → enumerate_from n (xs ++ x ∷ []) ≡ enumerate_from n xs ++ (n + length xs, x) ∷ []
enumerate_from-push n [] x = ap (λ m. (m, x) ∷ []) (omega arith)
enumerate_from-push n (y ∷ xs) x =
    ap (λ l. (n, y) ∷ l) (enumerate_from-push (n + 1) xs x ∙ ap (λ m. enumerate_from (n + 1) xs ++ (m, x) ∷ []) (omega arith))

-- what one more item gives stands at the end
pub flat_map_push : {A B : Type 0} (f : A → List B) (xs : List A) (x : A) → flat_map f (xs ++ x ∷ []) ≡ flat_map f xs ++ f x
flat_map_push f xs x = sym (flat_map_more f [] xs x)

-- what numbered items give
module _ {A B : Type 0} (f : ℕ × A → List B) where
  -- an item that gives what the one before it gave changes nothing
  pub numbered_same : (n : ℕ) (xs : List A) (i m : ℕ) (x y : A) → m ≡ n + i → slice_get xs i ≡ Some x → f (m, y) ≡ f (m, x)
      → flat_map f (enumerate_from n (slice_set xs i y)) ≡ flat_map f (enumerate_from n xs)
  numbered_same n [] i m x y h at same = refl
  numbered_same n (z ∷ xs) zero m x y h at same =
      let k : m ≡ n = omega (arith, h) in
      ap (λ l. l ++ flat_map f (enumerate_from (n + 1) xs))
      (subst (λ j. f (j, y) ≡ f (j, z)) k (subst (λ w. f (m, y) ≡ f (m, w)) (sym (same_Some z x at)) same))
  numbered_same n (z ∷ xs) (suc i) m x y h at same =
      ap (λ l. f (n, z) ++ l) (numbered_same (n + 1) xs i m x y (omega (arith, h)) at same)

  -- items of which none gives anything
  pub numbered_none : (n : ℕ) (xs : List A) → ((j m : ℕ) (x : A) → m ≡ n + j → slice_get xs j ≡ Some x → f (m, x) ≡ [])
      → flat_map f (enumerate_from n xs) ≡ []
  numbered_none n [] none = refl
  numbered_none n (z ∷ xs) none =
      ap (λ l. l ++ flat_map f (enumerate_from (n + 1) xs)) (none 0 n z (omega arith) refl)
      ∙ numbered_none (n + 1) xs (λ j m x h at. none (suc j) m x (omega (arith, h)) at)

  -- items of which one alone gives something
  pub numbered_lone : (n : ℕ) (xs : List A) (i m : ℕ) (x : A) → m ≡ n + i → slice_get xs i ≡ Some x
      → ((j k : ℕ) (y : A) → (j ≡ i → ⊥) → k ≡ n + j → slice_get xs j ≡ Some y → f (k, y) ≡ [])
      → flat_map f (enumerate_from n xs) ≡ f (m, x)
  numbered_lone n [] i m x h at others = absurd (none-some x at)
  numbered_lone n (z ∷ xs) zero m x h at others =
      let k : n ≡ m = omega (arith, h) in
      ap (λ l. f (n, z) ++ l) (numbered_none (n + 1) xs (λ j j' y g t. others (suc j) j' y (λ e. omega (arith, e)) (omega (arith, g)) t))
      ∙ append-nil (f (n, z)) ∙ ap (λ w. f (n, w)) (same_Some z x at) ∙ ap (λ j. f (j, x)) k
  numbered_lone n (z ∷ xs) (suc i) m x h at others =
      ap (λ l. l ++ flat_map f (enumerate_from (n + 1) xs)) (others 0 n z (λ e. omega (arith, e)) (omega arith) refl)
      ∙ numbered_lone (n + 1) xs i m x (omega (arith, h)) at (λ j k y d g t. others (suc j) k y (λ e. d (omega (arith, e))) (omega (arith, g)) t)

-- the numbers of a range, one more
pub range_push : (a m : ℕ) → range_with_len a (m + 1) ≡ range_with_len a m ++ (a + m) ∷ []
range_push a zero = let k : a ≡ a + 0 = omega arith in ap (λ n. n ∷ []) k
range_push a (suc m) =
    let k : suc m + 1 ≡ suc (m + 1) = omega arith in
    let l : a + 1 + m ≡ a + suc m = omega arith in
    ap (range_with_len a) k ∙ ap (λ r. a ∷ r) (range_push (a + 1) m ∙ ap (λ n. range_with_len (a + 1) m ++ n ∷ []) l)

-- and some more
pub range_append : (a m n : ℕ) → range_with_len a (m + n) ≡ range_with_len a m ++ range_with_len (a + m) n
range_append a zero n =
    let k : 0 + n ≡ n = omega arith in
    let l : a ≡ a + 0 = omega arith in
    ap (range_with_len a) k ∙ ap (λ b. range_with_len b n) l
range_append a (suc m) n =
    let k : suc m + n ≡ suc (m + n) = omega arith in
    let l : a + 1 + m ≡ a + suc m = omega arith in
    ap (range_with_len a) k ∙ ap (λ r. a ∷ r) (range_append (a + 1) m n ∙ ap (λ b. range_with_len (a + 1) m ++ range_with_len b n) l)

-- how many numbers of a range pass
module _ (p : ℕ → Bool) where
  -- a longer range has no fewer
  pub count_grows : (a m n : ℕ) → m ≤ n → count_by p (range_with_len a m) ≤ count_by p (range_with_len a n)
  count_grows a m n h =
      let k : m + (n - m) ≡ n = omega arith in
      subst (λ l. count_by p (range_with_len a m) ≤ count_by p (range_with_len a l)) k
      (omega (arith, sum_by-append (λ x. cond (p x) 1 0) (range_with_len a m) (range_with_len (a + m) (n - m)), ap (count_by p) (range_append a m (n - m))))

  -- one more that passes
  pub count_one_more : (a m : ℕ) → p (a + m) ≡ true → count_by p (range_with_len a (m + 1)) ≡ count_by p (range_with_len a m) + 1
  count_one_more a m h =
      ap (count_by p) (range_push a m) ∙ sum_by_push (λ x. cond (p x) 1 0) (range_with_len a m) (a + m)
      ∙ ap (λ b. count_by p (range_with_len a m) + cond b 1 0) h

  -- where a number of a range passes, the first that does is no greater
  pub find_first : (a n x : ℕ) → a ≤ x → x < a + n → p x ≡ true
      → (q : ℕ) × (find p (range_with_len a n) ≡ Some q) × (a ≤ q) × (q ≤ x)
  find_first a zero x low high pass = absurd (omega arith)
  find_first a (suc n) x low high pass =
      elim (cases_Bool (p a)) [
        | inl e ↦ (a, ap (λ b. cond b (Some a) (find p (range_with_len (a + 1) n))) e, omega arith, low)
        | inr e ↦
            let other : a ≡ x → ⊥ = λ k. both_ways (p a) e (subst (λ z. p z ≡ true) (sym k) pass) in
            let rest = find_first (a + 1) n x (omega (arith, other)) (omega arith) pass in
            (rest.0, ap (λ b. cond b (Some a) (find p (range_with_len (a + 1) n))) e ∙ rest.1, omega (arith, rest.2), rest.3)
      ]

-- what holds of everything holds of each item
pub all_true : {A : Type 0} (P : A → Type 0) → ((x : A) → P x) → (xs : List A) → AllByRecursion P xs
all_true P k [] = tt
all_true P k (x ∷ xs) = (k x, all_true P k xs)

-- so of the items of two lists one after the other
pub all_append : {A : Type 0} (P : A → Type 0) (xs ys : List A) → AllByRecursion P xs → AllByRecursion P ys → AllByRecursion P (xs ++ ys)
all_append P [] ys h k = k
all_append P (x ∷ xs) ys h k = (h.0, all_append P xs ys h.1 k)

-- what follows from what holds of each item
pub all_weaker : {A : Type 0} (P Q : A → Type 0) → ((x : A) → P x → Q x) → (xs : List A) → AllByRecursion P xs → AllByRecursion Q xs
all_weaker P Q f [] h = tt
all_weaker P Q f (x ∷ xs) h = (f x h.0, all_weaker P Q f xs h.1)

-- two things that hold of each item hold together
pub all_both : {A : Type 0} (P Q : A → Type 0) (xs : List A) → AllByRecursion P xs → AllByRecursion Q xs → AllByRecursion (λ x. P x × Q x) xs
all_both P Q [] h k = tt
all_both P Q (x ∷ xs) h k = ((h.0, k.0), all_both P Q xs h.1 k.1)

-- what holds of what each item becomes
pub all_map : {A B : Type 0} (P : B → Type 0) (f : A → B) (xs : List A) → AllByRecursion (λ x. P (f x)) xs → AllByRecursion P (map f xs)
all_map P f [] h = tt
all_map P f (x ∷ xs) h = (h.0, all_map P f xs h.1)

-- what holds of each item that passes holds of those that are kept
pub all_kept : {A : Type 0} (p : A → Bool) (P : A → Type 0) (xs : List A) → AllByRecursion (λ x. p x ≡ true → P x) xs → AllByRecursion P (filter p xs)
all_kept p P [] h = tt
all_kept p P (x ∷ xs) h =
    elim (cases_Bool (p x)) [
      | inl e ↦ subst (λ b. AllByRecursion P (cond b (x ∷ filter p xs) (filter p xs))) (sym e) (h.0 e, all_kept p P xs h.1)
      | inr e ↦ subst (λ b. AllByRecursion P (cond b (x ∷ filter p xs) (filter p xs))) (sym e) (all_kept p P xs h.1)
    ]

-- what holds of each item holds of the one that was found, and it passes
pub all_found : {A : Type 0} (p : A → Bool) (P : A → Type 0) (xs : List A) (x : A) → AllByRecursion P xs → find p xs ≡ Some x → P x × (p x ≡ true)
all_found p P [] x h e = absurd (none-some x e)
all_found p P (y ∷ xs) x h e =
    elim (cases_Bool (p y)) [
      | inl t ↦
          let is : y ≡ x = same_Some y x (sym (ap (λ b. cond b (Some y) (find p xs)) t) ∙ e) in
          (subst P is h.0, subst (λ z. p z ≡ true) is t)
      | inr t ↦ all_found p P xs x h.1 (sym (ap (λ b. cond b (Some y) (find p xs)) t) ∙ e)
    ]

-- a map that leaves each item leaves the list
pub map_leaves : {A : Type 0} (f : A → A) (xs : List A) → AllByRecursion (λ x. f x ≡ x) xs → map f xs ≡ xs
map_leaves f [] h = refl
map_leaves f (x ∷ xs) h = λ i. h.0 i ∷ map_leaves f xs h.1 i

-- how many items pass, where at most one does
module _ {A : Type 0} (p : A → Bool) where
  pub some_counts : (xs : List A) (i : ℕ) (x : A) → slice_get xs i ≡ Some x → p x ≡ true → 1 ≤ count_by p xs
  some_counts [] i x at pass = absurd (none-some x at)
  some_counts (z ∷ xs) zero x at pass =
      let here : p z ≡ true = subst (λ w. p w ≡ true) (sym (same_Some z x at)) pass in
      omega (arith, sum_by-cons (λ w. cond (p w) 1 0) z xs, ap {B = ℕ} (λ b. cond b 1 0) here)
  some_counts (z ∷ xs) (suc i) x at pass = omega (arith, sum_by-cons (λ w. cond (p w) 1 0) z xs, some_counts xs i x at pass)

  -- where none counts, none passes
  pub none_passes : (xs : List A) (i : ℕ) (x : A) → count_by p xs ≤ 0 → slice_get xs i ≡ Some x → p x ≡ false
  none_passes xs i x none at =
      elim (cases_Bool (p x)) [
        | inl e ↦ absurd (omega (arith, some_counts xs i x at e, none))
        | inr e ↦ e
      ]

  -- where one passes, no other does
  pub one_passes : (xs : List A) (i j : ℕ) (x y : A) → count_by p xs ≤ 1 → slice_get xs i ≡ Some x → p x ≡ true → (j ≡ i → ⊥) → slice_get xs j ≡ Some y
      → p y ≡ false
  one_passes [] i j x y one at pass d other = absurd (none-some x at)
  one_passes (z ∷ xs) zero zero x y one at pass d other = absurd (d refl)
  one_passes (z ∷ xs) zero (suc j) x y one at pass d other =
      let here : p z ≡ true = subst (λ w. p w ≡ true) (sym (same_Some z x at)) pass in
      none_passes xs j y (omega (arith, one, sum_by-cons (λ w. cond (p w) 1 0) z xs, ap {B = ℕ} (λ b. cond b 1 0) here)) other
  one_passes (z ∷ xs) (suc i) zero x y one at pass d other =
      let n : cond (p z) 1 0 ≤ 0 = omega (arith, one, sum_by-cons (λ w. cond (p w) 1 0) z xs, some_counts xs i x at pass) in
      subst (λ w. p w ≡ false) (same_Some z y other)
      (elim (cases_Bool (p z)) [ inl e ↦ absurd (omega (arith, n, ap {B = ℕ} (λ b. cond b 1 0) e)) | inr e ↦ e ])
  one_passes (z ∷ xs) (suc i) (suc j) x y one at pass d other =
      one_passes xs i j x y (omega (arith, one, sum_by-cons (λ w. cond (p w) 1 0) z xs)) at pass (λ e. d (ap suc e)) other

-- within a list there is an item
pub item_within : {A : Type 0} (xs : List A) (i : ℕ) → i < length xs → (x : A) × (slice_get xs i ≡ Some x)
item_within [] i h = absurd (omega arith)
item_within (x ∷ xs) zero h = (x, refl)
item_within (x ∷ xs) (suc i) h = item_within xs i (omega arith)

-- what holds of every item holds of one that stands at a place
pub all_at : {A : Type 0} (P : A → Type 0) (xs : List A) (i : ℕ) (x : A) → All P xs → slice_get xs i ≡ Some x → P x
all_at P xs i x all at = subst P (get_or_from_slice_get xs i x x at) (all i x (slice_get_within xs i x at))

-- what holds of each item of a map's list holds of what the items become
pub all_unmap : {A B : Type 0} (P : B → Type 0) (f : A → B) (xs : List A) → AllByRecursion P (map f xs) → AllByRecursion (λ x. P (f x)) xs
all_unmap P f [] h = tt
all_unmap P f (x ∷ xs) h = (h.0, all_unmap P f xs h.1)

-- what holds of each numbered item by itself
pub all_numbered : {A : Type 0} (P : A → Type 0) (n : ℕ) (xs : List A) → AllByRecursion (λ e. P e.1) (enumerate_from n xs) → AllByRecursion P xs
all_numbered P n [] h = tt
all_numbered P n (x ∷ xs) h = (h.0, all_numbered P (n + 1) xs h.1)

-- a list is not both empty and not
pub nil_is_not_cons : {A : Type 0} {C : Type 0} (xs : List A) (x : A) (ys : List A) → xs ≡ [] → xs ≡ x ∷ ys → C
nil_is_not_cons xs x ys e f = absurd (cc)
