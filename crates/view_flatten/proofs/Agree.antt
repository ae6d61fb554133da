-- Lists by tests that agree, and parts of lists.
use Rattle.std.proofs.Common.{◌≡◌, ◌⊎◌, inl, inr, List, [], ◌∷◌, ◌++◌, filter, Bool, true, false, cond, ◌||◌, refl, ap, sym, ◌∙◌}
use Rattle.std.specs.List.{AllByRecursion, flat_map, list_any}
use Rattle.std.proofs.lemmas.Bool.{both_ways, or_cases, or_parts}

-- tests that agree on each item keep the same ones
pub same_filter : {X : Type 0} (p q : X → Bool) (xs : List X) → AllByRecursion (λ x. p x ≡ q x) xs → filter p xs ≡ filter q xs
same_filter p q [] h = refl
same_filter p q (x ∷ xs) h = λ i. cond (h.0 i) (x ∷ same_filter p q xs h.1 i) (same_filter p q xs h.1 i)

-- and find one in the same lists
pub same_any : {X : Type 0} (p q : X → Bool) (xs : List X) → AllByRecursion (λ x. p x ≡ q x) xs → list_any p xs ≡ list_any q xs
same_any p q [] h = refl
same_any p q (x ∷ xs) h = λ i. h.0 i || same_any p q xs h.1 i

-- functions that agree on each item give the same whole
pub same_flat_map : {X Y : Type 0} (f g : X → List Y) (xs : List X) → AllByRecursion (λ x. f x ≡ g x) xs → flat_map f xs ≡ flat_map g xs
same_flat_map f g [] h = refl
same_flat_map f g (x ∷ xs) h = λ i. h.0 i ++ same_flat_map f g xs h.1 i

-- where each item fails none is kept
pub none_kept : {X : Type 0} (p : X → Bool) (xs : List X) → AllByRecursion (λ x. p x ≡ false) xs → filter p xs ≡ []
none_kept p [] h = refl
none_kept p (x ∷ xs) h = ap (λ b. cond b (x ∷ filter p xs) (filter p xs)) h.0 ∙ none_kept p xs h.1

-- where no item passes none is kept
pub none_found : {X : Type 0} (p : X → Bool) (xs : List X) → list_any p xs ≡ false → filter p xs ≡ []
none_found p [] h = refl
none_found p (x ∷ xs) h = let parts = or_parts (p x) (list_any p xs) h in ap (λ b. cond b (x ∷ filter p xs) (filter p xs)) parts.0 ∙ none_found p xs parts.1

-- where each item passes all are kept
pub all_kept : {X : Type 0} (p : X → Bool) (xs : List X) → AllByRecursion (λ x. p x ≡ true) xs → filter p xs ≡ xs
all_kept p [] h = refl
all_kept p (x ∷ xs) h = ap (λ b. cond b (x ∷ filter p xs) (filter p xs)) h.0 ∙ ap (λ r. x ∷ r) (all_kept p xs h.1)

-- a filter of a whole that is put together
pub filter_flat_map : {X Y : Type 0} (p : Y → Bool) (f : X → List Y) (xs : List X) → ((ys zs : List Y) → filter p (ys ++ zs) ≡ filter p ys ++ filter p zs)
    → filter p (flat_map f xs) ≡ flat_map (λ x. filter p (f x)) xs
filter_flat_map p f [] h = refl
filter_flat_map p f (x ∷ xs) h = h (f x) (flat_map f xs) ∙ ap (λ r. filter p (f x) ++ r) (filter_flat_map p f xs h)

-- what follows from each item that passes follows where one does
pub where_any : {X : Type 0} (P : Type 0) (p : X → Bool) (xs : List X) → AllByRecursion (λ x. p x ≡ true → P) xs → list_any p xs ≡ true → P
where_any P p [] h e = absurd (both_ways false refl e)
where_any P p (x ∷ xs) h e = elim (or_cases (p x) (list_any p xs) e) [ inl now ↦ h.0 now | inr later ↦ where_any P p xs h.1 later ]

-- no item passes a test that never does
never : {X : Type 0} (xs : List X) → list_any (λ x. false) xs ≡ false
never [] = refl
never (x ∷ xs) = never xs

by_pairs : (a b c d : Bool) → ((a || b) || (c || d)) ≡ ((a || c) || (b || d))
by_pairs true b c d = refl
by_pairs false b true true = both b
  where
    both : (b : Bool) → (b || true) ≡ true
    both true = refl
    both false = refl
by_pairs false true true false = refl
by_pairs false false true false = refl
by_pairs false b false d = refl

-- one of two tests finds one
pub either_any : {X : Type 0} (p q : X → Bool) (xs : List X) → (list_any p xs || list_any q xs) ≡ list_any (λ x. p x || q x) xs
either_any p q [] = refl
either_any p q (x ∷ xs) = by_pairs (p x) (list_any p xs) (q x) (list_any q xs) ∙ ap (λ b. (p x || q x) || b) (either_any p q xs)

-- some item of one list goes with some of another
pub swapped_any : {X Y : Type 0} (r : X → Y → Bool) (xs : List X) (ys : List Y) → list_any (λ x. list_any (λ y. r x y) ys) xs ≡ list_any (λ y. list_any (λ x. r x y) xs) ys
swapped_any r [] ys = sym (never ys)
swapped_any r (x ∷ xs) ys = ap (λ b. list_any (r x) ys || b) (swapped_any r xs ys) ∙ either_any (r x) (λ y. list_any (λ x. r x y) xs) ys

-- some items of a list, in their order
abbrev pub IsPart : {X : Type 0} → List X → List X → Type 0
IsPart [] ys = Unit {0}
IsPart (x ∷ xs) [] = ⊥
IsPart (x ∷ xs) (y ∷ ys) = ((x ≡ y) × IsPart xs ys) ⊎ IsPart (x ∷ xs) ys

-- a part of what comes after one more item
pub part_past : {X : Type 0} (xs : List X) (y : X) (ys : List X) → IsPart xs ys → IsPart xs (y ∷ ys)
part_past [] y ys h = tt
part_past (x ∷ xs) y ys h = inr h

-- a part of the first of two lists
pub part_of_first : {X : Type 0} (xs ys zs : List X) → IsPart xs ys → IsPart xs (ys ++ zs)
part_of_first [] ys zs h = tt
part_of_first (x ∷ xs) [] zs h = absurd h
part_of_first (x ∷ xs) (y ∷ ys) zs (inl h) = inl (h.0, part_of_first xs ys zs h.1)
part_of_first (x ∷ xs) (y ∷ ys) zs (inr h) = inr (part_of_first (x ∷ xs) ys zs h)

-- a part of the second of two lists
pub part_of_second : {X : Type 0} (xs ys zs : List X) → IsPart xs zs → IsPart xs (ys ++ zs)
part_of_second xs [] zs h = h
part_of_second xs (y ∷ ys) zs h = part_past xs y (ys ++ zs) (part_of_second xs ys zs h)
