-- Tags that differ, in lists that are put together.
use Rattle.std.proofs.Common.{◌≡◌, ℕ, List, [], ◌∷◌, ◌++◌, false, nat_eq, refl}
use Rattle.std.specs.List.{AllByRecursion, IsDistinct, list_any}
use Rattle.std.proofs.lemmas.Bool.{or_parts, or_from}
use Rattle.std.proofs.lemmas.Map.Keys.{IsDistinct-head, IsDistinct-tail, IsDistinct-cons}

-- a tag that no other ties with is not among them
pub not_among : (x : ℕ) (xs : List ℕ) → AllByRecursion (λ y. nat_eq x y ≡ false) xs → list_any (nat_eq x) xs ≡ false
not_among x [] h = refl
not_among x (y ∷ ys) h = or_from (nat_eq x y) (list_any (nat_eq x) ys) h.0 (not_among x ys h.1)

-- a tag that is not among others ties with none of them
pub apart_from_each : (x : ℕ) (xs : List ℕ) → list_any (nat_eq x) xs ≡ false → AllByRecursion (λ y. nat_eq x y ≡ false) xs
apart_from_each x [] h = tt
apart_from_each x (y ∷ ys) h = let parts = or_parts (nat_eq x y) (list_any (nat_eq x) ys) h in (parts.0, apart_from_each x ys parts.1)

-- one more tag, which is not among the others
pub distinct_more : (x : ℕ) (xs : List ℕ) → list_any (nat_eq x) xs ≡ false → IsDistinct nat_eq xs → IsDistinct nat_eq (x ∷ xs)
distinct_more x xs h d = IsDistinct-cons nat_eq x xs (apart_from_each x xs h) d

-- what is in neither part is not in the whole
pub not_in_both : (x : ℕ) (xs ys : List ℕ) → list_any (nat_eq x) xs ≡ false → list_any (nat_eq x) ys ≡ false → list_any (nat_eq x) (xs ++ ys) ≡ false
not_in_both x [] ys h k = k
not_in_both x (y ∷ xs) ys h k =
    let parts = or_parts (nat_eq x y) (list_any (nat_eq x) xs) h in
    or_from (nat_eq x y) (list_any (nat_eq x) (xs ++ ys)) parts.0 (not_in_both x xs ys parts.1 k)

-- tags that differ in each part, and no tag is in both
pub distinct_both : (xs ys : List ℕ) → IsDistinct nat_eq xs → IsDistinct nat_eq ys
    → AllByRecursion (λ tag. list_any (nat_eq tag) ys ≡ false) xs → IsDistinct nat_eq (xs ++ ys)
distinct_both [] ys d e h = e
distinct_both (x ∷ xs) ys d e h =
    distinct_more x (xs ++ ys) (not_in_both x xs ys (not_among x xs (IsDistinct-head nat_eq x xs d)) h.0)
    (distinct_both xs ys (IsDistinct-tail nat_eq x xs d) e h.1)

-- what holds of each in both parts holds of each in the whole
pub each_in_both : {X : Type 0} (P : X → Type 0) (xs ys : List X) → AllByRecursion P xs → AllByRecursion P ys → AllByRecursion P (xs ++ ys)
each_in_both P [] ys h k = k
each_in_both P (x ∷ xs) ys h k = (h.0, each_in_both P xs ys h.1 k)

-- what holds of each in the whole holds of each in the first part
pub each_in_first : {X : Type 0} (P : X → Type 0) (xs ys : List X) → AllByRecursion P (xs ++ ys) → AllByRecursion P xs
each_in_first P [] ys h = tt
each_in_first P (x ∷ xs) ys h = (h.0, each_in_first P xs ys h.1)

-- and of each in the second part
pub each_in_second : {X : Type 0} (P : X → Type 0) (xs ys : List X) → AllByRecursion P (xs ++ ys) → AllByRecursion P ys
each_in_second P [] ys h = h
each_in_second P (x ∷ xs) ys h = each_in_second P xs ys h.1

-- what follows from what holds of each
pub each_then : {X : Type 0} (P Q : X → Type 0) → ((x : X) → P x → Q x) → (xs : List X) → AllByRecursion P xs → AllByRecursion Q xs
each_then P Q f [] h = tt
each_then P Q f (x ∷ xs) h = (f x h.0, each_then P Q f xs h.1)

-- what holds of each, and what else holds of each
pub each_of_two : {X : Type 0} (P Q : X → Type 0) (xs : List X) → AllByRecursion P xs → AllByRecursion Q xs → AllByRecursion (λ x. P x × Q x) xs
each_of_two P Q [] h k = tt
each_of_two P Q (x ∷ xs) h k = ((h.0, k.0), each_of_two P Q xs h.1 k.1)

-- no tags differ
pub distinct_none : IsDistinct nat_eq []
unfolding IsDistinct
distinct_none = tt
