-- Tests, counts and searches under a map, and the first of some places.
use Rattle.std.proofs.Common.{◌≡◌, ℕ, ◌+◌, ◌<◌, List, [], ◌∷◌, length, get_or, drop, drop-cons, add-one, refl, ap}
use Rattle.std.specs.Prelude.{Bool, true, false, cond, not, ◌||◌, map, count_by, fold, Option, Some, None, position}
use Rattle.std.specs.List.{list_any, find, position_or_len}
use Rattle.std.proofs.lemmas.List.{length-map}
use Rattle.script_read.specs.Places.{first_of}

-- a test of some element under a map
pub any_mapped : {A B : Type 0} (test : B → Bool) (f : A → B) (xs : List A) → list_any test (map f xs) ≡ list_any (λ x. test (f x)) xs
any_mapped test f [] = refl
any_mapped test f (x ∷ xs) = ap (λ rest. test (f x) || rest) (any_mapped test f xs)

fold_mapped : {A B C : Type 0} (step : C → B → C) (f : A → B) (xs : List A) (sum : C) → fold step sum (map f xs) ≡ fold (λ sum x. step sum (f x)) sum xs
fold_mapped step f [] sum = refl
fold_mapped step f (x ∷ xs) sum = fold_mapped step f xs (step sum (f x))

-- a count under a map
pub count_mapped : {A B : Type 0} (test : B → Bool) (f : A → B) (xs : List A) → count_by test (map f xs) ≡ count_by (λ x. test (f x)) xs
count_mapped test f xs = fold_mapped (λ sum x. sum + cond (test x) 1 0) f xs 0

-- one place alone
pub first_one : {A : Type 0} (place : Option A) → first_of (place ∷ []) ≡ place
first_one None = refl
first_one (Some place) = refl

-- a place, or else none
pub first_none : {A : Type 0} (place : Option A) → first_of (place ∷ None ∷ []) ≡ place
first_none None = refl
first_none (Some place) = refl

-- a place, or else another
pub first_two : {A : Type 0} (place other : Option A) → place ≡ None → first_of (place ∷ other ∷ []) ≡ other
first_two place other h = rw h (first_one other)

-- what is left of a list begins with the element at hand
pub left_of : {A : Type 0} (xs : List A) (i : ℕ) (x : A) → i < length xs → x ≡ get_or xs i x → drop i xs ≡ x ∷ drop (i + 1) xs
left_of xs i x h e = rw (drop-cons xs i x h, ← e, add-one) refl

place_mapped : {A B : Type 0} (test : B → Bool) (f : A → B) (xs : List A) → position_or_len test (map f xs) ≡ position_or_len (λ x. test (f x)) xs
place_mapped test f [] = refl
place_mapped test f (x ∷ xs) = ap (λ place. cond (not (test (f x))) (1 + place) 0) (place_mapped test f xs)

-- a position under a map
pub position_mapped : {A B : Type 0} (test : B → Bool) (f : A → B) (xs : List A) → position test (map f xs) ≡ position (λ x. test (f x)) xs
position_mapped test f xs = rw (place_mapped test f xs, length-map xs f) refl

-- the first that passes is the one at hand
pub found_here : {A B : Type 0} (test : B → Bool) (f : A → B) (xs : List A) (i : ℕ) (x : A) → i < length xs → x ≡ get_or xs i x → test (f x) ≡ true
    → find test (map f (drop i xs)) ≡ Some (f x)
found_here test f xs i x h e t = rw (left_of xs i x h e, t) refl

-- the one at hand does not pass
pub found_later : {A B : Type 0} (test : B → Bool) (f : A → B) (xs : List A) (i : ℕ) (x : A) → i < length xs → x ≡ get_or xs i x → test (f x) ≡ false
    → find test (map f (drop i xs)) ≡ find test (map f (drop (i + 1) xs))
found_later test f xs i x h e t = rw (left_of xs i x h e, t) refl
