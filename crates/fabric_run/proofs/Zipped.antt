-- Two lists of one length, gone over together.
use Rattle.std.proofs.Common.{◌≡◌, ◌∙◌, ◌<◌, ◌+◌, ◌++◌, ℕ, zero, suc, List, [], ◌∷◌, All, length, map, drop, get_or, arith, refl, sym, ap, ap₂, subst, drop-cons, add-one, append_assoc}
use Rattle.std.specs.List.{AllZip}
use Rattle.std.specs.Prelude.{zip}

-- from a place on there is the item of the place, and what comes after it
pub from_place : {A B : Type 0} (f : A → B) (items : List A) (i : ℕ) (item : A) → i < length items → item ≡ get_or items i item
    → map f (drop i items) ≡ f item ∷ map f (drop (i + 1) items)
from_place f items i item below is =
    let from : drop i items ≡ get_or items i item ∷ drop (i + 1) items = rw (drop-cons items i item below, add-one) refl in
    ap (map f) from ∙ ap (λ x. f x ∷ map f (drop (i + 1) items)) (sym is)

-- what was gathered, with one more item
pub gathered : {B : Type 0} (done : List B) (next : B) (rest whole : List B) → done ++ next ∷ rest ≡ whole → (done ++ next ∷ []) ++ rest ≡ whole
gathered done next rest whole e = append_assoc done (next ∷ []) rest ∙ e

-- the item of a place is the same, whatever is taken beyond the end
pub same_place : {A : Type 0} (items : List A) (i : ℕ) (d e : A) → i < length items → get_or items i d ≡ get_or items i e
same_place [] i d e below = absurd (omega (arith, below))
same_place (x ∷ items) zero d e below = refl
same_place (x ∷ items) (suc i) d e below = same_place items i d e (omega (arith, below))

-- what follows for the items of each place
pub zip_weaker : {A B : Type 0} (R S : A → B → Type 0) → ((x : A) (y : B) → R x y → S x y) → (xs : List A) (ys : List B) → AllZip R xs ys → AllZip S xs ys
zip_weaker R S weaker [] [] h = tt
zip_weaker R S weaker [] (y ∷ ys) h = absurd h
zip_weaker R S weaker (x ∷ xs) [] h = absurd h
zip_weaker R S weaker (x ∷ xs) (y ∷ ys) h = (weaker x y h.0, zip_weaker R S weaker xs ys h.1)

-- and where each item of the first list keeps a fact of its own
pub zip_with_all : {A B : Type 0} (P : A → Type 0) (R S : A → B → Type 0) → ((x : A) (y : B) → P x → R x y → S x y) → (xs : List A) (ys : List B)
    → All P xs → AllZip R xs ys → AllZip S xs ys
zip_with_all P R S both [] [] all h = tt
zip_with_all P R S both [] (y ∷ ys) all h = absurd h
zip_with_all P R S both (x ∷ xs) [] all h = absurd h
zip_with_all P R S both (x ∷ xs) (y ∷ ys) all h =
    (both x y (all 0 x (omega arith)) h.0, zip_with_all P R S both xs ys (λ k d within. all (suc k) d (omega (arith, within))) h.1)

module _ {A B X Y : Type 0} (f : A → X) (g : B → Y) where
  -- what holds of the items of each place
  pub zipped_at : (R : X → Y → Type 0) (xs : List A) (ys : List B) (i : ℕ) (x : A) (y : B) → AllZip R (map f xs) (map g ys)
      → i < length ys → x ≡ get_or xs i x → y ≡ get_or ys i y → R (f x) (g y)
  zipped_at R xs [] i x y h below s t = absurd (omega (arith, below))
  zipped_at R [] (w ∷ ys) i x y h below s t = absurd h
  zipped_at R (z ∷ xs) (w ∷ ys) zero x y h below s t = subst (λ a. R (f a) (g y)) (sym s) (subst (λ b. R (f z) (g b)) (sym t) h.0)
  zipped_at R (z ∷ xs) (w ∷ ys) (suc i) x y h below s t = zipped_at R xs ys i x y h.1 (omega (arith, below)) s t

  -- such lists are of one length
  pub zipped_length : (R : X → Y → Type 0) (xs : List A) (ys : List B) → AllZip R (map f xs) (map g ys) → length ys ≡ length xs
  zipped_length R [] [] h = refl
  zipped_length R [] (y ∷ ys) h = absurd h
  zipped_length R (x ∷ xs) [] h = absurd h
  zipped_length R (x ∷ xs) (y ∷ ys) h = ap suc (zipped_length R xs ys h.1)

  -- from a place on there are the items of the place, and what comes after them
  pub zipped_from : (xs : List A) (ys : List B) (i : ℕ) (x : A) (y : B) → i < length xs → i < length ys → x ≡ get_or xs i x → y ≡ get_or ys i y
      → zip (map f (drop i xs)) (map g (drop i ys)) ≡ (f x, g y) ∷ zip (map f (drop (i + 1) xs)) (map g (drop (i + 1) ys))
  zipped_from xs ys i x y below also s t = ap₂ zip (from_place f xs i x below s) (from_place g ys i y also t)
