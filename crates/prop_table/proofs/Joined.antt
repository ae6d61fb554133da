-- A list that is kept as two.
use Rattle.std.proofs.Common.{◌≡◌, ℕ, zero, suc, ◌<◌, List, [], ◌∷◌, map, length, get_or, slice_set, refl, ap, sym, ◌∙◌, arith, replicate}
use Rattle.std.proofs.lemmas.List.{map-set, length-set, length-map, length-replicate}
use Rattle.prop_table.specs.Joined.{zipped, AreZipped}

-- an element of two zipped lists
get_or-zipped : {A B C : Type 0} (f : A → B → C) (xs : List A) (ys : List B) (i : ℕ) (a : A) (b : B) (c : C) → i < length xs → length ys ≡ length xs
    → get_or (zipped f xs ys) i c ≡ f (get_or xs i a) (get_or ys i b)
get_or-zipped f [] ys i a b c h n = absurd (omega arith)
get_or-zipped f (x ∷ xs) [] i a b c h n = absurd (omega arith)
get_or-zipped f (x ∷ xs) (y ∷ ys) zero a b c h n = refl
get_or-zipped f (x ∷ xs) (y ∷ ys) (suc i) a b c h n = get_or-zipped f xs ys i a b c (omega arith) (omega arith)

-- two lists that are set at one place
zipped-set : {A B C : Type 0} (f : A → B → C) (xs : List A) (ys : List B) (i : ℕ) (x : A) (y : B) → length ys ≡ length xs
    → zipped f (slice_set xs i x) (slice_set ys i y) ≡ slice_set (zipped f xs ys) i (f x y)
zipped-set f [] ys i x y n = refl
zipped-set f (x' ∷ xs) [] i x y n = absurd (omega arith)
zipped-set f (x' ∷ xs) (y' ∷ ys) zero x y n = refl
zipped-set f (x' ∷ xs) (y' ∷ ys) (suc i) x y n = ap (λ rest. f x' y' ∷ rest) (zipped-set f xs ys i x y (omega arith))

-- two lists of one element each, over and over
zipped-replicate : {A B C : Type 0} (f : A → B → C) (n : ℕ) (x : A) (y : B) → zipped f (replicate n x) (replicate n y) ≡ replicate n (f x y)
zipped-replicate f zero x y = refl
zipped-replicate f (suc n) x y = ap (λ rest. f x y ∷ rest) (zipped-replicate f n x y)

map-replicate : {A B : Type 0} (f : A → B) (n : ℕ) (x : A) → map f (replicate n x) ≡ replicate n (f x)
map-replicate f zero x = refl
map-replicate f (suc n) x = ap (λ rest. f x ∷ rest) (map-replicate f n x)

both_count : {A B C : Type 0} (f : A → B → C) (p : C → A) (q : C → B) (n : ℕ) (xs : List A) (ys : List B) → AreZipped f p q n xs ys → length ys ≡ length xs
both_count f p q n xs ys j =
    ap length (sym j.second_back) ∙ length-map (zipped f xs ys) q ∙ sym (length-map (zipped f xs ys) p) ∙ ap length j.first_back

-- as many zipped elements as there are rows
pub AreZipped-count : {A B C : Type 0} (f : A → B → C) (p : C → A) (q : C → B) (n : ℕ) (xs : List A) (ys : List B) → AreZipped f p q n xs ys
    → length (zipped f xs ys) ≡ n
AreZipped-count f p q n xs ys j = sym (length-map (zipped f xs ys) p) ∙ ap length j.first_back ∙ j.count

-- the element in a row
pub AreZipped-at : {A B C : Type 0} (f : A → B → C) (p : C → A) (q : C → B) (n : ℕ) (xs : List A) (ys : List B) (row : ℕ) (a : A) (b : B) (c : C)
    → AreZipped f p q n xs ys → row < n → get_or (zipped f xs ys) row c ≡ f (get_or xs row a) (get_or ys row b)
AreZipped-at f p q n xs ys row a b c j h =
    let within : row < length xs = omega (arith, j.count) in
    get_or-zipped f xs ys row a b c within (both_count f p q n xs ys j)

-- a row that is set
pub zipped-put : {A B C : Type 0} (f : A → B → C) (p : C → A) (q : C → B) (n : ℕ) (xs : List A) (ys : List B) (row : ℕ) (c : C) → f (p c) (q c) ≡ c
    → AreZipped f p q n xs ys → zipped f (slice_set xs row (p c)) (slice_set ys row (q c)) ≡ slice_set (zipped f xs ys) row c
zipped-put f p q n xs ys row c back j =
    zipped-set f xs ys row (p c) (q c) (both_count f p q n xs ys j) ∙ ap (λ o. slice_set (zipped f xs ys) row o) back

-- two lists stay so where a row is set
pub AreZipped-put : {A B C : Type 0} (f : A → B → C) (p : C → A) (q : C → B) (n : ℕ) (xs : List A) (ys : List B) (row : ℕ) (c : C) → f (p c) (q c) ≡ c
    → AreZipped f p q n xs ys → AreZipped f p q n (slice_set xs row (p c)) (slice_set ys row (q c))
AreZipped-put f p q n xs ys row c back j = record {
  count = length-set xs row (p c) ∙ j.count;
  first_back = ap (map p) (zipped-put f p q n xs ys row c back j) ∙ map-set p (zipped f xs ys) row c ∙ ap (λ l. slice_set l row (p c)) j.first_back;
  second_back = ap (map q) (zipped-put f p q n xs ys row c back j) ∙ map-set q (zipped f xs ys) row c ∙ ap (λ l. slice_set l row (q c)) j.second_back;
}

-- the same element in each row
pub zipped-same : {A B C : Type 0} (f : A → B → C) (p : C → A) (q : C → B) (n : ℕ) (c : C) → f (p c) (q c) ≡ c
    → zipped f (replicate n (p c)) (replicate n (q c)) ≡ replicate n c
zipped-same f p q n c back = zipped-replicate f n (p c) (q c) ∙ ap (replicate n) back

pub AreZipped-same : {A B C : Type 0} (f : A → B → C) (p : C → A) (q : C → B) (n : ℕ) (c : C) → f (p c) (q c) ≡ c
    → AreZipped f p q n (replicate n (p c)) (replicate n (q c))
AreZipped-same f p q n c back = record {
  count = length-replicate n (p c);
  first_back = ap (map p) (zipped-same f p q n c back) ∙ map-replicate p n c;
  second_back = ap (map q) (zipped-same f p q n c back) ∙ map-replicate q n c;
}
