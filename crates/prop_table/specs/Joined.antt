-- A list that is kept as two.
use Rattle.std.specs.Prelude.{◌≡◌, ℕ, List, [], ◌∷◌, map, length}

-- two lists, element by element
abbrev pub zipped : {A B C : Type 0} → (A → B → C) → List A → List B → List C
zipped f [] ys = []
zipped f (x ∷ xs) [] = []
zipped f (x ∷ xs) (y ∷ ys) = f x y ∷ zipped f xs ys

-- two lists of that length which the zipped list gives back, by what it keeps of each element in the one and in the other
pub record AreZipped {A B C : Type 0} (f : A → B → C) (first : C → A) (second : C → B) (n : ℕ) (xs : List A) (ys : List B) : Type 0 where
  pub count : length xs ≡ n
  pub first_back : map first (zipped f xs ys) ≡ xs
  pub second_back : map second (zipped f xs ys) ≡ ys
