-- Lists of values with their tags, in the order of the tags.
use Rattle.std.specs.Prelude.{ℕ, ◌<◌, ◌≤◌, List, [], ◌∷◌}

-- it holds of each element
abbrev pub Each : {X : Type 0} → (X → Type 0) → List X → Type 0
Each P [] = Unit {0}
Each P (x ∷ xs) = P x × Each P xs

-- each tag is above that number
abbrev pub AreAbove : {V : Type 0} → ℕ → List (ℕ × V) → Type 0
AreAbove low = Each (λ entry. low < entry.0)

-- each tag is at least that number
abbrev pub AreFrom : {V : Type 0} → ℕ → List (ℕ × V) → Type 0
AreFrom low = Each (λ entry. low ≤ entry.0)

-- each tag is below that number
abbrev pub AreBelow : {V : Type 0} → ℕ → List (ℕ × V) → Type 0
AreBelow high = Each (λ entry. entry.0 < high)

-- the tags rise, so none stands twice
abbrev pub IsRising : {V : Type 0} → List (ℕ × V) → Type 0
IsRising [] = Unit {0}
IsRising (entry ∷ entries) = AreAbove entry.0 entries × IsRising entries
