-- Stamps: a number for each tag.
use Rattle.std.specs.Prelude.{◌≢◌, ℕ, List, [], ◌∷◌, unwrap_or}
use Rattle.std.specs.List.{AllPairs}
use Rattle.std.specs.Ordering.{nat_cmp}
use Rattle.std.specs.FinMap.{FinMap, get, insert}

-- a map from tag to number
abbrev pub StampMap : Type 0
StampMap = FinMap nat_cmp ℕ

-- the stamp of a tag; a tag without one has 0
abbrev pub stamp_in : StampMap → ℕ → ℕ
stamp_in stamps tag = unwrap_or (get stamps tag) 0

-- no tag stands twice in the list
abbrev pub DoTagsDiffer : List (ℕ × ℕ) → Type 0
DoTagsDiffer = AllPairs (λ one other. one.0 ≢ other.0)

-- stamps with that number at each tag of a list
abbrev pub all_stamped : StampMap → (number : ℕ) → List ℕ → StampMap
all_stamped stamps number [] = stamps
all_stamped stamps number (tag ∷ tags) = all_stamped (insert stamps tag number) number tags
