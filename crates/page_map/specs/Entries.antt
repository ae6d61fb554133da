-- Entries of a finite map: tags with their values.
use Rattle.std.specs.Prelude.{◌≡◌, ◌≢◌, ℕ, List, [], ◌∷◌, Option, None, Some, Result, Ok, Err, Bool, true, false}
use Rattle.std.specs.List.{AllPairs}
use Rattle.std.specs.Ordering.{nat_cmp}
use Rattle.std.specs.FinMap.{FinMap, insert, remove}

-- the map with each entry of the list set
abbrev pub all_added : {V : Type 0} → FinMap nat_cmp V → List (ℕ × V) → FinMap nat_cmp V
all_added map [] = map
all_added map (entry ∷ entries) = all_added (insert map entry.0 entry.1) entries

-- no tag stands twice in the list
abbrev pub TagsDiffer : {V : Type 0} → List (ℕ × V) → Type 0
TagsDiffer = AllPairs (λ one other. one.0 ≢ other.0)

-- what a call has done that sets an entry of a map, or hands the value back; want of memory changes nothing
abbrev pub IsPutIn : {V E : Type 0} → (old new : FinMap nat_cmp V) (tag : ℕ) (value : V) → Result (Option V) E → Type 0
IsPutIn old new tag value (Ok None) = new ≡ insert old tag value
IsPutIn old new tag value (Ok (Some back)) = (new ≡ old) × (back ≡ value)
IsPutIn old new tag value (Err e) = new ≡ old

-- what a call has done that takes an entry out of a map where it may; want of memory changes nothing
abbrev pub IsCutFrom : {V E : Type 0} → (old new : FinMap nat_cmp V) (tag : ℕ) → Result Bool E → Type 0
IsCutFrom old new tag (Ok true) = new ≡ remove old tag
IsCutFrom old new tag (Ok false) = new ≡ old
IsCutFrom old new tag (Err e) = new ≡ old
