-- What a walk to a tag leaves.
use Rattle.std.specs.Prelude.{◌≡◌, ℕ, List, ◌++◌, Bool, true, false, Option, Some, None}
use Rattle.std.specs.Option.{option_map}

-- a walk that found its tag added the way to it, and one that did not added nothing
abbrev pub Walked : Bool → List ℕ → List ℕ → Option (List ℕ) → Type 0
Walked true old new way = Some new ≡ option_map (λ tags. old ++ tags) way
Walked false old new way = (way ≡ None) × (new ≡ old)
