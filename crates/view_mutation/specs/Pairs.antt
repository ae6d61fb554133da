-- Values with numbers.
use Rattle.std.specs.Prelude.{ℕ, List, nat_eq, filter}

-- those of one number, as they stand
abbrev pub pairs_at : {V : Type 0} → List (ℕ × V) → ℕ → List (ℕ × V)
pairs_at pairs number = filter (λ pair. nat_eq pair.0 number) pairs
