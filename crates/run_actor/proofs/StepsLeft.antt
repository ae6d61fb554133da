-- The step that is left first, by its surface.
use Rattle.std.proofs.Common.{◌≡◌, ℕ, List, [], ◌∷◌, slice_get, refl, sym}
use Rattle.std.specs.Prelude.{Some, None, option_map}
use Rattle.std.proofs.lemmas.Option.{none-some, same_Some}
use Rattle.tree_revision.specs.Script.{PlainStep}

-- the step whose surface was asked for
pub step_at : (left : List PlainStep) (id : ℕ) → option_map (λ step. step.surface) (slice_get left 0) ≡ Some id
    → (step : PlainStep) × (slice_get left 0 ≡ Some step) × (step.surface ≡ id)
step_at [] id e = absurd (none-some id e)
step_at (step ∷ left) id e = (step, refl, same_Some step.surface id e)

-- where none is left
pub none_at : (left : List PlainStep) → option_map (λ step. step.surface) (slice_get left 0) ≡ None → left ≡ []
none_at [] e = refl
none_at (step ∷ left) e = absurd (none-some step.surface (sym e))
