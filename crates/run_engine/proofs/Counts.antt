-- A script that is within the counts has numbers of 31 bits.
use Rattle.std.proofs.Common.{◌≤◌, ◌<◌, ℕ, zero, suc, List, [], ◌∷◌, length, get_or, arith}
use Rattle.tree_revision.specs.Script.{PlainActor, PlainScript}
use Rattle.tree_revision.specs.Sound.{step_count, IsWithinCounts}
use Rattle.run_engine.specs.Numbers.{IsWithinNumbers}

-- an actor has no more steps than all together
steps_within : (actors : List PlainActor) (k : ℕ) (d : PlainActor) → k < length actors → length (get_or actors k d).steps ≤ step_count actors
steps_within [] k d h = absurd (omega (arith, h))
steps_within (actor ∷ actors) zero d h = omega arith
steps_within (actor ∷ actors) (suc k) d h = omega (arith, steps_within actors k d (omega (arith, h)))

pub counts_within : (script : PlainScript) → IsWithinCounts script → IsWithinNumbers script
counts_within script counts = record {
  actors = omega (arith, counts.actors);
  steps = λ k d h. omega (arith, steps_within script.actors k d h, counts.steps);
}
