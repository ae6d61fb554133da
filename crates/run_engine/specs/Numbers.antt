-- Scripts whose actors and steps have numbers of 31 bits.
use Rattle.std.specs.Prelude.{◌<◌, ◌^◌, length, All}
use Rattle.tree_revision.specs.Script.{PlainScript}

-- there are fewer than 2^31 actors, and each of them has fewer than 2^31 steps
pub record IsWithinNumbers (script : PlainScript) : Type 0 where
  pub actors : length script.actors < 2 ^ 31
  pub steps : All (λ actor. length actor.steps < 2 ^ 31) script.actors
