use Rattle.std.proofs.Common.{arith}
use Rattle.std.proofs.lemmas.Int.{ints, clamps}
use Rattle.shadow_frame.proofs.places.side_between.Goals as goal

pub returns-then-between-lt0-clause-value : goal.returns-then-between-lt0-clause-value
returns-then-between-lt0-clause-value c = omega (arith, ints, clamps)
