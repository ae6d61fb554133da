use Rattle.std.proofs.Common.{arith}
use Rattle.std.proofs.lemmas.Grind.{common_steps}
use Rattle.clone_path.proofs.Ways.{way_found}
use Rattle.clone_path.proofs.replace_at.Goals as goal

pub returns-in_ok-changed-in-Some-clause-found : goal.returns-in_ok-changed-in-Some-clause-found
returns-in_ok-changed-in-Some-clause-found c = grind (arith, common_steps, way_found)

pub returns-in-None-clause-found : goal.returns-in-None-clause-found
returns-in-None-clause-found c = grind (arith, common_steps, way_found)
