use Rattle.std.proofs.Common.{rules}
use Rattle.commit_spine.proofs.StepsKeepRule.{loads}
use Rattle.commit_spine.proofs.spine_parts.Spine.load.Goals as goal

pub load-requires : goal.load-requires
load-requires c = (search rules, search rules, loads _ _ _ _)
