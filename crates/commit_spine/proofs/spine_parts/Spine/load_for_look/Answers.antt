use Rattle.std.proofs.Common.{rules}
use Rattle.commit_spine.proofs.StepsKeepRule.{loads_for_look}
use Rattle.commit_spine.proofs.spine_parts.Spine.load_for_look.Goals as goal

pub load-requires : goal.load-requires
load-requires c = (search rules, search rules, loads_for_look _ _ _ _)
