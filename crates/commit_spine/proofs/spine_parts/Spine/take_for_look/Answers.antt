use Rattle.std.proofs.Common.{rules, refl}
use Rattle.commit_spine.proofs.StepsKeepRule.{takes_for_look}
use Rattle.commit_spine.proofs.spine_parts.Spine.take_for_look.Goals as goal

pub compare_exchange-found-requires : goal.compare_exchange-found-requires
compare_exchange-found-requires c = (search rules, search rules, takes_for_look _ _ _ _ _ _ c.requires.share c.requires.even refl)
