use Rattle.std.proofs.Common.{rules, refl, arith}
use Rattle.commit_spine.proofs.StepsKeepRule.{takes_for_offer}
use Rattle.commit_spine.proofs.spine_parts.Spine.take_for_offer.Goals as goal

pub compare_exchange-found-requires : goal.compare_exchange-found-requires
compare_exchange-found-requires c =
    (search rules, search rules, takes_for_offer _ _ _ _ _ _ c.requires.share (omega (arith, c.requires.number.0)) refl)
