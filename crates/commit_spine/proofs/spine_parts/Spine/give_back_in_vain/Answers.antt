use Rattle.std.proofs.Common.{rules, arith}
use Rattle.commit_spine.proofs.StepsKeepRule.{ends_look}
use Rattle.commit_spine.proofs.spine_parts.Spine.give_back_in_vain.Goals as goal

pub store-requires : goal.store-requires
store-requires c = let look = c.requires.look in (
  search rules,
  search rules,
  ends_look _ _ _ _ _ _ look.slot look.turn look.hand look.some_share look.store (omega (arith, look.number)),
)
