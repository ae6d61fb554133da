use Rattle.std.proofs.Common.{rules, arith}
use Rattle.commit_spine.proofs.StepsKeepRule.{answers_look}
use Rattle.commit_spine.proofs.spine_parts.Spine.give_back_answered.Goals as goal

pub store-requires : goal.store-requires
store-requires c = let look = c.requires.look in (
  search rules,
  search rules,
  answers_look _ _ _ _ _ _ look.slot look.turn look.hand look.some_share look.store (omega (arith, look.floor)) (omega (arith, look.number)),
)
