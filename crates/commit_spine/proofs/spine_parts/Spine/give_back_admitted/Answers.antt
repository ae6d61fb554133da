use Rattle.std.proofs.Common.{rules, refl}
use Rattle.commit_spine.proofs.InHand.{offer_store, may_admit, is_admitted}
use Rattle.commit_spine.proofs.spine_parts.Spine.give_back_admitted.Goals as goal

pub lift-taken-requires-clause-hand : goal.lift-taken-requires-clause-hand
lift-taken-requires-clause-hand c = offer_store _ _ c.requires.offer

pub store-requires : goal.store-requires
store-requires c = (
  search rules,
  search rules,
  may_admit c.args.seat.now.me _ _ _ _ _ c.args.entry c.requires.offer c.lift-taken.ensures.lifted c.lift-taken.ensures.empty c.lay.ensures.laid
      c.in-Ok.ensures.items (search rules) c.requires.next _ _ _ _ refl,
)

pub returns-clause-kept : goal.returns-clause-kept
returns-clause-kept c =
    is_admitted c.args.seat.now.me _ _ _ _ _ c.args.entry c.requires.offer c.lift-taken.ensures.lifted c.lift-taken.ensures.empty c.lay.ensures.laid
    c.in-Ok.ensures.items (search rules) c.requires.next 0 0 _ c.store.ensures.2
