use Rattle.std.proofs.Common.{rules, refl, Some}
use Rattle.commit_spine.proofs.spine_parts.Spine.lift.Goals as goal

pub exchange-requires : goal.exchange-requires
exchange-requires c = let hand = c.requires.hand.1 in (search rules, (Some c.requires.hand.0, rw hand refl))
