use Rattle.std.proofs.Common.{rules, arith}
use Rattle.commit_spine.proofs.SplitsAndJoins.{joins}
use Rattle.commit_spine.proofs.StepsKeepRule.{compares}
use Rattle.commit_spine.proofs.spine_parts.Spine.join_seats.Goals as goal

pub join_seat-requires : goal.join_seat-requires
join_seat-requires c = (search rules, search rules, search rules, search rules, joins _ _ _ _ _ c.requires.turn c.requires.gone_turn c.requires.share)

pub load-requires : goal.load-requires
load-requires c = let both = c.join_seat.ensures.2 in (search rules, search rules, compares _ _ _ _ (rw both (omega (arith, c.requires.share))))
