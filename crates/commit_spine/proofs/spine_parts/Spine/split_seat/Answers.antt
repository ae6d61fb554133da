use Rattle.std.proofs.Common.{rules}
use Rattle.commit_spine.proofs.SplitsAndJoins.{splits}
use Rattle.commit_spine.proofs.spine_parts.Spine.split_seat.Goals as goal

pub split_seat-requires : goal.split_seat-requires
split_seat-requires g c = (search rules, search rules, splits _ _ _ _ c.requires.turn c.requires.shares c.requires.permits)
