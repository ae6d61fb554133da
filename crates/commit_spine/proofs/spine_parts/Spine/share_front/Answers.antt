use Rattle.commit_spine.proofs.InHand.{look_store}
use Rattle.commit_spine.proofs.spine_parts.Spine.share_front.Goals as goal

pub lift-store-requires-clause-hand : goal.lift-store-requires-clause-hand
lift-store-requires-clause-hand c = look_store _ _ c.requires.look.1
