use Rattle.std.proofs.Common.{◌≡◌, take}
use Rattle.run_actor.proofs.actors.share_revisions.Given as goal

abbrev pub invariant-loop-entry : goal.invariant-loop-entry
invariant-loop-entry l = l.held.entries ≡ take l.entry-index l.first
