use Rattle.run_engine.specs.Opening.{ArePassesAtStart}
use Rattle.run_engine.proofs.opening.passes_of.Given as goal

abbrev pub invariant-loop-spine : goal.invariant-loop-spine
invariant-loop-spine l = ArePassesAtStart l.spine-index l.passes.items
