use Rattle.page_map.proofs.Merged.{IsMerging}
use Rattle.page_map.proofs.page.merged.Given as goal

abbrev pub invariant-loop-entry : goal.invariant-loop-entry
invariant-loop-entry g l = IsMerging l.fn.entries l.new l.entry-index l.all.items l.rest
