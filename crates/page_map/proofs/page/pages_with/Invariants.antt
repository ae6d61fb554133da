use Rattle.std.proofs.Common.{◌+◌, ◌-◌, ◌*◌, ◌≤◌, length}
use Rattle.counts.specs.Raised.{raised}
use Rattle.page_map.proofs.Merged.{IsPlacing}
use Rattle.page_map.proofs.page.pages_with.Given as goal

abbrev pub decreases-loop-first : goal.decreases-loop-first
decreases-loop-first g l = length l.rest

abbrev pub invariant-loop-first : goal.invariant-loop-first
invariant-loop-first g l = record {
  placing : IsPlacing l.kept l.new l.pages.items l.left l.rest;
  counted : raised l.initial.count (length l.new - length l.rest) ≤ l.count;
  never_falls : l.initial.count ≤ l.count;
  at_most : l.count + 65 * length l.rest ≤ l.initial.count + 65 * length l.new;
}
