use Rattle.std.proofs.Common.{◌≡◌, ◌-◌, ◌++◌, ◌≤◌, length}
use Rattle.counts.specs.Raised.{raised}
use Rattle.page_map.specs.Pages.{AreHalfFull, ArePages, joined}
use Rattle.page_map.specs.Rising.{IsRising}
use Rattle.page_map.proofs.page.push_shared.Given as goal

abbrev pub decreases-loop-rest : goal.decreases-loop-rest
decreases-loop-rest g l = length l.rest

abbrev pub invariant-loop-rest : goal.invariant-loop-rest
invariant-loop-rest g l = record {
  joined : joined l.pages.items ++ l.rest ≡ joined l.initial.pages.items ++ l.fn.entries;
  pages : ArePages l.pages.items;
  rises : IsRising l.rest;
  half_full : AreHalfFull l.initial.pages.items → AreHalfFull l.pages.items;
  many : 32 ≤ length l.rest;
  short : length l.rest ≤ length l.fn.entries;
  counted : l.count ≡ raised l.initial.count (length l.fn.entries - length l.rest);
}
