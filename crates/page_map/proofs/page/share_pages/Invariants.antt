use Rattle.std.proofs.Common.{◌≡◌, ◌+◌, ◌++◌, length, take}
use Rattle.page_map.specs.Pages.{AreHalfFull, ArePages, joined}
use Rattle.page_map.proofs.page.share_pages.Given as goal

abbrev pub invariant-loop-page : goal.invariant-loop-page
invariant-loop-page g l = record {
  joined : joined l.all.items ≡ joined l.initial.all.items ++ joined (take l.page-index l.pages);
  pages : ArePages l.all.items;
  count : length l.all.items ≡ length l.initial.all.items + l.page-index;
  half_full : AreHalfFull l.initial.all.items → AreHalfFull l.pages → AreHalfFull l.all.items;
}
