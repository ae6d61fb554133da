use Rattle.std.proofs.Common.{◌≡◌, length, take}
use Rattle.page_map.specs.Pages.{joined}
use Rattle.page_map.proofs.page.count_of.Given as goal

abbrev pub invariant-loop-page : goal.invariant-loop-page
invariant-loop-page g l = l.count ≡ length (joined (take l.page-index l.pages))
