use Rattle.std.proofs.Common.{◌^◌, ◌+◌, ap, length, arith, ◌∙◌}
use Rattle.page_map.specs.Pages.{joined}
use Rattle.page_map.proofs.Rising.{rising_few}
use Rattle.page_map.proofs.Joined.{counted_more, counted_le}
use Rattle.page_map.proofs.page.count_of.Goals as goal

pub overflow_add-count : goal.overflow_add-count
overflow_add-count g c =
    let pages = c.args.pages.now in
    let i = c.loop-page.page-index in
    let here = ap length (c.entries.ensures.entries ∙ c.deref.ensures) in
    omega (arith, here, c.loop-page.invariant, counted_more pages i c.page-item.result c.loop-page-test.true c.page-item.is, counted_le pages (i + 1), rising_few (2 ^ 32) (joined pages) c.requires.rises c.requires.in_range)

pub loop-page-preserved : goal.loop-page-preserved
loop-page-preserved g c =
    let here = ap length (c.entries.ensures.entries ∙ c.deref.ensures) in
    omega (arith, here, c.loop-page.invariant, counted_more c.args.pages.now c.loop-page.page-index c.page-item.result c.loop-page-test.true c.page-item.is)
