use Rattle.page_map.proofs.Around.{around_low, around_high, around_alone}
use Rattle.page_map.proofs.thin.around.Goals as goal

pub returns-in-Some : goal.returns-in-Some
returns-in-Some g c = rw (c.entries.ensures.entries, c.deref.ensures) (around_low c.args.pages.now c.args.tag _ _ _ c.parted.ensures c.requires.few c.in-Some.before.now c.in-Some.page.now c.in-Some.ensures.cases.0)

pub returns-in-Some-split_first : goal.returns-in-Some-split_first
returns-in-Some-split_first g c = rw (c.entries-in-Some-split_first.ensures.entries, c.deref-in-Some-split_first.ensures) (around_high c.args.pages.now c.args.tag _ _ _ c.parted.ensures c.requires.few c.in-Some-split_first.page.now c.in-Some-split_first.after.now c.in-Some-split_first.ensures.cases.0)

pub returns-in-None-split_first : goal.returns-in-None-split_first
returns-in-None-split_first g c = around_alone c.args.pages.now c.args.tag _ _ _ c.parted.ensures c.requires.few c.in-None.ensures.cases c.in-None-split_first.ensures.cases
