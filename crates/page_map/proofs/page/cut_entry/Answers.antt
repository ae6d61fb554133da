use Rattle.std.proofs.Common.{sym, subst, ◌∙◌, arith}
use Rattle.page_map.specs.Pages.{IsPage}
use Rattle.page_map.proofs.Cut.{cut_there, page_cut}
use Rattle.page_map.proofs.page.cut_entry.Goals as goal

pub returns-then-has_tag-clause-cut : goal.returns-then-has_tag-clause-cut
returns-then-has_tag-clause-cut g c =
    let es = c.args.entries.now.items in
    let at = c.place_of-at.result in
    let there = rw c.deref-2.ensures.value at (c.has_tag.ensures.0 c.if-has_tag.true) in
    let below = rw c.deref.ensures.value at c.place_of-at.ensures.below in
    c.remove.ensures.by_index.2 ∙ cut_there c.args.tag es at c.requires.page.rises below there.0 there.1

pub returns-then-has_tag-clause-page : goal.returns-then-has_tag-clause-page
returns-then-has_tag-clause-page g c = subst IsPage (sym (returns-then-has_tag-clause-cut g c)) (page_cut c.args.tag c.args.entries.now.items c.requires.page (omega arith))
