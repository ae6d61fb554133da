use Rattle.std.proofs.Common.{ap, ◌∙◌}
use Rattle.std.specs.Ordering.{nat_cmp}
use Rattle.std.specs.FinMap.{from_sorted}
use Rattle.page_map.specs.Entries.{all_added}
use Rattle.page_map.specs.Pages.{all_put, joined}
use Rattle.page_map.proofs.Merged.{rising-all_put, from_sorted-all_put}
use Rattle.page_map.proofs.map.PageMap.with_all.Goals as goal

pub of_pages-requires-clause-rises : goal.of_pages-requires-clause-rises
of_pages-requires-clause-rises g c = rw (c.in_ok-pages.ensures.joined, c.deref.ensures.value) (rising-all_put (joined c.list.result.now) c.args.new.items c.list.ensures.rises)

pub returns-clause-map : goal.returns-clause-map
returns-clause-map g c =
    let kept = joined c.list.result.now in
    let new = c.args.new.items in
    c.in_ok-of_pages.ensures
    ∙ ap (from_sorted {R = nat_cmp}) (c.in_ok-pages.ensures.joined ∙ ap (all_put kept) c.deref.ensures.value)
    ∙ from_sorted-all_put kept new c.list.ensures.rises
    ∙ ap (λ map. all_added map new) c.list.ensures.is
