use Rattle.std.proofs.Common.{◌≡◌, ◌^◌, ◌<◌, ap, subst, ◌∙◌, IfOk}
use Rattle.std.specs.Ordering.{nat_cmp}
use Rattle.std.specs.FinMap.{from_sorted, remove}
use Rattle.page_map.specs.Pages.{joined}
use Rattle.page_map.proofs.Cut.{each-cut, rising-cut, from_sorted-cut}
use Rattle.page_map.proofs.map.PageMap.without.Goals as goal

pub of_pages-requires-clause-rises : goal.of_pages-requires-clause-rises
of_pages-requires-clause-rises g c = rw c.in_ok-pages.ensures.joined (rising-cut c.args.tag (joined c.list.result.now) c.list.ensures.rises)

pub of_pages-requires-clause-in_range : goal.of_pages-requires-clause-in_range
of_pages-requires-clause-in_range g c = rw c.in_ok-pages.ensures.joined (each-cut (λ e. e.0 < 2 ^ 32) c.args.tag (joined c.list.result.now) c.list.ensures.in_range)

pub returns : goal.returns
returns g c =
    let kept = joined c.list.result.now in
    let is = ap (from_sorted {R = nat_cmp}) c.in_ok-pages.ensures.joined ∙ from_sorted-cut c.args.tag kept c.list.ensures.rises ∙ ap (λ map. remove map c.args.tag) c.list.ensures.is in
    subst (λ map. IfOk c.of_pages.result (λ rest. rest ≡ map)) is c.of_pages.ensures
