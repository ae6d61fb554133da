use Rattle.std.proofs.Common.{ap, sym, ◌∙◌, subst}
use Rattle.std.specs.Ordering.{nat_cmp}
use Rattle.std.specs.FinMap.{from_sorted}
use Rattle.page_map.specs.Pages.{IsTable, joined, listed}
use Rattle.page_map.proofs.Cut.{map_cut}
use Rattle.page_map.proofs.map.PageMap.cut.Goals as goal

pub returns-in-Some : goal.returns-in-Some
returns-in-Some g c =
    let was = joined c.in-Some.pages.value.items in
    let table = subst (λ pages. IsTable (listed pages) c.self.inside.count) c.in-Some.is c.self.invariant in
    let view = ap (λ pages. from_sorted {R = nat_cmp} (joined (listed pages))) (sym c.in-Some.is) ∙ c.self.view_is in
    map_cut was (joined c.cut_in.new.pages.value.items) c.args.self.now c.args.tag table.rises view c.cut_in.result c.cut_in.ensures.cut
