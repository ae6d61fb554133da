use Rattle.std.proofs.Common.{◌≡◌, ◌+◌, ap, sym, subst, ◌∙◌, refl, inl, inr, take, drop}
use Rattle.std.specs.Ordering.{nat_cmp}
use Rattle.std.specs.FinMap.{find, from_sorted, get, put}
use Rattle.std.specs.Arc.{arc_with_value}
use Rattle.page_map.specs.Pages.{IsParted, IsTable, joined, listed}
use Rattle.page_map.proofs.Parts.{found_here}
use Rattle.page_map.proofs.Put.{table_lent, map_lent, table_same, map_same}
use Rattle.page_map.proofs.map.PageMap.get_mut.Goals as goal

pub invariant_of-self-lent : goal.invariant_of-self-lent
invariant_of-self-lent g c =
    let items = c.in-Some-get_mut.pages.now.items in
    let at = c.page_place-at.result in
    let page = c.index_mut-page.result.now in
    let items_are : items ≡ c.in-Some.pages.value.items = ap (λ v. v.items) (rw c.in-Some.is at c.in-Some-get_mut.ensures.value) in
    let table = subst (λ pages. IsTable pages c.self.inside.count) (sym items_are) (subst (λ pages. IsTable (listed pages) c.self.inside.count) c.in-Some.is c.self.invariant) in
    let place = rw c.deref.ensures.value at c.page_place-at.ensures in
    let parted = subst (λ page. IsParted items c.args.tag (take at items) page.value (drop (at + 1) items)) (sym c.index_mut-page.ensures.value) (place.parted page) in
    let below = rw c.entries.ensures.entries at c.place_of-place.ensures.below in
    let there = rw c.entries-in-Some-get_mut-2.ensures.entries at (c.has_tag.ensures.0 c.if-has_tag.true) in
    rw c.in-Some.is (λ w. table_lent items c.self.inside.count table c.args.tag at page _ place.place parted c.ranges.tag.fits c.in-Some-get_mut-2.page.now c.place_of-place.result c.in-Some-get_mut-2.ensures.value c.entries.ensures.page below there.0 there.1 w refl)

pub invariant_of-self-else-has_tag : goal.invariant_of-self-else-has_tag
invariant_of-self-else-has_tag g c =
    let items = c.in-Some-get_mut.pages.now.items in
    let at = c.page_place-at.result in
    let page = c.index_mut-page.result.now in
    let items_are : items ≡ c.in-Some.pages.value.items = ap (λ v. v.items) (rw c.in-Some.is at c.in-Some-get_mut.ensures.value) in
    let table = subst (λ pages. IsTable pages c.self.inside.count) (sym items_are) (subst (λ pages. IsTable (listed pages) c.self.inside.count) c.in-Some.is c.self.invariant) in
    let place = rw c.deref.ensures.value at c.page_place-at.ensures in
    let parted = subst (λ page. IsParted items c.args.tag (take at items) page.value (drop (at + 1) items)) (sym c.index_mut-page.ensures.value) (place.parted page) in
    rw c.in-Some.is (table_same items c.self.inside.count table c.args.tag at page _ place.place parted c.in-Some-get_mut-2.ensures.value c.entries.ensures.page)

pub returns-then-has_tag : goal.returns-then-has_tag
returns-then-has_tag g c =
    let items = c.in-Some-get_mut.pages.now.items in
    let at = c.page_place-at.result in
    let page = c.index_mut-page.result.now in
    let items_are : items ≡ c.in-Some.pages.value.items = ap (λ v. v.items) (rw c.in-Some.is at c.in-Some-get_mut.ensures.value) in
    let table = subst (λ pages. IsTable pages c.self.inside.count) (sym items_are) (subst (λ pages. IsTable (listed pages) c.self.inside.count) c.in-Some.is c.self.invariant) in
    let view = ap (λ pages. from_sorted {R = nat_cmp} (joined pages)) items_are ∙ ap (λ pages. from_sorted {R = nat_cmp} (joined (listed pages))) (sym c.in-Some.is) ∙ c.self.view_is in
    let place = rw c.deref.ensures.value at c.page_place-at.ensures in
    let parted = subst (λ page. IsParted items c.args.tag (take at items) page.value (drop (at + 1) items)) (sym c.index_mut-page.ensures.value) (place.parted page) in
    let found = c.value_mut.ensures.value ∙ ap (find nat_cmp c.args.tag) c.in-Some-get_mut-2.ensures.value ∙ found_here items table.rises c.args.tag (take at items) page.value (drop (at + 1) items) parted ∙ ap (λ map. get map c.args.tag) view in
    rw c.in-Some.is (λ i. inl (c.value_mut.result.ghost_name, λ w. map_lent items c.self.inside.count c.args.self.now table view c.args.tag at page (arc_with_value page (put nat_cmp c.args.tag w c.in-Some-get_mut-2.page.now)) place.place parted c.in-Some-get_mut-2.page.now c.in-Some-get_mut-2.ensures.value w refl i), record { writes_back = tt; value = found })

pub returns-else-has_tag : goal.returns-else-has_tag
returns-else-has_tag g c =
    let items = c.in-Some-get_mut.pages.now.items in
    let at = c.page_place-at.result in
    let page = c.index_mut-page.result.now in
    let items_are : items ≡ c.in-Some.pages.value.items = ap (λ v. v.items) (rw c.in-Some.is at c.in-Some-get_mut.ensures.value) in
    let table = subst (λ pages. IsTable pages c.self.inside.count) (sym items_are) (subst (λ pages. IsTable (listed pages) c.self.inside.count) c.in-Some.is c.self.invariant) in
    let view = ap (λ pages. from_sorted {R = nat_cmp} (joined pages)) items_are ∙ ap (λ pages. from_sorted {R = nat_cmp} (joined (listed pages))) (sym c.in-Some.is) ∙ c.self.view_is in
    let place = rw c.deref.ensures.value at c.page_place-at.ensures in
    let parted = subst (λ page. IsParted items c.args.tag (take at items) page.value (drop (at + 1) items)) (sym c.index_mut-page.ensures.value) (place.parted page) in
    rw c.in-Some.is (λ i. inr (map_same items c.self.inside.count table c.args.tag at page (arc_with_value page c.in-Some-get_mut-2.page.now) place.place parted c.in-Some-get_mut-2.ensures.value c.args.self.now view i), record { writes_back = tt; value = tt })
