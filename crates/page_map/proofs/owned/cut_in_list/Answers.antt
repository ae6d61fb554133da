use Rattle.std.proofs.Common.{◌+◌, ◌≤◌, length, sym, subst, take, drop}
use Rattle.page_map.specs.Pages.{IsParted}
use Rattle.page_map.proofs.Cut.{table_cut, cut_in_all, part_le}
use Rattle.page_map.proofs.owned.cut_in_list.Goals as goal

pub cut_in_page-requires-clause-count : goal.cut_in_page-requires-clause-count
cut_in_page-requires-clause-count g c =
    let pages = c.args.pages.now.items in
    let at = c.page_place-at.result in
    let page = c.index_mut.result.now in
    let place = rw c.deref-2.ensures.value at c.page_place-at.ensures in
    let parted = subst (λ page. IsParted pages c.args.tag (take at pages) page.value (drop (at + 1) pages)) (sym c.index_mut.ensures.value) (place.parted page) in
    part_le pages c.args.count.now c.requires c.args.tag at page page place.place parted

pub returns-clause-table : goal.returns-clause-table
returns-clause-table g c =
    let pages = c.args.pages.now.items in
    let at = c.page_place-at.result in
    let page = c.index_mut.result.now in
    let place = rw c.deref-2.ensures.value at c.page_place-at.ensures in
    let many = rw c.deref.ensures.value at c.least_of-least.ensures.many in
    let parted = subst (λ page. IsParted pages c.args.tag (take at pages) page.value (drop (at + 1) pages)) (sym c.index_mut.ensures.value) (place.parted page) in
    table_cut pages c.args.count.now c.requires c.args.tag at page c.cut_in_page.new.page place.place parted c.cut_in_page.new.count c.cut_in_page.ensures.page (λ two. subst (λ least. least ≤ length page.value → least ≤ length c.cut_in_page.new.page.value) (many two) c.cut_in_page.ensures.enough) c.cut_in_page.ensures.counted c.cut_in_page.result c.cut_in_page.ensures.cut

pub returns-clause-cut : goal.returns-clause-cut
returns-clause-cut g c =
    let pages = c.args.pages.now.items in
    let at = c.page_place-at.result in
    let page = c.index_mut.result.now in
    let place = rw c.deref-2.ensures.value at c.page_place-at.ensures in
    let parted = subst (λ page. IsParted pages c.args.tag (take at pages) page.value (drop (at + 1) pages)) (sym c.index_mut.ensures.value) (place.parted page) in
    cut_in_all pages c.args.count.now c.requires c.args.tag at page c.cut_in_page.new.page place.place parted c.cut_in_page.result c.cut_in_page.ensures.cut
