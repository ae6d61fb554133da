use Rattle.std.proofs.Common.{◌+◌, sym, subst, arith, take, drop}
use Rattle.page_map.specs.Pages.{IsParted, joined}
use Rattle.page_map.proofs.Rising.{rising_few}
use Rattle.page_map.proofs.Put.{table_put, put_in_all}
use Rattle.page_map.proofs.owned.put_in_list.Goals as goal

pub put_in_page-requires-clause-count : goal.put_in_page-requires-clause-count
put_in_page-requires-clause-count g c = omega (arith, c.requires.counted, rising_few 4294967296 (joined c.args.pages.now.items) c.requires.rises c.requires.in_range)

pub returns-clause-table : goal.returns-clause-table
returns-clause-table g c =
    let pages = c.args.pages.now.items in
    let at = c.page_place-at.result in
    let page = c.index_mut.result.now in
    let place = rw c.deref.ensures.value at c.page_place-at.ensures in
    let parted = subst (λ page. IsParted pages c.args.tag (take at pages) page.value (drop (at + 1) pages)) (sym c.index_mut.ensures.value) (place.parted page) in
    table_put pages c.args.count.now c.requires c.args.tag at page c.put_in_page.new.page place.place parted c.args.value c.ranges.tag.fits c.put_in_page.new.count c.put_in_page.ensures.page c.put_in_page.ensures.counted c.put_in_page.result c.put_in_page.ensures.put

pub returns-clause-put : goal.returns-clause-put
returns-clause-put g c =
    let pages = c.args.pages.now.items in
    let at = c.page_place-at.result in
    let page = c.index_mut.result.now in
    let place = rw c.deref.ensures.value at c.page_place-at.ensures in
    let parted = subst (λ page. IsParted pages c.args.tag (take at pages) page.value (drop (at + 1) pages)) (sym c.index_mut.ensures.value) (place.parted page) in
    put_in_all pages c.args.count.now c.requires c.args.tag at page c.put_in_page.new.page place.place parted c.args.value c.ranges.tag.fits c.put_in_page.new.count c.put_in_page.ensures.page c.put_in_page.ensures.counted c.put_in_page.result c.put_in_page.ensures.put
