use Rattle.std.proofs.Common.{◌≡◌, ◌<◌, true, nat_lt, length, ◌∙◌, arith}
use Rattle.std.proofs.lemmas.Bool.Decides.{nat_tests}
use Rattle.page_map.proofs.Standing.{find_standing}
use Rattle.page_map.proofs.near.entry_at.Goals as goal

pub returns-in-Some : goal.returns-in-Some
returns-in-Some g c =
    let pages = c.args.pages.now in
    let page = c.in_ok-get.field-0.now in
    let es = c.entries-entries.result.now in
    let near = c.args.place in
    let at = c.args.place.at in
    let in_list : true ≡ nat_lt near.page (length pages) = c.in_ok-get.ensures.lookup.0 in
    let in_page : true ≡ nat_lt at (length es) = c.in-Some.ensures.lookup.0 in
    let page_lt : near.page < length pages = grind (arith, nat_tests) in
    let at_lt : at < length es = grind (arith, nat_tests) in
    find_standing pages near.page page page_lt c.in_ok-get.ensures.lookup.1 c.requires es (c.entries-entries.ensures.entries ∙ c.deref.ensures) at c.in-Some.entry.now at_lt c.in-Some.ensures.lookup.1 c.args.tag c.if-entry-tag.true
