use Rattle.std.proofs.Common.{sym, ap, ◌∙◌}
use Rattle.std.specs.Ordering.{nat_cmp}
use Rattle.std.specs.FinMap.{get, get-from_sorted}
use Rattle.page_map.specs.Pages.{joined}
use Rattle.page_map.proofs.Rising.{rising_sorted}
use Rattle.page_map.proofs.map.PageMap.get_near.Goals as goal

pub returns-in-Some : goal.returns-in-Some
returns-in-Some g c =
    let all = joined c.list-pages.result.now in
    c.in-Some.ensures ∙ sym (get-from_sorted nat_cmp all c.args.tag (rising_sorted all c.list-pages.ensures.rises)) ∙ ap (λ map. get map c.args.tag) c.list-pages.ensures.is

pub returns-in-None : goal.returns-in-None
returns-in-None g c =
    let all = joined c.list-pages.result.now in
    c.value_sought.ensures ∙ sym (get-from_sorted nat_cmp all c.args.tag (rising_sorted all c.list-pages.ensures.rises)) ∙ ap (λ map. get map c.args.tag) c.list-pages.ensures.is
