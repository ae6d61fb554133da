use Rattle.std.proofs.Common.{ap, ◌∙◌, ◌++◌, length, arith}
use Rattle.page_map.specs.Pages.{joined}
use Rattle.page_map.proofs.Around.{here_in_order, cut_whole, gathered_rise, few_left}
use Rattle.page_map.proofs.Joined.{half_full_none}
use Rattle.page_map.proofs.thin.pages_without.Goals as goal

pub gathered-requires : goal.gathered-requires
gathered-requires g c = here_in_order c.args.pages.now c.args.tag _ _ _ _ _ c.around.ensures c.requires.rises

pub push_any-requires-clause-rises : goal.push_any-requires-clause-rises
push_any-requires-clause-rises g c = rw c.in_ok-entries.ensures (gathered_rise c.args.pages.now c.args.tag _ _ _ _ _ c.around.ensures c.requires.rises)

pub returns-clause-joined : goal.returns-clause-joined
returns-clause-joined g c =
    let before = c.around.result.0.now in
    let after = c.around.result.4.now in
    c.in_ok-share_pages-2.ensures.joined
    ∙ ap (λ es. es ++ joined after) (c.in_ok-push_any.ensures.joined ∙ ap (λ es. es ++ c.in_ok-entries.entries.items) (c.in_ok-share_pages.ensures.joined ∙ ap (λ pages. joined pages ++ joined before) c.new-all.ensures.items) ∙ ap (λ es. joined before ++ es) c.in_ok-entries.ensures)
    ∙ cut_whole c.args.pages.now c.args.tag before _ _ _ after c.around.ensures c.requires.rises

pub returns-clause-few : goal.returns-clause-few
returns-clause-few g c =
    few_left c.args.pages.now c.args.tag _ _ _ _ _ c.around.ensures c.requires.rises c.share_pages.new.all.items c.push_any.new.pages.items c.share_pages-2.new.all.items c.in_ok-entries.entries.items c.in_ok-entries.ensures
    (omega (arith, c.in_ok-share_pages.ensures.count, ap length c.new-all.ensures.items))
    c.in_ok-push_any.ensures.one c.in_ok-share_pages-2.ensures.count
    (c.in_ok-share_pages.ensures.half_full (half_full_none c.new-all.result.items (ap length c.new-all.ensures.items)))
    c.in_ok-push_any.ensures.half_full c.in_ok-share_pages-2.ensures.half_full
