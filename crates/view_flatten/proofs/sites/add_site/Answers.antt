use Rattle.std.proofs.Common.{◌≡◌, not, ◌&&◌, ap, sym, subst, ◌∙◌}
use Rattle.std.proofs.lemmas.List.Elements.{All-push}
use Rattle.view_flatten.specs.Sites.{AreSitesMarked, IsSiteMarked, is_context}
use Rattle.view_flatten.specs.Walks.{PlainSpot}
use Rattle.view_flatten.proofs.sites.add_site.Goals as goal

pub returns-in_ok-push-clause-marked : goal.returns-in_ok-push-clause-marked
returns-in_ok-push-clause-marked c = λ test is marked.
    let site = c.site_of.result in
    let fields : site.spot.tree.fields ≡ c.args.spot.now.tree.fields = ap (λ (spot : PlainSpot). spot.tree.fields) c.site_of.ensures.spot in
    let mark : IsSiteMarked test site = record {
      skipped = c.site_of.ensures.mark ∙ is ∙ ap test (sym fields);
      holds = c.site_of.ensures.holds ∙ (λ i. c.requires.context i && not (is i)) ∙ ap (λ settled. is_context settled && not (test settled)) (sym fields);
    } in
    subst (AreSitesMarked test) (sym c.in_ok-push.ensures.items) (All-push (IsSiteMarked test) c.args.sites.now.items site marked mark)
