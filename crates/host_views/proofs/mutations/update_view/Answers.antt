use Rattle.std.proofs.Common.{ap, sym, subst, ◌∙◌}
use Rattle.std.proofs.lemmas.Result.{on_ok_weaker}
use Rattle.host_views.specs.Links.{KeepsParents, registry_in, with_view}
use Rattle.host_views.proofs.Parents.{kept_update}
use Rattle.host_views.proofs.Steps.{update_shown}
use Rattle.host_views.proofs.mutations.update_view.Goals as goal

pub returns-clause-kept : goal.returns-clause-kept
returns-clause-kept c =
    on_ok_weaker c.set_view.result
    (λ set. subst KeepsParents (sym set) (kept_update c.args.links.now c.args.tag c.in_ok-view.view.value c.requires.kept)) c.set_view.ensures.ok

pub returns-clause-shown : goal.returns-clause-shown
returns-clause-shown c =
    let links = c.args.links.now in
    on_ok_weaker c.set_view.result
    (λ set. ap registry_in (set ∙ ap (λ view. with_view c.args.tag view links) c.in_ok-view.ensures) ∙ update_shown links c.args.tag c.args.view.now.value) c.set_view.ensures.ok
