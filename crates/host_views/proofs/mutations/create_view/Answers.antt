use Rattle.std.proofs.Common.{ap, sym, subst, ◌∙◌}
use Rattle.std.proofs.lemmas.Result.{on_ok_weaker}
use Rattle.host_views.specs.Links.{KeepsParents, registry_in}
use Rattle.host_views.proofs.Steps.{create_kept, create_shown}
use Rattle.host_views.proofs.mutations.create_view.Goals as goal

pub returns-clause-kept : goal.returns-clause-kept
returns-clause-kept c =
    let links = c.args.links.now in
    on_ok_weaker c.add.result (λ added. subst KeepsParents (sym added) (create_kept links c.args.tag c.args.view.now.value c.requires.kept c.requires.fits)) c.add.ensures.ok

pub returns-clause-shown : goal.returns-clause-shown
returns-clause-shown c =
    on_ok_weaker c.add.result (λ added. ap registry_in added ∙ create_shown c.args.links.now c.args.tag c.args.view.now.value) c.add.ensures.ok
