use Rattle.std.proofs.Common.{ap, sym, subst, ◌∙◌}
use Rattle.std.proofs.lemmas.Result.{on_ok_weaker}
use Rattle.host_views.specs.Links.{KeepsParents, registry_in}
use Rattle.host_views.proofs.Steps.{delete_kept, delete_shown}
use Rattle.host_views.proofs.mutations.delete_view.Goals as goal

pub returns-clause-kept : goal.returns-clause-kept
returns-clause-kept c =
    on_ok_weaker c.remove.result (λ removed. subst KeepsParents (sym removed) (delete_kept c.args.links.now c.args.tag c.requires.kept c.requires.fits)) c.remove.ensures.ok

pub returns-clause-shown : goal.returns-clause-shown
returns-clause-shown c =
    on_ok_weaker c.remove.result (λ removed. ap registry_in removed ∙ delete_shown c.args.links.now c.args.tag) c.remove.ensures.ok
