use Rattle.std.proofs.Common.{◌↔◌, IsTrue, IsSome, is_some, ap, sym, ◌∙◌, subst}
use Rattle.std.specs.Option.{option_copied}
use Rattle.std.specs.FinMap.{get}
use Rattle.host_views.specs.Registry.{IsNoChild}
use Rattle.host_views.proofs.Steps.{is_some_shown}
use Rattle.host_views.proofs.Asked.{loose_found}
use Rattle.host_views.proofs.registry.Registry.is_loose.Goals as goal

pub returns-in-Some : goal.returns-in-Some
returns-in-Some c =
    let found = sym c.get.ensures ∙ ap option_copied c.in-Some.is in
    let test = loose_found c.self.inside.links c.args.tag c.in-Some.linked.now c.is_none.result c.self.invariant found (ap is_some (sym c.parent.ensures) ∙ c.is_none.ensures) in
    subst (λ registry. IsTrue c.is_none.result ↔ (IsSome (get registry.views c.args.tag) × IsNoChild registry c.args.tag)) c.self.view_is
    (λ t. (is_some_shown c.self.inside.links c.args.tag ∙ ap is_some found, test.0 t), λ h. test.1 h.1)

pub returns-in-None : goal.returns-in-None
returns-in-None c =
    let found = sym c.get.ensures ∙ ap option_copied c.in-None.is in
    let absent = is_some_shown c.self.inside.links c.args.tag ∙ ap is_some found in
    (λ t. cc, λ h. sym absent ∙ ap (λ registry. is_some (get registry.views c.args.tag)) c.self.view_is ∙ h.0)
