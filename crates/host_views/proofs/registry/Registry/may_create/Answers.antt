use Rattle.std.proofs.Common.{◌↔◌, IsTrue, IsNone, Bor, Option, None, Some, is_some, ◌≡◌, refl, ◌∙◌, subst}
use Rattle.std.specs.Option.{option_copied}
use Rattle.std.specs.FinMap.{get}
use Rattle.host_views.specs.Links.{PlainLinkedView}
use Rattle.host_views.proofs.Asked.{none_found}
use Rattle.host_views.proofs.registry.Registry.may_create.Goals as goal

copied : (got : Option (Bor PlainLinkedView)) → is_some (option_copied got) ≡ is_some got
copied None = refl
copied (Some linked) = refl

pub returns-then-tag-ne0 : goal.returns-then-tag-ne0
returns-then-tag-ne0 c =
    let test = subst (λ registry. IsTrue c.is_none.result ↔ IsNone (get registry.views c.args.tag)) c.self.view_is
    (none_found c.self.inside.links c.args.tag (option_copied c.get.result) c.is_none.result c.get.ensures (copied c.get.result ∙ c.is_none.ensures)) in
    (λ t. (c.if-tag-ne0.true, test.0 t), λ h. test.1 h.1)
