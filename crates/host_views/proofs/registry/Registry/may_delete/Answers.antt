use Rattle.std.proofs.Common.{◌↔◌, [], IsTrue, IsSomeAnd, is_some, ◌≡◌, length, ap, sym, ◌∙◌, subst}
use Rattle.std.specs.Prelude.{◌==◌}
use Rattle.std.specs.Option.{option_copied}
use Rattle.std.specs.FinMap.{get}
use Rattle.host_views.specs.Plain.{delete}
use Rattle.host_views.specs.Registry.{Fits}
use Rattle.host_views.proofs.Asked.{delete_loose, delete_parent, nothing_shown}
use Rattle.host_views.proofs.registry.Registry.may_delete.Goals as goal

pub returns-then-is_empty : goal.returns-then-is_empty
returns-then-is_empty c =
    subst (λ registry. IsTrue c.is_none.result ↔ Fits registry (delete c.args.tag)) c.self.view_is
    (delete_loose c.self.inside.links c.args.tag c.in-Some.linked.now c.is_none.result c.self.invariant (sym c.get.ensures ∙ ap option_copied c.in-Some.is)
    (ap (λ tags. length tags == 0) (sym c.children.ensures) ∙ sym c.is_empty.ensures ∙ c.if-is_empty.true) (ap is_some (sym c.parent.ensures) ∙ c.is_none.ensures))

pub returns-else-is_empty : goal.returns-else-is_empty
returns-else-is_empty c =
    subst (λ registry. IsTrue c.is_empty.result ↔ Fits registry (delete c.args.tag)) c.self.view_is
    (delete_parent c.self.inside.links c.args.tag c.in-Some.linked.now c.is_empty.result (sym c.get.ensures ∙ ap option_copied c.in-Some.is)
    (c.is_empty.ensures ∙ ap (λ tags. length tags == 0) c.children.ensures) c.if-is_empty.false)

pub returns-in-None : goal.returns-in-None
returns-in-None c = (
  λ t. cc,
  λ fits. absurd (nothing_shown (λ shown. shown.children ≡ []) c.self.inside.links c.args.tag (sym c.get.ensures ∙ ap option_copied c.in-None.is)
      (subst (λ registry. IsSomeAnd (get registry.views c.args.tag) (λ shown. shown.children ≡ [])) (sym c.self.view_is) fits.0)),
)
