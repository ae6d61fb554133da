use Rattle.std.proofs.Common.{Option, Some, Bor, ap, sym, ◌∙◌}
use Rattle.std.specs.Option.{option_copied, option_map}
use Rattle.std.specs.FinMap.{get}
use Rattle.host_views.specs.declared.HostView.{HostView}
use Rattle.host_views.specs.Links.{PlainLinkedView}
use Rattle.host_views.proofs.Shown.{shown_view}
use Rattle.host_views.proofs.registry.Registry.view.Goals as goal

abbrev view_of : Option (Bor PlainLinkedView) → Option HostView
view_of got = option_map (λ linked. linked.view) (option_copied got)

pub returns-in-Some-clause-view : goal.returns-in-Some-clause-view
returns-in-Some-clause-view c =
    ap Some c.view.ensures ∙ sym (ap view_of c.in-Some.is) ∙ ap (option_map (λ linked. linked.view)) c.get.ensures ∙ sym (shown_view c.self.inside.links.views c.args.tag)
    ∙ ap (λ registry. option_map (λ shown. shown.view) (get registry.views c.args.tag)) c.self.view_is

pub returns-in-None-clause-view : goal.returns-in-None-clause-view
returns-in-None-clause-view c =
    sym (ap view_of c.in-None.is) ∙ ap (option_map (λ linked. linked.view)) c.get.ensures ∙ sym (shown_view c.self.inside.links.views c.args.tag)
    ∙ ap (λ registry. option_map (λ shown. shown.view) (get registry.views c.args.tag)) c.self.view_is
