use Rattle.std.proofs.Common.{ap, sym, ◌∙◌}
use Rattle.host_views.specs.Registry.{children_in}
use Rattle.host_views.proofs.Shown.{shown_children}
use Rattle.host_views.proofs.registry.Registry.children_of.Goals as goal

pub returns : goal.returns
returns c = c.children_of.ensures ∙ sym (shown_children c.self.inside.links c.args.tag) ∙ ap (λ registry. children_in registry c.args.tag) c.self.view_is
