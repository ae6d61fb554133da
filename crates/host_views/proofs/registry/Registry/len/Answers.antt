use Rattle.std.proofs.Common.{ap, sym, ◌∙◌}
use Rattle.std.specs.FinMap.{len}
use Rattle.host_views.proofs.Shown.{len_shown}
use Rattle.host_views.proofs.registry.Registry.len.Goals as goal

pub returns : goal.returns
returns c = c.len.ensures ∙ sym (len_shown c.self.inside.links.views) ∙ ap (λ registry. len registry.views) c.self.view_is
