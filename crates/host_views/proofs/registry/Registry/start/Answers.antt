use Rattle.std.proofs.Common.{[], ap, sym, subst, ◌∙◌}
use Rattle.host_views.specs.Links.{KeepsParents, registry_in}
use Rattle.host_views.proofs.Shown.{shown_empty}
use Rattle.host_views.proofs.Parents.{kept_start}
use Rattle.host_views.proofs.registry.Registry.start.Goals as goal

pub invariant_of-result : goal.invariant_of-result
invariant_of-result c = subst KeepsParents (sym c.new.ensures) kept_start

pub returns : goal.returns
returns c = ap registry_in c.new.ensures ∙ (λ i. record { root = []; views = shown_empty i })
