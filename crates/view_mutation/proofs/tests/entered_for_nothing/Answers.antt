use Rattle.std.proofs.Common.{◌∙◌, ap, sym}
use Rattle.shadow_node.specs.Seen.{sight_of}
use Rattle.view_mutation.proofs.tests.entered_for_nothing.Goals as goal

pub mutations_since-requires-clause-alike : goal.mutations_since-requires-clause-alike
mutations_since-requires-clause-alike c = λ tree found e. ap (λ walk. sight_of walk.forest tree.fields.fields.tag) (c.over-old.ensures ∙ sym c.over-new.ensures)
