use Rattle.std.proofs.Common.{◌≡◌, drop}
use Rattle.shadow_node.specs.Stamps.{all_stamped}
use Rattle.shadow_node.proofs.stamps.Stamps.with_each.Given as goal

abbrev pub invariant-loop-tag : goal.invariant-loop-tag
invariant-loop-tag l = all_stamped l.numbers l.number (drop l.tag-index l.tags) ≡ all_stamped l.initial.numbers l.number l.tags
