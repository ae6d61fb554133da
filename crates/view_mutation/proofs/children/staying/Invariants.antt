use Rattle.std.proofs.Common.{◌≡◌, drop, ◌+◌}
use Rattle.view_mutation.specs.Mutations.{common_prefix}
use Rattle.view_mutation.specs.Children.{tags_in}
use Rattle.view_mutation.proofs.children.staying.Given as goal

abbrev pub invariant-loop-at : goal.invariant-loop-at
invariant-loop-at l = record { left : common_prefix (tags_in (drop l.at l.old)) (tags_in (drop l.at l.new)) + l.at ≡ common_prefix (tags_in l.old) (tags_in l.new) }
