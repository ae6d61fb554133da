use Rattle.std.proofs.Common.{◌≡◌, ◌≤◌, ◌++◌, map, drop}
use Rattle.host_views.specs.Plain.{plain_mutation}
use Rattle.view_mutation.specs.Mutations.{removes_from}
use Rattle.view_mutation.specs.Children.{tags_in}
use Rattle.view_mutation.proofs.children.add_removes_from.Given as goal

abbrev pub invariant-loop-at : goal.invariant-loop-at
invariant-loop-at l = record {
  done : map plain_mutation l.list ≡ map plain_mutation l.initial.list ++ removes_from l.parent l.at (tags_in (drop l.at l.tags));
  least : l.stay ≤ l.at;
}
