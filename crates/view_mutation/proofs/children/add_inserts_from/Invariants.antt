use Rattle.std.proofs.Common.{◌≡◌, ◌++◌, map, drop}
use Rattle.host_views.specs.Plain.{plain_mutation}
use Rattle.view_mutation.specs.Mutations.{inserts_from}
use Rattle.view_mutation.specs.Children.{tags_in}
use Rattle.view_mutation.proofs.children.add_inserts_from.Given as goal

abbrev pub invariant-loop-at : goal.invariant-loop-at
invariant-loop-at l = record {
  left : map plain_mutation l.list ++ inserts_from l.parent l.at (tags_in (drop l.at l.tags))
      ≡ map plain_mutation l.initial.list ++ inserts_from l.parent l.stay (tags_in (drop l.stay l.tags));
}
