use Rattle.std.proofs.Common.{◌≡◌, ◌++◌, map, drop}
use Rattle.std.specs.List.{flat_map}
use Rattle.host_views.specs.Plain.{host_tags, plain_mutation}
use Rattle.view_mutation.specs.Children.{children_by, inserts_by}
use Rattle.view_flatten.specs.Placed.{plain_places}
use Rattle.view_mutation.proofs.children.add_inserts.Given as goal

abbrev pub invariant-loop-placed : goal.invariant-loop-placed
invariant-loop-placed l = record {
  left : map plain_mutation l.list ++ flat_map (inserts_by (children_by l.old) (children_by l.new)) (host_tags (plain_places (drop l.placed-index l.places)))
      ≡ map plain_mutation l.initial.list ++ flat_map (inserts_by (children_by l.old) (children_by l.new)) (host_tags (plain_places l.places));
}
