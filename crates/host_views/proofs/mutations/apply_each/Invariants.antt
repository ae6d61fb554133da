use Rattle.std.proofs.Common.{◌≡◌, drop, map}
use Rattle.host_views.specs.Plain.{plain_mutation}
use Rattle.host_views.specs.Links.{KeepsParents, registry_in}
use Rattle.host_views.specs.Registry.{MayApply, mutated}
use Rattle.host_views.proofs.mutations.apply_each.Given as goal

abbrev pub invariant-loop-mutation : goal.invariant-loop-mutation
invariant-loop-mutation l = record {
  kept : KeepsParents l.links;
  fit : MayApply (map plain_mutation (drop l.mutation-index l.mutations)) (registry_in l.links);
  shown : mutated (map plain_mutation (drop l.mutation-index l.mutations)) (registry_in l.links)
      ≡ mutated (map plain_mutation l.mutations) (registry_in l.initial.links);
}
