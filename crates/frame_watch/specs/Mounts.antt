-- When a list of mutations is that of a mount on a registry.
use Rattle.std.specs.Prelude.{◌≡◌, List}
use Rattle.host_views.specs.HostTree.{IsHostTree}
use Rattle.host_views.specs.Plain.{PlainHostTree, PlainMutation}
use Rattle.host_views.specs.Registry.{PlainRegistry, registry_of}
use Rattle.view_mutation.specs.Leads.{HaveOneKind}
use Rattle.view_mutation.specs.Mutations.{mutations_between}

-- the registry is that of a host tree, the list has the mutations from there to another host tree, and a tag that is in both has one kind
pub record IsMount (registry : PlainRegistry) (list : List PlainMutation) (old new : PlainHostTree) : Type 0 where
  pub old_tree : IsHostTree old
  pub new_tree : IsHostTree new
  pub kinds : HaveOneKind old new
  pub stands : registry ≡ registry_of old
  pub leads : list ≡ mutations_between old new

-- the list is a mount on that registry, from some host tree to some other
pub record MayMount (registry : PlainRegistry) (list : List PlainMutation) : Type 0 where
  pub old : PlainHostTree
  pub new : PlainHostTree
  pub mount : IsMount registry list old new
