-- A list that is a mount on a registry may be applied there, and leads to the registry of the host tree that it mounts.
use Rattle.std.proofs.Common.{◌≡◌, List, sym, ◌∙◌, subst}
use Rattle.host_views.specs.Plain.{PlainHostTree, PlainMutation}
use Rattle.host_views.specs.Registry.{PlainRegistry, MayApply, mutated, registry_of}
use Rattle.view_mutation.proofs.Whole.{lead_on}
use Rattle.frame_watch.specs.Mounts.{IsMount}

pub may_apply : (registry : PlainRegistry) (list : List PlainMutation) (old new : PlainHostTree) → IsMount registry list old new → MayApply list registry
may_apply registry list old new mount =
    subst (λ (at : List PlainMutation × PlainRegistry). MayApply at.0 at.1) (λ i. (sym mount.leads i, sym mount.stands i))
    (lead_on old new mount.old_tree mount.new_tree mount.kinds).applied

pub mounted : (registry : PlainRegistry) (list : List PlainMutation) (old new : PlainHostTree) → IsMount registry list old new → mutated list registry ≡ registry_of new
mounted registry list old new mount =
    (λ i. mutated (mount.leads i) (mount.stands i)) ∙ (lead_on old new mount.old_tree mount.new_tree mount.kinds).reached
