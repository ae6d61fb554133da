-- A revision that stands for no records, as the first base.
use Rattle.std.proofs.Common.{◌≡◌, List, [], false, refl, ap, sym, ◌∙◌, subst}
use Rattle.std.specs.Prelude.{Option, Some, None, is_some}
use Rattle.std.specs.FinMap.{get}
use Rattle.std.specs.FinMap as table
use Rattle.shadow_frame.specs.declared.Size.{Size}
use Rattle.host_views.specs.Registry.{PlainRegistry, registry_of}
use Rattle.host_views.proofs.Tables.{same_table}
use Rattle.view_flatten.specs.HostTree.{host_tree_of}
use Rattle.tree_revision.specs.Records.{PlainRecord}
use Rattle.tree_revision.specs.Settled.{SettledRevision, KeptRevision}
use Rattle.tree_revision.specs.Stands.{HasContentOf, StandsFor}
use Rattle.mount_coordinator.specs.Mounted.{StandMounted, IsBaseOf}

-- two that are nothing
both_none : {A : Type 0} (a b : Option A) → is_some a ≡ false → is_some b ≡ false → a ≡ b
both_none None None one other = refl
both_none (Some x) b one other = absurd cc
both_none None (Some x) one other = absurd cc

-- no records have one content
same_content : (first : Size) (a b : SettledRevision) → HasContentOf first a [] → HasContentOf first b [] → a ≡ b
same_content first a b is other = λ i. record {
  number = (is.number ∙ sym other.number) i;
  size = (is.size ∙ sym other.size) i;
  forest = (is.forest ∙ sym other.forest) i;
  families = same_table a.families b.families (λ tag. is.families tag ∙ sym (other.families tag)) i;
  stamps = same_table a.stamps b.stamps (λ tag. both_none (get a.stamps tag) (get b.stamps tag) (is.stamps.mounted tag) (other.stamps.mounted tag)) i;
}

-- so a revision that stands for no records is its own mountable one
opened_whole : (first : Size) (revision : KeptRevision) → StandsFor first revision [] → revision.mountable ≡ revision.newest
opened_whole first revision stands = same_content first revision.mountable revision.newest stands.mountable stands.newest

-- and its registry has the root alone
pub opened_mounted : (first : Size) (revision : KeptRevision) (registry : PlainRegistry) → StandsFor first revision []
    → registry ≡ record { root = []; views = table.empty } → StandMounted revision registry
opened_mounted first revision registry stands root = record {
  mountable = opened_whole first revision stands;
  views = root ∙ ap (λ forest. registry_of (host_tree_of forest)) (sym stands.newest.forest);
}

-- it is the base of whatever records it stands for
pub opened_base : (first : Size) (revision : KeptRevision) → StandsFor first revision [] → (size : Size) (entries : List PlainRecord)
    → StandsFor size revision entries → IsBaseOf size revision.newest entries
opened_base first revision none size entries stands =
    subst (λ still. StandsFor size (record { newest = revision.newest; mountable = still }) entries) (opened_whole first revision none) stands
