-- What stands mounted: a base, with the registry of its views.
use Rattle.std.specs.Prelude.{◌≡◌, ℕ, List, take, refl}
use Rattle.std.specs.Coded.{Coded, code_by, coded×, coded_ℕ}
use Rattle.shadow_frame.specs.declared.Size.{Size}
use Rattle.host_views.specs.Plain.{PlainHostTree}
use Rattle.host_views.specs.Registry.{PlainRegistry, registry_of}
use Rattle.view_flatten.specs.HostTree.{host_tree_of}
use Rattle.shadow_node.specs.Stamps.{stamp_in}
use Rattle.shadow_node.specs.Entered.{entered_between}
use Rattle.tree_revision.specs.Records.{PlainRecord}
use Rattle.tree_revision.specs.Settled.{SettledRevision, KeptRevision, coded_revision}
use Rattle.tree_revision.specs.Stands.{StandsFor, settled_of}

-- a coordinator: the revision that stands mounted, whose views its registry has, and how many nodes it has entered
pub record PlainCoordinator : Type 0 where
  pub base : SettledRevision
  pub entered : ℕ

abbrev pub coded_coordinator : Coded PlainCoordinator
coded_coordinator =
    code_by (SettledRevision × ℕ) (coded× coded_revision coded_ℕ) (λ c. (c.base, c.entered))
    (λ p. record { base = p.0; entered = p.1 }) (λ _. refl)

-- a revision and a registry stand mounted: the one is its own mountable revision, the other that of its host tree
pub record StandMounted (revision : KeptRevision) (registry : PlainRegistry) : Type 0 where
  pub mountable : revision.mountable ≡ revision.newest
  pub views : registry ≡ registry_of (host_tree_of revision.newest.forest)

-- a base as a revision: it is its own mountable one
abbrev pub mounted_whole : SettledRevision → KeptRevision
mounted_whole base = record { newest = base; mountable = base }

-- on a surface of that first size a base stands for a list of records
abbrev pub IsBaseOf : Size → SettledRevision → List PlainRecord → Type 0
IsBaseOf first base entries = StandsFor first (mounted_whole base) entries

-- a base stands for the first of some records, as many as its number says
abbrev pub IsBaseIn : Size → List PlainRecord → SettledRevision → Type 0
IsBaseIn first entries base = IsBaseOf first base (take base.number entries)

-- how many nodes are entered from one base to a newer one: those of either that can have changed since the older one
abbrev pub entered_from : (old new : SettledRevision) → ℕ
entered_from old new = entered_between (stamp_in new.stamps) old.number old.forest new.forest

-- the host tree of the first records of a history, on a surface of that first size
abbrev pub host_tree_at : Size → List PlainRecord → ℕ → PlainHostTree
host_tree_at first entries number = host_tree_of (settled_of first (take number entries))
