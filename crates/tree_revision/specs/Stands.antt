-- What a revision stands for: a list of records.
use Rattle.std.specs.Prelude.{◌≡◌, ℕ, List, length, take}
use Rattle.std.specs.Option.{option_map}
use Rattle.std.specs.Ordering.{nat_cmp}
use Rattle.std.specs.FinMap.{FinMap, get}
use Rattle.shadow_frame.specs.declared.Size.{Size}
use Rattle.native_state.specs.declared.StateCell.{StateCell}
use Rattle.native_state.specs.declared.Family.{Family}
use Rattle.shadow_kinds.specs.declared.Kind.{Kind}
use Rattle.shadow_kinds.specs.Words.{code_of}
use Rattle.tree_revision.specs.Records.{PlainRecord}
use Rattle.tree_revision.specs.Revisions.{kind_of_family, revision_of}
use Rattle.tree_revision.specs.Newest.{newest_state}
use Rattle.tree_revision.specs.Mountable.{mountable_of}
use Rattle.tree_revision.specs.Lawful.{IsLawful}
use Rattle.tree_revision.specs.Stamps.{AreStampsOf}
pub use Rattle.tree_revision.specs.Forests.{settled_of}
use Rattle.tree_revision.specs.Settled.{SettledRevision, KeptRevision}

-- a family: the code of its kind, and its cell
abbrev pub family_of : StateCell → Kind → Family
family_of cell kind = record { kind = code_of kind; cell = cell }

-- families are those of a list of records, each with its newest state
abbrev pub AreFamiliesOf : Size → FinMap nat_cmp Family → List PlainRecord → Type 0
AreFamiliesOf first families entries =
    (tag : ℕ) → get families tag ≡ option_map (family_of (newest_state entries tag)) (kind_of_family (revision_of first entries).families tag)

-- on a surface of that first size a revision has the content of a list of records: its number is their count; its size, forest, families and stamps are theirs, with newest states and with frames
pub record HasContentOf (first : Size) (revision : SettledRevision) (entries : List PlainRecord) : Type 0 where
  pub number : revision.number ≡ length entries
  pub size : revision.size ≡ (revision_of first entries).size
  pub forest : revision.forest ≡ settled_of first entries
  pub families : AreFamiliesOf first revision.families entries
  pub stamps : AreStampsOf first revision.stamps entries

-- on a surface of that first size a revision stands for a list of records: the list is lawful, the newest has the content of all its records, and the mountable one that of the first that may be mounted
pub record StandsFor (first : Size) (revision : KeptRevision) (entries : List PlainRecord) : Type 0 where
  pub lawful : IsLawful first entries
  pub newest : HasContentOf first revision.newest entries
  pub mountable : HasContentOf first revision.mountable (take (mountable_of entries) entries)
