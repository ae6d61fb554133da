-- Lawful histories: each commit may follow those before it.
use Rattle.std.specs.Prelude.{◌≡◌, ◌≤◌, List, [], ◌∷◌, ◌++◌, length, None}
use Rattle.shadow_frame.specs.declared.Size.{Size}
use Rattle.tree_revision.specs.Records.{PlainRecord}
use Rattle.tree_revision.specs.InRange.{IsOpInRange}
use Rattle.tree_revision.specs.Cancels.{cancel_of}

-- a record may follow a list: its values are in range, its caller held a revision of the list, and nothing cancels it there
pub record MayFollow (first : Size) (entries : List PlainRecord) (entry : PlainRecord) : Type 0 where
  pub in_range : IsOpInRange entry.op
  pub held : entry.held ≤ length entries
  pub admitted : cancel_of first entry.op entries entry.held ≡ None

-- each of more records may follow those before it
abbrev pub MayAllFollow : Size → (before : List PlainRecord) → List PlainRecord → Type 0
MayAllFollow first before [] = Unit {0}
MayAllFollow first before (entry ∷ entries) = MayFollow first before entry × MayAllFollow first (before ++ entry ∷ []) entries

-- a list of records is lawful, on a surface of that first size, where each may follow those before it
abbrev pub IsLawful : Size → List PlainRecord → Type 0
IsLawful first entries = MayAllFollow first [] entries
