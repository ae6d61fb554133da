-- What a change leads to in a rebuild. Only contracts inside the crate cite it.
use Rattle.std.specs.Prelude.{◌≡◌, ℕ, List, [], ◌∷◌, ◌++◌, take, Some, Result, Ok, Err}
use Rattle.shadow_frame.specs.declared.Size.{Size}
use Rattle.tree_revision.specs.Records.{PlainOp, PlainRecord}
use Rattle.tree_revision.specs.Settled.{KeptRevision}
use Rattle.tree_revision.specs.Stands.{StandsFor}
use Rattle.tree_revision.specs.declared.record.Cancel.{Cancel}
use Rattle.tree_query.specs.Rebuilt.{PlainRebuild, IsRebuildOf, IsCauseAt}

-- a change at a number of a rebuild, by a caller that holds another, leads to a revision: that of the records up to there and one of that change
abbrev pub LeadsTo : PlainRebuild → PlainOp → (at held : ℕ) → KeptRevision → Type 0
LeadsTo rebuild op at held next =
    (first : Size) (entries : List PlainRecord) (entry : PlainRecord) → IsRebuildOf first rebuild entries → entry.op ≡ op → entry.held ≡ held
    → StandsFor first next (take at entries ++ entry ∷ [])

-- it leads to a revision there, or has a cause to be cancelled
abbrev pub IsNextAfter : PlainRebuild → PlainOp → (at held : ℕ) → Result KeptRevision Cancel → Type 0
IsNextAfter rebuild op at held (Ok next) = LeadsTo rebuild op at held next
IsNextAfter rebuild op at held (Err cause) = IsCauseAt rebuild op at held (Some cause)
