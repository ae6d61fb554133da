-- Which revision may be mounted: the newest, or the one before mounting was suspended.
use Rattle.std.specs.Prelude.{ℕ, ◌-◌, List, [], ◌∷◌, length, Bool, true, false, reverse, if◌then◌else◌}
use Rattle.std.specs.List.{before_first}
use Rattle.tree_revision.specs.Records.{PlainOp, suspend, resume, PlainRecord}

-- whether a change suspends mounting
abbrev pub is_suspend : PlainOp → Bool
is_suspend suspend = true
is_suspend _ = false

-- whether a change lets mounting go on
abbrev pub is_resume : PlainOp → Bool
is_resume resume = true
is_resume _ = false

-- the records after the last resume, or all of them where there is none: from the end on, those before the first one
abbrev pub after_last_resume : List PlainRecord → List PlainRecord
after_last_resume entries = reverse (before_first (λ entry. is_resume entry.op) (reverse entries))

-- the records from the first suspend on, or none where there is no suspend
abbrev pub from_first_suspend : List PlainRecord → List PlainRecord
from_first_suspend [] = []
from_first_suspend (entry ∷ entries) = if is_suspend entry.op then entry ∷ entries else from_first_suspend entries

-- the records that are held back from mounting: those from the first suspend after the last resume on
abbrev pub held_back : List PlainRecord → List PlainRecord
held_back entries = from_first_suspend (after_last_resume entries)

-- the number of the revision that may be mounted: that of the records that are not held back
abbrev pub mountable_of : List PlainRecord → ℕ
mountable_of entries = length entries - length (held_back entries)
