-- Where each answer looks, what it leaves, and what an actor holds.
use Rattle.std.specs.Prelude.{ℕ, ◌+◌, ◌-◌, List, length, take, nat_eq, if◌then◌else◌, unwrap_or}
use Rattle.std.specs.List.{find, fold, range_with_len}
use Rattle.tree_revision.specs.Records.{PlainRecord}
use Rattle.tree_revision.specs.Mountable.{mountable_of}
use Rattle.tree_revision.specs.declared.record.Answer.{Answer}
use Rattle.tree_revision.specs.declared.record.Answer.TheVariants.{Held, Admitted, Cancelled, Mounted, Empty}
use Rattle.run_report.specs.declared.journal.StepPart.{StepPart}

-- from a number on the first one whose records may be mounted at that number; where there is none, the one after all records
abbrev pub first_mountable : List PlainRecord → (before number : ℕ) → ℕ
first_mountable entries before number =
    unwrap_or (find (λ q. nat_eq (mountable_of (take q entries)) number) (range_with_len before (length entries + 1 - before))) (length entries + 1)

-- the number of records that an answer looked at, after what was left before
abbrev pub look_point : List PlainRecord → (before : ℕ) → Answer → ℕ
look_point entries before (Held at) = at
look_point entries before (Admitted number tries) = number - 1
look_point entries before (Cancelled at tries cause) = at
look_point entries before (Mounted base to) = first_mountable entries before to
look_point entries before (Empty at) = first_mountable entries before at

-- the number of records that an answer leaves: its own where a commit was admitted, and else what it looked at
abbrev pub point_left : List PlainRecord → (before : ℕ) → Answer → ℕ
point_left entries before (Admitted number tries) = number
point_left entries before answer = look_point entries before answer

-- what the earlier answers of an actor leave on the surface of that id, which has those records
abbrev pub point_before : (id : ℕ) → List PlainRecord → (earlier : List StepPart) → ℕ
point_before id entries earlier =
    fold (λ before part. if nat_eq part.surface id then point_left entries before part.answer else before) 0 earlier

-- what an actor holds after an answer: the revision of a hold, or of its own admitted commit
abbrev pub held_after : Answer → (held : ℕ) → ℕ
held_after (Held at) held = at
held_after (Admitted number tries) held = number
held_after _ held = held

-- the number of the revision that an actor holds on the surface of that id, after its earlier answers
abbrev pub number_held : (id : ℕ) → (earlier : List StepPart) → ℕ
number_held id earlier = fold (λ held part. if nat_eq part.surface id then held_after part.answer held else held) 0 earlier

-- the revision that stands mounted after an answer
abbrev pub mounted_after : Answer → (base : ℕ) → ℕ
mounted_after (Mounted was to) base = to
mounted_after _ base = base
