-- A commit's tries, and the numbers at which it looked.
use Rattle.std.specs.Prelude.{◌≡◌, ℕ, ◌+◌, ◌-◌, ◌≤◌, List, length, take, min, count_by, is_none, Some}
use Rattle.std.specs.List.{range_with_len}
use Rattle.shadow_frame.specs.declared.Size.{Size}
use Rattle.tree_revision.specs.Records.{PlainRecord}
use Rattle.tree_revision.specs.Cancels.{cancel_of}
use Rattle.tree_revision.specs.Wishes.{Wish}
use Rattle.tree_revision.specs.Ports.{Told}
use Rattle.commit_core.specs.Commit.{CommitPhase, fresh, ready, over, PlainCommit, entry_under_way, looked_at}

-- the number below which a commit has looked: where it is to look again, one that was reached
abbrev pub looked_below : CommitPhase → Told → ℕ
looked_below (fresh entry) told = min told.floor (length told.seen + 1)
looked_below (ready entry wished next) told = length told.seen + 1
looked_below over told = 0

-- where a commit asks for what is wished of it
module _ (wish : Wish) where
  -- how many numbers, from one on and below another, have no cause for a record after that many of some records
  abbrev pub clear_numbers : Size → List PlainRecord → PlainRecord → (from below : ℕ) → ℕ
  clear_numbers first entries entry from below =
      count_by (λ number. is_none (cancel_of first (wish (take number entries) entry.held entry.op) (take number entries) entry.held)) (range_with_len from (below - from))

  -- each try of a commit had a number of its own, from one on, at which it had no cause
  pub record TriesHaveClearNumbers (from : ℕ) (told : Told) (commit : PlainCommit) : Type 0 where
    pub enough : (entry : PlainRecord) → entry_under_way commit ≡ Some entry
        → commit.tries ≤ clear_numbers told.first told.seen entry from (looked_below commit.phase told)
    pub once : (number : ℕ) → looked_at commit ≡ Some number → 1 ≤ commit.tries
