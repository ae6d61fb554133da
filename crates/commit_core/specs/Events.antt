-- What one event of a commit says.
use Rattle.std.specs.Prelude.{◌≡◌, ◌≢◌, ◌⊎◌, ℕ, ◌+◌, ◌≤◌, ◌<◌, List, [], ◌∷◌, ◌++◌, length, take, Option, Some, None, option_and_then}
use Rattle.shadow_frame.specs.declared.Size.{Size}
use Rattle.counts.specs.Raised.{HasRisen}
use Rattle.tree_revision.specs.declared.record.Cancel.{Cancel}
use Rattle.tree_revision.specs.declared.record.Answer.{Answer}
use Rattle.tree_revision.specs.declared.record.Answer.TheVariants.{Held, Admitted, Cancelled, Mounted, Empty}
use Rattle.tree_revision.specs.Records.{PlainOp, PlainRecord}
use Rattle.tree_revision.specs.InRange.{IsOpInRange}
use Rattle.tree_revision.specs.Wishes.{Wish}
use Rattle.tree_revision.specs.Cancels.{cancel_of}
use Rattle.tree_revision.specs.Settled.{KeptRevision}
use Rattle.tree_revision.specs.Stands.{StandsFor}
use Rattle.tree_revision.specs.Ports.{Told, HasLooked, Stays, IsOffer}
use Rattle.commit_core.specs.declared.committer.Progress.{Progress}
use Rattle.commit_core.specs.declared.committer.Progress.TheVariants.{Looked, Again, Busy, Done, Memory}
use Rattle.commit_core.specs.Commit.{CommitPhase, fresh, ready, over, PlainCommit, with_op, entry_under_way, looked_at}

-- a record that may be tried after what is seen: its values are in range, and its caller holds the revision of the first records that are seen
pub record MayBeTried (first : Size) (seen : List PlainRecord) (held : KeptRevision) (entry : PlainRecord) : Type 0 where
  pub in_range : IsOpInRange entry.op
  pub within : entry.held ≤ length seen
  pub stands : StandsFor first held (take entry.held seen)

-- a commit may look at a port that tells this: its record may be tried, and it has looked no more often than the number that the port has reached
pub record MayLook (told : Told) (held : KeptRevision) (tries : ℕ) (entry : PlainRecord) : Type 0 where
  pub may : MayBeTried told.first told.seen held entry
  pub looks : tries ≤ told.floor

-- a commit stands as before, but for its tries and for the number at which it looked
pub record Keeps (before after : PlainCommit) (count : ℕ) (number : Option ℕ) : Type 0 where
  pub entry : entry_under_way after ≡ entry_under_way before
  pub held : after.held ≡ before.held
  pub tries : after.tries ≡ count
  pub looked : looked_at after ≡ number

-- an offer came too late: a number above what was seen is found, which the port has reached, and no more is seen
pub record IsFoundBehind (old new : Told) (found : ℕ) : Type 0 where
  pub above : length old.seen < found
  pub reached : found ≤ new.floor
  pub seen : new.seen ≡ old.seen

-- where a commit asks for what is wished of it
module _ (wish : Wish) where
  -- why a commit is cancelled after a list of records
  abbrev pub cause_after : Size → List PlainRecord → Option PlainRecord → Option Cancel
  cause_after first entries entry = option_and_then (λ entry. cancel_of first (wish entries entry.held entry.op) entries entry.held) entry

  -- a commit may be offered to a port that tells this: its record may be tried, the change that it asks for is what is wished after all that is seen, the revision stands for what is seen and a record of that change, and it has looked no more often than there are numbers up to the one that is seen
  pub record MayOffer (told : Told) (held : KeptRevision) (tries : ℕ) (entry : PlainRecord) (wished : PlainOp) (next : KeptRevision) : Type 0 where
    pub may : MayBeTried told.first told.seen held entry
    pub asked : wished ≡ wish told.seen entry.held entry.op
    pub stands : StandsFor told.first next (told.seen ++ with_op wished entry ∷ [])
    pub looks : tries ≤ length told.seen + 1

  -- what a commit needs for its next event, by where it stands
  abbrev pub IsReadyIn : Told → (held : KeptRevision) → (tries : ℕ) → CommitPhase → Type 0
  IsReadyIn told held tries (fresh entry) = MayLook told held tries entry
  IsReadyIn told held tries (ready entry wished next) = MayOffer told held tries entry wished next
  IsReadyIn told held tries over = ⊥

  -- a commit has not ended, and is ready for its next event at a port that tells this. Each of its looks is at a number above that of the look before, so its tries never pass the numbers
  abbrev pub IsReadyFor : Told → PlainCommit → Type 0
  IsReadyFor told commit = IsReadyIn told commit.held commit.tries commit.phase

  -- a look that found no cause: one try more, and the commit is to be offered after all that is seen
  pub record IsClearLook (old new : Told) (before after : PlainCommit) (number : ℕ) : Type 0 where
    pub looked : looked_at before ≡ None
    pub look : HasLooked old new
    pub at : number ≡ length new.seen
    pub clear : cause_after old.first new.seen (entry_under_way before) ≡ None
    pub keeps : Keeps before after (before.tries + 1) (Some number)
    pub ready : IsReadyFor new after

  -- a look that found a cause: one try more, and the commit has ended
  pub record IsCancelledLook (old new : Told) (before after : PlainCommit) (number count : ℕ) (found : Cancel) : Type 0 where
    pub looked : looked_at before ≡ None
    pub look : HasLooked old new
    pub at : number ≡ length new.seen
    pub cause : cause_after old.first new.seen (entry_under_way before) ≡ Some found
    pub tries : count ≡ before.tries + 1
    pub ended : after.phase ≡ over

  -- an offer that was admitted, of a commit that looked at all that was seen: its record has the change that was wished there, it has ended, and that revision stands for what is seen then
  pub record IsAdmittedOffer (old new : Told) (before after : PlainCommit) (number count : ℕ) (share : Option KeptRevision) : Type 0 where
    pub looked : looked_at before ≡ Some (length old.seen)
    pub entry : PlainRecord
    pub is_entry : entry_under_way before ≡ Some entry
    pub offer : IsOffer old new (with_op (wish old.seen entry.held entry.op) entry) number
    pub tries : count ≡ before.tries
    pub ended : after.phase ≡ over
    pub revision : KeptRevision
    pub now : share ≡ Some revision
    pub stands : StandsFor new.first revision new.seen

  -- an offer that came too late: the commit is to look again
  pub record IsLateOffer (old new : Told) (before after : PlainCommit) (found : ℕ) : Type 0 where
    pub looked : looked_at before ≡ Some (length old.seen)
    pub stays : Stays old new
    pub behind : IsFoundBehind old new found
    pub whole : (entries : List PlainRecord) → old.whole ≡ Some entries → old.seen ≢ entries
    pub keeps : Keeps before after before.tries None
    pub ready : IsReadyFor new after

  -- an event that did not come about leaves the commit as before
  pub record IsAsBefore (old new : Told) (before after : PlainCommit) : Type 0 where
    pub same : after ≡ before
    pub ready : IsReadyFor new after

  -- an event that found the port busy once more: that count rose, or stands at its last value
  pub record IsBusyEvent (old new : Told) (before after : PlainCommit) : Type 0 where
    pub as_before : IsAsBefore old new before after
    pub stays : Stays old new
    pub busy : HasRisen old.busy new.busy

  -- a look for which there was no memory, or not for the revision after it
  pub record IsLookInVain (old new : Told) (before after : PlainCommit) : Type 0 where
    pub as_before : IsAsBefore old new before after
    pub looked : looked_at before ≡ None
    pub look : Stays old new ⊎ HasLooked old new

  -- the end of a commit: it was admitted or cancelled
  abbrev pub IsEnd : (old new : Told) → (before after : PlainCommit) → Answer → (now : Option KeptRevision) → Type 0
  IsEnd old new before after (Held at) now = ⊥
  IsEnd old new before after (Admitted number tries) now = IsAdmittedOffer old new before after number tries now
  IsEnd old new before after (Cancelled at tries cause) now = IsCancelledLook old new before after at tries cause × now ≡ None
  IsEnd old new before after (Mounted base to) now = ⊥
  IsEnd old new before after (Empty at) now = ⊥

  -- one event of a commit at a port: a look, or an offer where it has looked
  abbrev pub IsEvent : (old new : Told) → (before after : PlainCommit) → Progress → Type 0
  IsEvent old new before after (Looked at) = IsClearLook old new before after at
  IsEvent old new before after (Again found) = IsLateOffer old new before after found
  IsEvent old new before after Busy = IsBusyEvent old new before after
  IsEvent old new before after (Done answer now) = IsEnd old new before after answer now
  IsEvent old new before after Memory = IsLookInVain old new before after
