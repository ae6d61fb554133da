-- What a commit by a handle answers, and what stands while it is under way.
use Rattle.std.specs.Prelude.{◌≡◌, ℕ, ◌+◌, ◌-◌, ◌*◌, ◌^◌, ◌≤◌, ◌<◌, List, [], ◌∷◌, ◌++◌, length, min, Option, Some, None, Result, Ok, Err}
use Rattle.std.specs.declared.alloc.AllocError.{AllocError}
use Rattle.counts.specs.Raised.{raised, HasRisen}
use Rattle.tree_revision.specs.Records.{PlainOp, PlainRecord}
use Rattle.tree_revision.specs.Cancels.{cancel_of}
use Rattle.tree_revision.specs.Wishes.{as_written}
use Rattle.tree_revision.specs.Ports.{BeginsWith, IsLookRefusal}
use Rattle.tree_revision.specs.Stands.{StandsFor}
use Rattle.tree_revision.specs.declared.port.LookRefusal.{LookRefusal}
use Rattle.tree_revision.specs.declared.record.Cancel.{Cancel}
use Rattle.tree_revision.specs.declared.record.Answer.{Answer}
use Rattle.tree_revision.specs.declared.record.Answer.TheVariants.{Held, Admitted as AnsweredAdmitted, Cancelled as AnsweredCancelled, Mounted, Empty}
use Rattle.commit_spine.specs.SpinePorts.{spine_told}
use Rattle.commit_core.specs.Commit.{PlainCommit, entry_under_way, looked_at}
use Rattle.commit_core.specs.Events.{IsReadyFor}
use Rattle.surface.specs.declared.parts.Handle.{Handle}
use Rattle.surface.specs.declared.handle.Committed.{Committed}
use Rattle.surface.specs.declared.handle.Committed.TheVariants.{Admitted, Cancelled}
use Rattle.surface.specs.declared.handle.CommitRefusal.{CommitRefusal}
use Rattle.surface.specs.declared.handle.CommitRefusal.TheVariants.{TooLate, Busy, Memory}
use Rattle.surface.specs.Passing.{PassGoesOn}

-- the record that a commit of that change adds
abbrev pub record_by : Handle → PlainOp → PlainRecord
record_by handle op = record { actor = handle.actor; call = handle.call; held = handle.held.newest.number; op = op }

-- a handle has the same records of its own and as many permits
pub record AddsNone (old new : Handle) : Type 0 where
  pub own : new.surface.pass.kept.own ≡ old.surface.pass.kept.own
  pub permits : new.surface.pass.kept.permits ≡ old.surface.pass.kept.permits

-- a handle holds the same revision, and is at the same call
pub record IsAtCall (old new : Handle) : Type 0 where
  pub held : new.held ≡ old.held
  pub actor : new.actor ≡ old.actor
  pub call : new.call ≡ old.call

-- a handle is at its next call; the number of calls stands still at 2^32 - 1
pub record IsAtNextCall (old new : Handle) : Type 0 where
  pub actor : new.actor ≡ old.actor
  pub call : new.call ≡ min (old.call + 1) (2 ^ 32 - 1)

-- a commit was admitted: its record is the last that is seen, directly after a list that begins with what was seen before,
-- and is one of the handle's own; a permit is used, each try was a look that was answered, and the handle holds the
-- revision after the record
pub record IsAdmitted (old new : Handle) (entry : PlainRecord) (number tries : ℕ) : Type 0 where
  pub before : List PlainRecord
  pub begins : BeginsWith before old.surface.pass.kept.seen
  pub seen : new.surface.pass.kept.seen ≡ before ++ entry ∷ []
  pub number_is : number ≡ length new.surface.pass.kept.seen
  pub own : new.surface.pass.kept.own ≡ old.surface.pass.kept.own ++ (number, entry) ∷ []
  pub permits : new.surface.pass.kept.permits + 1 ≡ old.surface.pass.kept.permits
  pub looks : new.surface.pass.kept.looks ≡ raised old.surface.pass.kept.looks tries
  pub holds : StandsFor new.surface.pass.kept.mark.first new.held new.surface.pass.kept.seen
  pub next : IsAtNextCall old new

-- a commit was cancelled: there is that cause after all that is seen; no record was added, each try was a look that was
-- answered, and the handle holds what it held
pub record IsCancelled (old new : Handle) (entry : PlainRecord) (at tries : ℕ) (cause : Cancel) : Type 0 where
  pub at_is : at ≡ length new.surface.pass.kept.seen
  pub cause_is : cancel_of new.surface.pass.kept.mark.first entry.op new.surface.pass.kept.seen entry.held ≡ Some cause
  pub adds_none : AddsNone old new
  pub looks : new.surface.pass.kept.looks ≡ raised old.surface.pass.kept.looks tries
  pub holds : new.held ≡ old.held
  pub next : IsAtNextCall old new

-- how a commit ended that was answered so
abbrev pub committed_of : Answer → Option Committed
committed_of (AnsweredAdmitted number tries) = Some (Admitted number tries)
committed_of (AnsweredCancelled at tries cause) = Some (Cancelled at tries cause)
committed_of (Held at) = None
committed_of (Mounted base to) = None
committed_of (Empty at) = None

-- how a commit ended
abbrev pub HasCommitted : (old new : Handle) → PlainRecord → Committed → Type 0
HasCommitted old new entry (Admitted number tries) = IsAdmitted old new entry number tries
HasCommitted old new entry (Cancelled at tries cause) = IsCancelled old new entry at tries cause

-- a commit did not come about: no record was added, and the handle is at the same call
pub record IsCommitInVain (old new : Handle) : Type 0 where
  pub adds_none : AddsNone old new
  pub at_call : IsAtCall old new

-- the answer of a commit
abbrev pub IsCommitAnswer : (old new : Handle) → PlainRecord → Result Committed AllocError → Type 0
IsCommitAnswer old new entry (Ok committed) = HasCommitted old new entry committed
IsCommitAnswer old new entry (Err refusal) = IsCommitInVain old new

-- a hold: the handle holds the revision of all that is seen then, which is no older than what was reached, and no record
-- was added
pub record IsHold (old new : Handle) (at : ℕ) : Type 0 where
  pub at_is : at ≡ length new.surface.pass.kept.seen
  pub reached : old.surface.pass.kept.floor ≤ at
  pub holds : StandsFor new.surface.pass.kept.mark.first new.held new.surface.pass.kept.seen
  pub adds_none : AddsNone old new
  pub actor : new.actor ≡ old.actor
  pub call : new.call ≡ old.call

-- the answer of a hold; a refusal leaves what is held, and is busy only where the turn was found taken once more
abbrev pub IsHoldAnswer : (old new : Handle) → Result ℕ LookRefusal → Type 0
IsHoldAnswer old new (Ok at) = IsHold old new at
IsHoldAnswer old new (Err refusal) =
    IsCommitInVain old new × IsLookRefusal (spine_told old.surface.pass) (spine_told new.surface.pass) refusal

-- the answer of a hold that waits for its turn; without memory the handle holds what it held
abbrev pub IsWaitedHoldAnswer : (old new : Handle) → Result ℕ AllocError → Type 0
IsWaitedHoldAnswer old new (Ok at) = IsHold old new at
IsWaitedHoldAnswer old new (Err refusal) = IsCommitInVain old new

-- more records were reached than a handle has seen
abbrev pub IsBehind : Handle → Type 0
IsBehind handle = length handle.surface.pass.kept.seen < handle.surface.pass.kept.floor

-- the turn was found taken once more: that count rose, or stands at its last value
abbrev pub FoundBusy : (old new : Handle) → Type 0
FoundBusy old new = HasRisen old.surface.pass.kept.busy new.surface.pass.kept.busy

-- a commit came too late after all the looks that it might take: they were answered, and if there was one, another record
-- came after what is seen
pub record IsTooLate (tries : ℕ) (old new : Handle) : Type 0 where
  pub looks : new.surface.pass.kept.looks ≡ raised old.surface.pass.kept.looks tries
  pub behind : 0 < tries → IsBehind new

-- a handle's answered looks are at most so many more
abbrev pub LooksAtMost : (tries : ℕ) → (old new : Handle) → Type 0
LooksAtMost tries old new = new.surface.pass.kept.looks ≤ raised old.surface.pass.kept.looks tries

-- when a commit that takes so many looks at most, and waits for nobody, is refused so
abbrev pub IsTryRefusal : (tries : ℕ) → (old new : Handle) → CommitRefusal → Type 0
IsTryRefusal tries old new TooLate = IsTooLate tries old new
IsTryRefusal tries old new Busy = FoundBusy old new
IsTryRefusal tries old new Memory = Unit {0}

-- the tries of a commit that has ended
abbrev pub tries_of : Committed → ℕ
tries_of (Admitted number tries) = tries
tries_of (Cancelled at tries cause) = tries

-- the answer of a commit that takes so many looks at most, and waits for nobody
abbrev pub IsTryAnswer : (tries : ℕ) → (old new : Handle) → PlainRecord → Result Committed CommitRefusal → Type 0
IsTryAnswer tries old new entry (Ok committed) = HasCommitted old new entry committed × (tries_of committed ≤ tries)
IsTryAnswer tries old new entry (Err refusal) = IsCommitInVain old new × LooksAtMost tries old new × IsTryRefusal tries old new refusal

-- a commit of that record is under way at a handle, since it was another: no record was added so far, and each try was a
-- look that was answered
pub record IsCommitting (start now : Handle) (entry : PlainRecord) (commit : PlainCommit) : Type 0 where
  pub goes_on : PassGoesOn start.surface.pass now.surface.pass
  pub in_vain : IsCommitInVain start now
  pub looks : now.surface.pass.kept.looks ≡ raised start.surface.pass.kept.looks commit.tries
  pub entry_is : entry_under_way commit ≡ Some entry
  pub ready : IsReadyFor as_written (spine_told now.surface.pass) commit

-- how many looks a commit has taken after its next event, where that is answered: an offer is none
abbrev pub tries_with : Option ℕ → ℕ → ℕ
tries_with None tries = tries + 1
tries_with (Some at) tries = tries

abbrev pub tries_next : PlainCommit → ℕ
tries_next commit = tries_with (looked_at commit) commit.tries

-- a commit of that record is to be offered, after a look
pub record IsToOffer (start now : Handle) (entry : PlainRecord) (before commit : PlainCommit) : Type 0 where
  pub under : IsCommitting start now entry commit
  pub looked : looked_at before ≡ None
  pub at : ℕ
  pub looks_at : looked_at commit ≡ Some at
  pub tries_are : commit.tries ≡ before.tries + 1

-- a commit of that record is to look again, after an offer that came too late
pub record IsToLookAgain (start now : Handle) (entry : PlainRecord) (before commit : PlainCommit) : Type 0 where
  pub under : IsCommitting start now entry commit
  pub at : ℕ
  pub looked : looked_at before ≡ Some at
  pub looks_again : looked_at commit ≡ None
  pub tries_are : commit.tries ≡ before.tries
  pub behind : IsBehind now

-- a commit of that record has ended, after so many tries
pub record IsEnded (start now : Handle) (entry : PlainRecord) (committed : Committed) (tries : ℕ) : Type 0 where
  pub goes_on : PassGoesOn start.surface.pass now.surface.pass
  pub committed_is : HasCommitted start now entry committed
  pub tries_are : tries_of committed ≡ tries

-- a commit of that record found the turn taken, and is under way as before
pub record IsStillUnderWay (start now : Handle) (entry : PlainRecord) (before commit : PlainCommit) : Type 0 where
  pub under : IsCommitting start now entry commit
  pub same : commit ≡ before
  pub busy : FoundBusy start now

-- there was no memory for an event of a commit, which has taken at most so many looks
pub record IsWithoutMemory (start now : Handle) (tries : ℕ) : Type 0 where
  pub goes_on : PassGoesOn start.surface.pass now.surface.pass
  pub in_vain : IsCommitInVain start now
  pub looks : LooksAtMost tries start now

-- what one event of a commit answers: it has ended, or it is to be offered, or it is refused
abbrev pub IsStep : (start now : Handle) → PlainRecord → (before commit : PlainCommit) → Result (Option Committed) CommitRefusal → Type 0
IsStep start now entry before commit (Ok (Some committed)) = IsEnded start now entry committed (tries_next before)
IsStep start now entry before commit (Ok None) = IsToOffer start now entry before commit
IsStep start now entry before commit (Err TooLate) = IsToLookAgain start now entry before commit
IsStep start now entry before commit (Err Busy) = IsStillUnderWay start now entry before commit
IsStep start now entry before commit (Err Memory) = IsWithoutMemory start now (tries_next before)

-- how many offers are to come for the looks so far: one after a look, and none before it
abbrev pub offers_to_come : Option ℕ → ℕ
offers_to_come None = 0
offers_to_come (Some at) = 1

-- a commit of that record is under way after so many events, looks and offers by turns, of which each offer came too late
pub record IsAfterEvents (start now : Handle) (entry : PlainRecord) (commit : PlainCommit) (events : ℕ) : Type 0 where
  pub under : IsCommitting start now entry commit
  pub by_turns : 2 * commit.tries ≡ events + offers_to_come (looked_at commit)
  pub behind : looked_at commit ≡ None → 0 < events → IsBehind now

-- what one event of a commit answers: it has ended, or it goes on
abbrev pub IsCommittedOrOn : (start now : Handle) → PlainRecord → PlainCommit → Result (Option Committed) AllocError → Type 0
IsCommittedOrOn start now entry commit (Ok (Some committed)) =
    PassGoesOn start.surface.pass now.surface.pass × HasCommitted start now entry committed
IsCommittedOrOn start now entry commit (Ok None) = IsCommitting start now entry commit
IsCommittedOrOn start now entry commit (Err refusal) =
    PassGoesOn start.surface.pass now.surface.pass × IsCommitInVain start now
