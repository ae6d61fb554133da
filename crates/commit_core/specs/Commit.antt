-- A commit under way as plain data.
use Rattle.std.specs.Prelude.{◌≡◌, ℕ, ◌-◌, Option, Some, None, refl}
use Rattle.std.specs.Coded.{Coded, code_by, coded×, coded_option, coded_ℕ}
use Rattle.tree_revision.specs.Records.{PlainOp, PlainRecord}
use Rattle.tree_revision.specs.CodedRecords.{coded_op, coded_record}
use Rattle.tree_revision.specs.Settled.{KeptRevision, coded_kept}

-- where a commit stands: it is to look; or it has looked, and is to be offered with the change that was wished there and with the revision after it; or it has ended
pub data CommitPhase : Type 0 where
  fresh : (entry : PlainRecord) → CommitPhase
  ready : (entry : PlainRecord) → (wished : PlainOp) → (next : KeptRevision) → CommitPhase
  over : CommitPhase

-- a commit under way: where it stands, the revision that its caller holds, and how often it has looked
pub record PlainCommit : Type 0 where
  pub phase : CommitPhase
  pub held : KeptRevision
  pub tries : ℕ

-- a commit of that record before its first look, by a caller that holds that revision
abbrev pub begun_commit : PlainRecord → KeptRevision → PlainCommit
begun_commit entry held = record { phase = fresh entry; held = held; tries = 0 }

-- the same commit in another phase
abbrev pub commit_in : CommitPhase → PlainCommit → PlainCommit
commit_in phase commit = record { phase = phase; held = commit.held; tries = commit.tries }

-- a record with another change
abbrev pub with_op : PlainOp → PlainRecord → PlainRecord
with_op op entry = record { actor = entry.actor; call = entry.call; held = entry.held; op = op }

-- the record of a commit as it is written, in a phase that is not the end
abbrev pub entry_in : CommitPhase → Option PlainRecord
entry_in (fresh entry) = Some entry
entry_in (ready entry wished next) = Some entry
entry_in over = None

-- the record of a commit as it is written, where the commit has not ended
abbrev pub entry_under_way : PlainCommit → Option PlainRecord
entry_under_way commit = entry_in commit.phase

-- the number at which the commit looked last in a phase in which it is to be offered
abbrev pub look_in : CommitPhase → Option ℕ
look_in (fresh entry) = None
look_in (ready entry wished next) = Some (next.newest.number - 1)
look_in over = None

-- the number at which the commit looked, where it is to be offered
abbrev pub looked_at : PlainCommit → Option ℕ
looked_at commit = look_in commit.phase

abbrev phase_with : PlainRecord → Option (PlainOp × KeptRevision) → CommitPhase
phase_with entry None = fresh entry
phase_with entry (Some asked) = ready entry asked.0 asked.1

-- a phase by its record, and by the change that was wished and the revision after it
abbrev pub phase_of : Option (PlainRecord × Option (PlainOp × KeptRevision)) → CommitPhase
phase_of None = over
phase_of (Some parts) = phase_with parts.0 parts.1

abbrev parts_of : CommitPhase → Option (PlainRecord × Option (PlainOp × KeptRevision))
parts_of (fresh entry) = Some (entry, None)
parts_of (ready entry wished next) = Some (entry, Some (wished, next))
parts_of over = None

pub phase_of_parts : (phase : CommitPhase) → phase_of (parts_of phase) ≡ phase
phase_of_parts (fresh entry) = refl
phase_of_parts (ready entry wished next) = refl
phase_of_parts over = refl

abbrev pub coded_phase : Coded CommitPhase
coded_phase =
    code_by (Option (PlainRecord × Option (PlainOp × KeptRevision))) (coded_option (coded× coded_record (coded_option (coded× coded_op coded_kept)))) parts_of phase_of phase_of_parts

abbrev pub coded_commit : Coded PlainCommit
coded_commit =
    code_by (CommitPhase × (KeptRevision × ℕ)) (coded× coded_phase (coded× coded_kept coded_ℕ))
    (λ c. (c.phase, (c.held, c.tries))) (λ p. record { phase = p.0; held = p.1.0; tries = p.1.1 }) (λ _. refl)
