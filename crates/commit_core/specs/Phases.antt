-- What the parts of a committer stand for.
use Rattle.std.specs.Prelude.{◌≡◌}
use Rattle.tree_revision.specs.Records.{PlainRecord, plain_op, plain_record}
use Rattle.commit_core.specs.Commit.{CommitPhase, fresh, ready, over, with_op}
use Rattle.commit_core.specs.declared.committer.ReadyCommit.{ReadyCommit}
use Rattle.commit_core.specs.declared.committer.Phase.{Phase}
use Rattle.commit_core.specs.declared.committer.Phase.TheVariants.{Fresh, Ready, Ended}

-- the record that a commit that has looked was written with
abbrev pub written_entry : ReadyCommit → PlainRecord
written_entry commit = with_op (plain_op commit.written.value) (plain_record commit.entry)

-- a phase without pointers
abbrev pub plain_phase : Phase → CommitPhase
plain_phase (Fresh entry) = fresh (plain_record entry)
plain_phase (Ready commit) = ready (written_entry commit) (plain_op commit.entry.op.value) commit.next
plain_phase Ended = over

-- where a commit is to be offered, its second share is of the same revision
abbrev pub HasTwoShares : Phase → Type 0
HasTwoShares (Fresh entry) = Unit {0}
HasTwoShares (Ready commit) = commit.now ≡ commit.next
HasTwoShares Ended = Unit {0}
