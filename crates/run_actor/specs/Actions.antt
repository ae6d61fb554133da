-- Changes of an actor.
use Rattle.std.specs.Prelude.{ℕ, List, [], ◌∷◌, ◌++◌, drop, Option, None}
use Rattle.tree_revision.specs.Script.{PlainActor}
use Rattle.tree_revision.specs.Settled.{KeptRevision}
use Rattle.tree_revision.specs.declared.record.Answer.{Answer}
use Rattle.commit_core.specs.Commit.{PlainCommit}
use Rattle.run_report.specs.declared.journal.MountPart.{MountPart}
use Rattle.run_actor.specs.Actors.{RunningActor}

-- an actor of that number before its first step, which holds these revisions
abbrev pub begun_actor : (number : ℕ) → PlainActor → (first : List (ℕ × KeptRevision)) → RunningActor
begun_actor number plan first =
    record { number = number; name = plan.name; left = plan.steps; answers = []; mounts = []; held = first; commit = None }

-- the same actor with another commit under way
abbrev pub with_commit : Option PlainCommit → RunningActor → RunningActor
with_commit under actor = record {
  number = actor.number;
  name = actor.name;
  left = actor.left;
  answers = actor.answers;
  mounts = actor.mounts;
  held = actor.held;
  commit = under;
}

-- the same actor, which holds other revisions
abbrev pub with_held : List (ℕ × KeptRevision) → RunningActor → RunningActor
with_held held actor = record {
  number = actor.number;
  name = actor.name;
  left = actor.left;
  answers = actor.answers;
  mounts = actor.mounts;
  held = held;
  commit = actor.commit;
}

-- the same actor with one more mount, on the surface of that id
abbrev pub with_mount : (id : ℕ) → MountPart → RunningActor → RunningActor
with_mount id part actor = record {
  number = actor.number;
  name = actor.name;
  left = actor.left;
  answers = actor.answers;
  mounts = actor.mounts ++ (id, part) ∷ [];
  held = actor.held;
  commit = actor.commit;
}

-- an actor whose step has ended with that answer, on the surface of that id
abbrev pub answered_as : (id : ℕ) → Answer → RunningActor → RunningActor
answered_as id answer actor = record {
  number = actor.number;
  name = actor.name;
  left = drop 1 actor.left;
  answers = actor.answers ++ (record { surface = id; answer = answer }) ∷ [];
  mounts = actor.mounts;
  held = actor.held;
  commit = None;
}
