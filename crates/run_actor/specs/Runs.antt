-- The run of one actor to its end: what it needs of each surface, and what it leaves there.
use Rattle.std.specs.Prelude.{◌≡◌, ℕ, ◌+◌, ◌≤◌, List, [], ◌∷◌, ◌++◌, length, map, filter, count_by, Contains, Bool, true, false, ◌&&◌, nat_eq, Option, Some, None}
use Rattle.std.specs.List.{AllZip}
use Rattle.counts.specs.Raised.{raised}
use Rattle.tree_revision.specs.Script.{PlainAct, commit, mount, PlainStep}
use Rattle.tree_revision.specs.Records.{PlainRecord}
use Rattle.tree_revision.specs.Ports.{Told, Lasts}
use Rattle.mount_coordinator.specs.Mounted.{PlainCoordinator, IsBaseIn}
use Rattle.run_report.specs.declared.journal.MountPart.{MountPart}
use Rattle.run_report.specs.Journal.{PlainMount, plain_mount}
use Rattle.run_report.specs.Legal.{Answers}
use Rattle.tree_revision.specs.Wishes.{as_written}
use Rattle.run_report.specs.Mounts.{Passage, passages_by, last_to}
use Rattle.run_report.specs.ActorLegal.{AreLegalAnswers, MountsFollow, admitted_records, looks_named}
use Rattle.run_actor.specs.Actors.{RunningActor}
use Rattle.run_actor.specs.Event.{IsHolding, MayMount, base_of}

-- a step commits
abbrev pub is_commit : PlainAct → Bool
is_commit (commit op) = true
is_commit _ = false

-- a step commits on the surface of that id
abbrev pub commits_on : (id : ℕ) → PlainStep → Bool
commits_on id step = nat_eq step.surface id && is_commit step.act

-- the transactions of some mounts on the surface of that id, as the journal tells them
abbrev pub mounts_made_on : (id : ℕ) → List (ℕ × MountPart) → List PlainMount
mounts_made_on id mounts = map (λ entry. plain_mount entry.1) (filter (λ entry. nat_eq entry.0 id) mounts)

-- an actor before its first step
pub record IsBegun (actor : RunningActor) : Type 0 where
  pub answers : actor.answers ≡ []
  pub mounts : actor.mounts ≡ []
  pub commit : actor.commit ≡ None

-- nothing was mounted so far: the base has number 0, and stands for the empty list
pub record HasNothingMounted (told : Told) (mounted : Option PlainCoordinator) : Type 0 where
  pub may : MayMount told mounted
  pub base : base_of mounted ≡ 0

-- an actor may run on the surface of that id: it holds a revision there, there is a permit for each of its commits, and where it mounts, nothing was mounted so far
pub record MayBegin (id : ℕ) (told : Told) (mounted : Option PlainCoordinator) (actor : RunningActor) : Type 0 where
  pub reached : length told.seen ≤ told.floor
  pub holding : IsHolding told id actor
  pub permits : count_by (commits_on id) actor.left ≤ told.permits
  pub mount : Contains actor.left (record { surface = id; act = mount }) → HasNothingMounted told mounted

-- an actor has run to its end: each of its steps has an answer
pub record HasRun (begun ended : RunningActor) : Type 0 where
  pub number : ended.number ≡ begun.number
  pub name : ended.name ≡ begun.name
  pub left : ended.left ≡ []
  pub answers : AllZip Answers begun.left ended.answers

-- the records that an actor's admitted answers name on the surface of that id, each with its number, over these records
abbrev pub records_named : (id : ℕ) → List PlainRecord → (begun ended : RunningActor) → List (ℕ × PlainRecord)
records_named id entries begun ended = admitted_records as_written id entries begun.number begun.left ended.answers

-- what an actor with those passages leaves mounted: what stood mounted before where it has none, and else a base with the number that the last of them leads to, which stands for so many of the records
abbrev pub LeavesMounted : Told → (was is : Option PlainCoordinator) → List Passage → Type 0
LeavesMounted told was is [] = is ≡ was
LeavesMounted told was is (passage ∷ passages) =
    (coordinator : PlainCoordinator) × (is ≡ Some coordinator) × (coordinator.base.number ≡ last_to (passage ∷ passages)) × IsBaseIn told.first told.seen coordinator.base

-- an actor has run on the surface of that id: looks, own records and permits are those that its answers name, and over all that is seen now its answers are legal and its mounts follow
pub record HasRunOn (id : ℕ) (old new : Told) (was is : Option PlainCoordinator) (begun ended : RunningActor) : Type 0 where
  pub lasts : Lasts old new
  pub looks : new.looks ≡ raised old.looks (looks_named id ended.answers)
  pub own : new.own ≡ old.own ++ records_named id new.seen begun ended
  pub permits : new.permits + length (records_named id new.seen begun ended) ≡ old.permits
  pub answers : AreLegalAnswers as_written new.first id new.seen begun.number begun.left ended.answers
  pub mounts : MountsFollow new.first id new.seen begun.number ended.answers (mounts_made_on id ended.mounts)
  pub mounted : LeavesMounted new was is (passages_by id begun.number ended.answers)
