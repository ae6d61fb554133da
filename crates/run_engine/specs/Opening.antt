-- How a run begins: each surface with its first revision and its history, and each actor with its passes.
use Rattle.std.specs.Prelude.{◌≡◌, ℕ, List, [], length, map, slice_get, Some}
use Rattle.std.specs.List.{AllByRecursion, AllZip}
use Rattle.shadow_frame.specs.declared.Size.{Size}
use Rattle.tree_revision.specs.Records.{PlainRecord}
use Rattle.tree_revision.specs.Settled.{KeptRevision}
use Rattle.tree_revision.specs.Stands.{StandsFor}
use Rattle.tree_revision.specs.Script.{PlainActor, PlainSurface}
use Rattle.commit_core.specs.PlainPorts.{records_of}
use Rattle.commit_core.specs.declared.plain_parts.PlainSpine.{PlainSpine}
use Rattle.commit_core.specs.declared.plain_parts.PlainPass.{PlainPass}
use Rattle.mount_coordinator.specs.Mounted.{PlainCoordinator, IsBaseOf}
use Rattle.run_report.specs.Machine.{ActorNow}
use Rattle.run_report.specs.Shorthands.{begun}
use Rattle.run_engine.specs.declared.workers.Worker.{Worker}
use Rattle.run_actor.specs.Actions.{begun_actor}
use Rattle.run_engine.specs.Now.{PlainDesk, worker_now}
use Rattle.run_engine.specs.Run.{commits_left}

-- the first revision of a surface, with its id, stands for no records
pub record IsOpening (surface : PlainSurface) (entry : ℕ × KeptRevision) : Type 0 where
  pub id : entry.0 ≡ surface.id
  pub stands : StandsFor surface.size entry.1 []

-- the first revisions of surfaces, in their order
abbrev pub AreOpenings : List PlainSurface → List (ℕ × KeptRevision) → Type 0
AreOpenings surfaces first = AllZip IsOpening surfaces first

-- a history without records, of a surface with that first revision, with room for the commits that these actors have there
pub record IsHistory (actors : List ActorNow) (entry : ℕ × KeptRevision) (spine : PlainSpine) : Type 0 where
  pub first : spine.first ≡ entry.1.newest.size
  pub room : spine.room ≡ commits_left entry.0 actors
  pub records : records_of spine ≡ []

-- the histories of surfaces, in their order
abbrev pub AreHistories : List ActorNow → List (ℕ × KeptRevision) → List PlainSpine → Type 0
AreHistories actors first spines = AllZip (IsHistory actors) first spines

-- that revision, which is its surface's first, stands mounted on a surface
pub record IsMountedAtStart (first : KeptRevision) (desk : PlainDesk) : Type 0 where
  pub coordinator : PlainCoordinator
  pub mounted : desk.mount ≡ Some coordinator
  pub number : coordinator.base.number ≡ first.newest.number
  pub base : (size : Size) (entries : List PlainRecord) → StandsFor size first entries → IsBaseOf size coordinator.base entries

-- a surface before its first commit: its history has no records, and its first revision stands mounted
pub record IsDeskAtStart (actors : List ActorNow) (entry : ℕ × KeptRevision) (desk : ℕ × PlainDesk) : Type 0 where
  pub id : desk.0 ≡ entry.0
  pub history : IsHistory actors entry desk.1.port.spine
  pub mounted : IsMountedAtStart entry.1 desk.1

-- the surfaces before their first commits, in their order
abbrev pub AreDesksAtStart : List ActorNow → List (ℕ × KeptRevision) → List (ℕ × PlainDesk) → Type 0
AreDesksAtStart actors first desks = AllZip (IsDeskAtStart actors) first desks

-- a pass that has seen nothing
pub record HasSeenNothing (pass : PlainPass) : Type 0 where
  pub seen : pass.seen ≡ 0
  pub floor : pass.floor ≡ 0
  pub looks : pass.looks ≡ 0

-- so many passes that have seen nothing
pub record ArePassesAtStart (count : ℕ) (passes : List PlainPass) : Type 0 where
  pub count_is : length passes ≡ count
  pub each : AllByRecursion HasSeenNothing passes

-- an actor of that number before its first step, which holds the first revisions and has seen nothing of the surfaces
pub record IsWorkerAtStart (first : List (ℕ × KeptRevision)) (number : ℕ) (worker : Worker) : Type 0 where
  pub plan : PlainActor
  pub actor : worker.actor ≡ begun_actor number plan first
  pub passes : ArePassesAtStart (length first) worker.passes.items

-- actors before their first steps, each at its number
pub record AreWorkersAtStart (first : List (ℕ × KeptRevision)) (plans : List PlainActor) (workers : List Worker) : Type 0 where
  pub now : map worker_now workers ≡ map begun plans
  pub each : (number : ℕ) (worker : Worker) → slice_get workers number ≡ Some worker → IsWorkerAtStart first number worker
