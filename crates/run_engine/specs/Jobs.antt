-- The jobs of the workers: how they are dealt, and what each leaves. Only contracts inside the crate cite it.
use Rattle.std.specs.Prelude.{◌≡◌, ℕ, ◌+◌, ◌-◌, ◌≤◌, List, [], length, map, sum_by, count_by, nat_eq, Contains, true, false, slice_get, Option, None, Some, unwrap_or}
use Rattle.std.specs.List.{AllZip, IsDistinct}
use Rattle.std.specs.Map.{keys_of}
use Rattle.counts.specs.Raised.{raised}
use Rattle.tree_revision.specs.Records.{PlainRecord}
use Rattle.tree_revision.specs.Script.{PlainStep, PlainActor, PlainSurface}
use Rattle.tree_revision.specs.Settled.{KeptRevision}
use Rattle.tree_revision.specs.Stands.{StandsFor}
use Rattle.shadow_frame.specs.declared.Size.{Size}
use Rattle.tree_revision.specs.Sound.{HasOneMounter, mounts_on}
use Rattle.tree_revision.specs.Lawful.{IsLawful}
use Rattle.tree_revision.specs.Ports.{BeginsWith}
use Rattle.mount_coordinator.specs.Mounted.{PlainCoordinator, IsBaseIn, IsBaseOf}
use Rattle.tree_revision.specs.Wishes.{as_written}
use Rattle.run_report.specs.Mounts.{Passage, passages_by, last_to}
use Rattle.run_report.specs.Shorthands.{begun}
use Rattle.run_report.specs.ActorLegal.{AreLegalAnswers, MountsFollow, looks_named}
use Rattle.commit_spine.specs.declared.spine_parts.Spine.{Spine}
use Rattle.commit_spine.specs.declared.spine_port.SpinePort.{SpinePort}
use Rattle.commit_spine.specs.StepKinds.{after_split, split_off, after_join}
use Rattle.commit_spine.specs.SpinePasses.{PassValue}
use Rattle.commit_spine.specs.SpinePorts.{spine_told}
use Rattle.commit_spine.specs.Calls.{IsPassOf}
use Rattle.run_actor.specs.declared.desks.Desk.{Desk}
use Rattle.run_actor.specs.Actors.{RunningActor}
use Rattle.run_actor.specs.Actions.{begun_actor}
use Rattle.run_actor.specs.Runs.{HasRun, HasRunOn, IsBegun, MayBegin, commits_on, mounts_made_on}
use Rattle.run_engine.specs.declared.jobs.Job.{Job}
use Rattle.run_engine.specs.Run.{commits_left}
use Rattle.run_engine.specs.Workers.{HasFinished, HasWorkedOn, records_by, records_from, passages_of}

-- the pass that an actor with these steps gets of a surface's pass: with one share, and a permit for each of its commits there
abbrev pub own_pass : List PlainStep → ℕ × PassValue → PassValue
own_pass steps entry = record { spine = entry.1.spine; kept = split_off (count_by (commits_on entry.0) steps) entry.1.kept }

-- a surface's pass after that
abbrev pub after_own_pass : List PlainStep → ℕ × PassValue → ℕ × PassValue
after_own_pass steps entry = (entry.0, record { spine = entry.1.spine; kept = after_split (count_by (commits_on entry.0) steps) entry.1.kept })

-- a surface's pass after some actors got theirs
abbrev pub after_own_passes : List PlainActor → ℕ × PassValue → ℕ × PassValue
after_own_passes plans entry =
    let left = entry.1.kept.permits - commits_left entry.0 (map begun plans) in
    (entry.0, record { spine = entry.1.spine; kept = record entry.1.kept { permits = left; shares = entry.1.kept.shares - length plans } })

-- a pass may be split for an actor with these steps
pub record MayGive (steps : List PlainStep) (id : ℕ) (spine : Spine) (pass : PassValue) : Type 0 where
  pub of_spine : IsPassOf spine pass
  pub shares : 2 ≤ pass.kept.shares
  pub permits : count_by (commits_on id) steps ≤ pass.kept.permits

-- so each of some passes, which are those of these spines in their order
pub record MayGiveEach (steps : List PlainStep) (spines : List (ℕ × Spine)) (passes : List (ℕ × PassValue)) : Type 0 where
  pub count : length spines ≡ length passes
  pub each : (place : ℕ) (spine : ℕ × Spine) (pass : ℕ × PassValue) → slice_get spines place ≡ Some spine → slice_get passes place ≡ Some pass
      → MayGive steps pass.0 spine.1 pass.1

-- so for each of some actors, one after the other
pub record MayGiveAll (plans : List PlainActor) (spines : List (ℕ × Spine)) (passes : List (ℕ × PassValue)) : Type 0 where
  pub count : length spines ≡ length passes
  pub each : (place : ℕ) (spine : ℕ × Spine) (pass : ℕ × PassValue) → slice_get spines place ≡ Some spine → slice_get passes place ≡ Some pass
      → IsPassOf spine.1 pass.1 × (length plans + 1 ≤ pass.1.kept.shares) × (commits_left pass.0 (map begun plans) ≤ pass.1.kept.permits)

-- a coordinator before the first mount, of a surface with that first revision
pub record IsUnmounted (first : KeptRevision) (coordinator : PlainCoordinator) : Type 0 where
  pub base : coordinator.base ≡ first.newest
  pub stands : (size : Size) (entries : List PlainRecord) → StandsFor size first entries → IsBaseOf size coordinator.base entries

-- what an actor has mounted on a surface before its first step: where it mounts there, the first revision, and else nothing
abbrev pub IsMountFor : PlainActor → ℕ × KeptRevision → Option PlainCoordinator → Type 0
IsMountFor plan first None = mounts_on first.0 plan ≡ false
IsMountFor plan first (Some coordinator) = (mounts_on first.0 plan ≡ true) × IsUnmounted first.1 coordinator

-- a job of an actor of that number before its first step: it has a pass of each surface, and what it mounts
pub record IsJobAtStart (first : List (ℕ × KeptRevision)) (passes : List (ℕ × PassValue)) (number : ℕ) (plan : PlainActor) (job : Job) : Type 0 where
  pub actor : job.actor ≡ begun_actor number plan first
  pub passes_are : job.passes.items ≡ map (own_pass plan.steps) passes
  pub mounts : AllZip (IsMountFor plan) first job.mounts.items

-- the jobs of some actors, in their order
pub record AreJobsAtStart (first : List (ℕ × KeptRevision)) (passes : List (ℕ × PassValue)) (plans : List PlainActor) (jobs : List Job) : Type 0 where
  pub count : length jobs ≡ length plans
  pub each : (number : ℕ) (plan : PlainActor) (job : Job) → slice_get plans number ≡ Some plan → slice_get jobs number ≡ Some job
      → IsJobAtStart first passes number plan job

-- a desk of a surface whose history threads share
abbrev pub SpineDesk : Type 0
SpineDesk = Desk SpinePort

-- the pass at a desk, and what is mounted there
abbrev pub pass_at_desk : ℕ × SpineDesk → PassValue
pass_at_desk entry = entry.1.port.pass

abbrev pub mount_at_desk : ℕ × SpineDesk → Option PlainCoordinator
mount_at_desk entry = entry.1.mount

-- passes are those of these spines, in their order
pub record AreOfSpines (spines : List (ℕ × Spine)) (passes : List PassValue) : Type 0 where
  pub count : length passes ≡ length spines
  pub each : (place : ℕ) (spine : ℕ × Spine) (pass : PassValue) → slice_get spines place ≡ Some spine → slice_get passes place ≡ Some pass → IsPassOf spine.1 pass

-- desks of surfaces, with these passes and these mounts in their order
pub record AreDesksOf (spines : List (ℕ × Spine)) (passes : List PassValue) (mounts : List (Option PlainCoordinator)) (desks : List (ℕ × SpineDesk)) : Type 0 where
  pub ids : keys_of desks ≡ keys_of spines
  pub passes_are : map pass_at_desk desks ≡ passes
  pub mounts_are : map mount_at_desk desks ≡ mounts

-- a worker may run a job over these spines
pub record MayRun (spines : List (ℕ × Spine)) (job : Job) : Type 0 where
  pub ids : IsDistinct nat_eq (keys_of spines)
  pub begun_actor : IsBegun job.actor
  pub passes : AreOfSpines spines job.passes.items
  pub mounts : length job.mounts.items ≡ length spines
  pub known : (step : PlainStep) → Contains job.actor.left step → (place : ℕ) × (spine : Spine) × (slice_get spines place ≡ Some (step.surface, spine))
  pub each : (place : ℕ) (spine : ℕ × Spine) (pass : PassValue) (mount : Option PlainCoordinator)
      → slice_get spines place ≡ Some spine → slice_get job.passes.items place ≡ Some pass → slice_get job.mounts.items place ≡ Some mount
      → MayBegin spine.0 (spine_told pass) mount job.actor

-- a worker has run a job
pub record HasRunJob (spines : List (ℕ × Spine)) (was is : Job) : Type 0 where
  pub run : HasRun was.actor is.actor
  pub passes : length is.passes.items ≡ length spines
  pub mounts : length is.mounts.items ≡ length spines
  pub each : (place : ℕ) (spine : ℕ × Spine) (begun ended : PassValue) (before after : Option PlainCoordinator)
      → slice_get spines place ≡ Some spine → slice_get was.passes.items place ≡ Some begun → slice_get is.passes.items place ≡ Some ended
      → slice_get was.mounts.items place ≡ Some before → slice_get is.mounts.items place ≡ Some after
      → HasRunOn spine.0 (spine_told begun) (spine_told ended) before after was.actor is.actor

-- a worker has run a job, but where want of memory ended it
abbrev pub HasWorkedOff : List (ℕ × Spine) → (was is : Job) → Type 0
HasWorkedOff spines was is = is.short ≡ false → HasRunJob spines was is

-- so each of some jobs
abbrev pub MayRunEach : List (ℕ × Spine) → List Job → Type 0
MayRunEach spines jobs = (number : ℕ) (job : Job) → slice_get jobs number ≡ Some job → MayRun spines job

pub record AreRun (spines : List (ℕ × Spine)) (old new : List Job) : Type 0 where
  pub count : length new ≡ length old
  pub each : (number : ℕ) (was is : Job) → slice_get old number ≡ Some was → slice_get new number ≡ Some is → HasRunJob spines was is

-- what an actor leaves mounted on a surface with these passages: nothing where it does not mount there, and else a base with the number that the last of them leads to
abbrev pub LeavesBase : PlainSurface → (seen : List PlainRecord) → PlainActor → List Passage → Option PlainCoordinator → Type 0
LeavesBase surface seen plan passages None = (mounts_on surface.id plan ≡ false) × (passages ≡ [])
LeavesBase surface seen plan passages (Some coordinator) =
    (mounts_on surface.id plan ≡ true) × (coordinator.base.number ≡ last_to passages) × IsBaseIn surface.size seen coordinator.base

-- what the actor of that number leaves on a surface: its pass has one share, and looks, own records and permits are those that its answers name; over all that it has seen the actor is legal, and its mounts follow
pub record HasLeft (surface : PlainSurface) (number : ℕ) (plan : PlainActor) (actor : RunningActor) (pass : PassValue) (mount : Option PlainCoordinator) : Type 0 where
  pub shares : pass.kept.shares ≡ 1
  pub looks : pass.kept.looks ≡ raised 0 (looks_named surface.id actor.answers)
  pub own : pass.kept.own ≡ records_by surface.id pass.kept.seen number plan actor
  pub permits : pass.kept.permits + length pass.kept.own ≡ count_by (commits_on surface.id) plan.steps
  pub answers : AreLegalAnswers as_written surface.size surface.id pass.kept.seen number plan.steps actor.answers
  pub mounts : MountsFollow surface.size surface.id pass.kept.seen number actor.answers (mounts_made_on surface.id actor.mounts)
  pub base : LeavesBase surface pass.kept.seen plan (passages_by surface.id number actor.answers) mount

-- the job of an actor of that number is done
pub record IsDone (surfaces : List PlainSurface) (number : ℕ) (plan : PlainActor) (job : Job) : Type 0 where
  pub ended : HasFinished number plan job.actor
  pub passes : length job.passes.items ≡ length surfaces
  pub mounts : length job.mounts.items ≡ length surfaces
  pub each : (place : ℕ) (surface : PlainSurface) (pass : PassValue) (mount : Option PlainCoordinator)
      → slice_get surfaces place ≡ Some surface → slice_get job.passes.items place ≡ Some pass → slice_get job.mounts.items place ≡ Some mount
      → HasLeft surface number plan job.actor pass mount

-- the jobs of all actors are done, of whom one at most mounts each surface
pub record AreDone (surfaces : List PlainSurface) (plans : List PlainActor) (jobs : List Job) : Type 0 where
  pub count : length jobs ≡ length plans
  pub each : (number : ℕ) (plan : PlainActor) (job : Job) → slice_get plans number ≡ Some plan → slice_get jobs number ≡ Some job → IsDone surfaces number plan job
  pub mounters : (place : ℕ) (surface : PlainSurface) → slice_get surfaces place ≡ Some surface → HasOneMounter plans surface.id

-- a pass was joined to another, which has seen the longer of their lists
pub record IsJoin (was gone is : PassValue) : Type 0 where
  pub spine : is.spine ≡ was.spine
  pub kept : is.kept ≡ after_join was.kept gone.kept
  pub seen : BeginsWith is.kept.seen was.kept.seen
  pub gone_seen : BeginsWith is.kept.seen gone.kept.seen
  pub lawful : IsLawful is.kept.mark.first is.kept.seen

-- passes may be joined to those of these spines, in their order
pub record MayJoin (spines : List (ℕ × Spine)) (passes : List (ℕ × PassValue)) (own : List PassValue) : Type 0 where
  pub count : length passes ≡ length spines
  pub kept : (place : ℕ) (spine : ℕ × Spine) (pass : ℕ × PassValue) → slice_get spines place ≡ Some spine → slice_get passes place ≡ Some pass → IsPassOf spine.1 pass.1
  pub own_passes : AreOfSpines spines own

-- they were joined
pub record AreJoined (old new : List (ℕ × PassValue)) (own : List PassValue) : Type 0 where
  pub ids : keys_of new ≡ keys_of old
  pub each : (place : ℕ) (was is : ℕ × PassValue) (gone : PassValue) → slice_get old place ≡ Some was → slice_get new place ≡ Some is → slice_get own place ≡ Some gone
      → IsJoin was.1 gone is.1

-- coordinators are kept in place of others
pub record AreKept (old new : List PlainCoordinator) (own : List (Option PlainCoordinator)) : Type 0 where
  pub count : length new ≡ length old
  pub each : (place : ℕ) (was is : PlainCoordinator) (mine : Option PlainCoordinator) → slice_get old place ≡ Some was → slice_get new place ≡ Some is → slice_get own place ≡ Some mine
      → is ≡ unwrap_or mine was

-- jobs may be taken apart, their passes joined to those of these spines
pub record MayGather (spines : List (ℕ × Spine)) (passes : List (ℕ × PassValue)) (jobs : List Job) (mounts : List PlainCoordinator) : Type 0 where
  pub count : length passes ≡ length spines
  pub kept : (place : ℕ) (spine : ℕ × Spine) (pass : ℕ × PassValue) → slice_get spines place ≡ Some spine → slice_get passes place ≡ Some pass → IsPassOf spine.1 pass.1
  pub own_passes : (number : ℕ) (job : Job) → slice_get jobs number ≡ Some job → AreOfSpines spines job.passes.items
  pub own_mounts : (number : ℕ) (job : Job) → slice_get jobs number ≡ Some job → length job.mounts.items ≡ length mounts

-- what was gathered of a surface from the first actors: shares, looks, own records and permits are those of all, and over all that was seen each of them is legal; the coordinator's base is what the last of their mounts leads to
pub record HasGathered (surface : PlainSurface) (done : List PlainActor) (actors : List RunningActor) (old new : PassValue) (mounted : PlainCoordinator) : Type 0 where
  pub spine : new.spine ≡ old.spine
  pub mark : new.kept.mark ≡ old.kept.mark
  pub first : new.kept.mark.first ≡ surface.size
  pub shares : new.kept.shares ≡ old.kept.shares + length done
  pub looks : new.kept.looks ≡ raised old.kept.looks (sum_by (λ actor. looks_named surface.id actor.answers) actors)
  pub own : new.kept.own ≡ records_from surface.id new.kept.seen 0 done actors
  pub permits : new.kept.permits + length new.kept.own ≡ old.kept.permits + commits_left surface.id (map begun done)
  pub each : (number : ℕ) (plan : PlainActor) (actor : RunningActor) → slice_get done number ≡ Some plan → slice_get actors number ≡ Some actor
      → HasWorkedOn surface new.kept.seen number plan actor
  pub base : mounted.base.number ≡ last_to (passages_of surface.id actors)
  pub stands : IsBaseIn surface.size new.kept.seen mounted.base
  pub none : count_by (mounts_on surface.id) done ≡ 0 → passages_of surface.id actors ≡ []

-- so of each surface
pub record AreHandedBack (surfaces : List PlainSurface) (done : List PlainActor) (actors : List RunningActor) (old new : List (ℕ × PassValue)) (mounts : List PlainCoordinator) : Type 0 where
  pub ids : keys_of new ≡ keys_of old
  pub passes : length new ≡ length surfaces
  pub mount_count : length mounts ≡ length surfaces
  pub count : length actors ≡ length done
  pub each : (place : ℕ) (surface : PlainSurface) (was is : ℕ × PassValue) (mounted : PlainCoordinator)
      → slice_get surfaces place ≡ Some surface → slice_get old place ≡ Some was → slice_get new place ≡ Some is → slice_get mounts place ≡ Some mounted
      → HasGathered surface done actors was.1 is.1 mounted
