-- A run on threads: what the workers need of the passes that are handed in, and what they leave.
use Rattle.std.specs.Prelude.{◌≡◌, ℕ, ◌+◌, ◌≤◌, List, [], ◌∷◌, ◌++◌, length, map, sum_by, slice_get, Some}
use Rattle.std.specs.List.{AllZip, flat_map, enumerate_from}
use Rattle.std.specs.Map.{keys_of}
use Rattle.counts.specs.Raised.{raised}
use Rattle.tree_revision.specs.Records.{PlainRecord}
use Rattle.tree_revision.specs.Script.{PlainActor, PlainSurface, PlainScript}
use Rattle.tree_revision.specs.Sound.{ids_of}
use Rattle.mount_coordinator.specs.Mounted.{PlainCoordinator, IsBaseIn}
use Rattle.run_report.specs.Legal.{Answers}
use Rattle.tree_revision.specs.Wishes.{as_written}
use Rattle.run_report.specs.Mounts.{Passage, passages_by, last_to}
use Rattle.run_report.specs.Shorthands.{begun}
use Rattle.run_report.specs.ActorLegal.{AreLegalAnswers, MountsFollow, admitted_records, looks_named}
use Rattle.commit_spine.specs.declared.spine_parts.Spine.{Spine}
use Rattle.commit_spine.specs.SpinePasses.{PassValue}
use Rattle.commit_spine.specs.Calls.{IsPassOf}
use Rattle.run_actor.specs.Actors.{RunningActor}
use Rattle.run_actor.specs.Runs.{mounts_made_on}
use Rattle.run_engine.specs.Run.{commits_left}

-- a pass of a surface's spine may be split among the actors of a script: it has seen nothing, and has a share for each actor and one more, and a permit for each commit there
pub record MayBeSplit (script : PlainScript) (surface : PlainSurface) (spine : Spine) (pass : PassValue) : Type 0 where
  pub of_spine : IsPassOf spine pass
  pub first : pass.kept.mark.first ≡ surface.size
  pub seen : pass.kept.seen ≡ []
  pub own : pass.kept.own ≡ []
  pub shares : length script.actors + 1 ≤ pass.kept.shares
  pub permits : commits_left surface.id (map begun script.actors) ≤ pass.kept.permits

-- spines and passes are those of a script's surfaces, by their ids in the script's order, and each pass may be split among its actors
pub record MayWork (script : PlainScript) (spines : List (ℕ × Spine)) (passes : List (ℕ × PassValue)) : Type 0 where
  pub spine_ids : keys_of spines ≡ ids_of script.surfaces
  pub pass_ids : keys_of passes ≡ ids_of script.surfaces
  pub each : (place : ℕ) (surface : PlainSurface) (spine : ℕ × Spine) (pass : ℕ × PassValue)
      → slice_get script.surfaces place ≡ Some surface → slice_get spines place ≡ Some spine → slice_get passes place ≡ Some pass
      → MayBeSplit script surface spine.1 pass.1

-- an actor has come to its end: it is the one of that number, and each of its steps has its answer
pub record HasFinished (number : ℕ) (plan : PlainActor) (actor : RunningActor) : Type 0 where
  pub number_is : actor.number ≡ number
  pub name : actor.name ≡ plan.name
  pub left : actor.left ≡ []
  pub answers : AllZip Answers plan.steps actor.answers

-- the records that an actor's admitted answers name on the surface of that id, each with its number, over these records
abbrev pub records_by : (id : ℕ) → List PlainRecord → (number : ℕ) → PlainActor → RunningActor → List (ℕ × PlainRecord)
records_by id entries number plan actor = admitted_records as_written id entries number plan.steps actor.answers

-- the same of all actors from that number on, one after the other
abbrev pub records_from : (id : ℕ) → List PlainRecord → (number : ℕ) → List PlainActor → List RunningActor → List (ℕ × PlainRecord)
records_from id entries number (plan ∷ plans) (actor ∷ actors) =
    records_by id entries number plan actor ++ records_from id entries (number + 1) plans actors
records_from id entries number _ _ = []

-- the passages on the surface of that id that all actors' answers name
abbrev pub passages_of : (id : ℕ) → List RunningActor → List Passage
passages_of id actors = flat_map (λ entry. passages_by id entry.0 entry.1.answers) (enumerate_from 0 actors)

-- an actor is legal on a surface over these records, and its mounts there follow over them
pub record HasWorkedOn (surface : PlainSurface) (entries : List PlainRecord) (number : ℕ) (plan : PlainActor) (actor : RunningActor) : Type 0 where
  pub answers : AreLegalAnswers as_written surface.size surface.id entries number plan.steps actor.answers
  pub mounts : MountsFollow surface.size surface.id entries number actor.answers (mounts_made_on surface.id actor.mounts)

-- what the workers leave of a surface: its pass has its shares again, looks, own records and permits are those that all answers name, and over all that the pass has seen each actor is legal; its coordinator's base is what the last of the mounts leads to
pub record HaveWorkedOn (script : PlainScript) (surface : PlainSurface) (old new : PassValue) (mounted : PlainCoordinator) (actors : List RunningActor) : Type 0 where
  pub spine : new.spine ≡ old.spine
  pub mark : new.kept.mark ≡ old.kept.mark
  pub shares : new.kept.shares ≡ old.kept.shares
  pub looks : new.kept.looks ≡ raised old.kept.looks (sum_by (λ actor. looks_named surface.id actor.answers) actors)
  pub own : new.kept.own ≡ records_from surface.id new.kept.seen 0 script.actors actors
  pub permits : new.kept.permits + length new.kept.own ≡ old.kept.permits
  pub each : (number : ℕ) (plan : PlainActor) (actor : RunningActor) → slice_get script.actors number ≡ Some plan → slice_get actors number ≡ Some actor
      → HasWorkedOn surface new.kept.seen number plan actor
  pub base : mounted.base.number ≡ last_to (passages_of surface.id actors)
  pub stands : IsBaseIn surface.size new.kept.seen mounted.base

-- what the workers leave: each actor has come to its end, in the script's order, and each surface has its pass again and a coordinator
pub record HaveWorked (script : PlainScript) (old new : List (ℕ × PassValue)) (actors : List RunningActor) (mounts : List PlainCoordinator) : Type 0 where
  pub pass_ids : keys_of new ≡ keys_of old
  pub actor_count : length actors ≡ length script.actors
  pub mount_count : length mounts ≡ length script.surfaces
  pub ended : (number : ℕ) (plan : PlainActor) (actor : RunningActor) → slice_get script.actors number ≡ Some plan → slice_get actors number ≡ Some actor
      → HasFinished number plan actor
  pub surfaces : (place : ℕ) (surface : PlainSurface) (was is : ℕ × PassValue) (mounted : PlainCoordinator)
      → slice_get script.surfaces place ≡ Some surface → slice_get old place ≡ Some was → slice_get new place ≡ Some is → slice_get mounts place ≡ Some mounted
      → HaveWorkedOn script surface was.1 is.1 mounted actors
