-- A run on threads: how its spines and passes begin, and what is made of them at the end.
use Rattle.std.specs.Prelude.{◌≡◌, ℕ, ◌+◌, ◌≤◌, List, length, map, slice_get, Some}
use Rattle.std.specs.List.{AllZip}
use Rattle.std.specs.Map.{keys_of}
use Rattle.shadow_frame.specs.declared.Size.{Size}
use Rattle.tree_revision.specs.Script.{PlainActor, PlainScript}
use Rattle.tree_revision.specs.Sound.{ids_of}
use Rattle.tree_revision.specs.Lawful.{IsLawful}
use Rattle.tree_revision.specs.Ports.{BeginsWith}
use Rattle.mount_coordinator.specs.Mounted.{PlainCoordinator, IsBaseIn}
use Rattle.run_report.specs.declared.journal.MountPart.{MountPart}
use Rattle.run_report.specs.declared.journal.SurfacePart.{SurfacePart}
use Rattle.run_report.specs.declared.journal.Journal.{Journal}
use Rattle.run_report.specs.Journal.{PlainSurfacePart, plain_mount, plain_surface_part, plain_actor_part}
use Rattle.run_report.specs.Machine.{actor_part_of}
use Rattle.run_report.specs.Mounts.{Passage, last_to, mount_along}
use Rattle.run_report.specs.Shorthands.{begun}
use Rattle.commit_spine.specs.declared.spine_parts.Spine.{Spine}
use Rattle.commit_spine.specs.Passes.{KeptByPass, fresh_pass, times_own}
use Rattle.commit_spine.specs.SpineRule.{AllStandIn}
use Rattle.commit_spine.specs.SpinePasses.{PassValue}
use Rattle.commit_spine.specs.Calls.{IsPassOf}
use Rattle.run_actor.specs.Actors.{RunningActor, actor_now}
use Rattle.run_engine.specs.Run.{commits_left}
use Rattle.run_engine.specs.Ends.{AreListed, mounts_of, part_over}

-- what the pass of a surface of that id and first size keeps before the first event: it has seen nothing, and has a share for each actor and one more, and a permit for each commit of theirs there
abbrev pub kept_at_start : List PlainActor → (id : ℕ) → Size → KeptByPass
kept_at_start actors id first =
    let seats = length actors + 1 in
    let room = commits_left id (map begun actors) in
    fresh_pass (record { first = first; room = room; seats = seats }) seats room

-- spines and passes are those of a script's surfaces before the first event, by their ids in the script's order
pub record AreSpinesAtStart (script : PlainScript) (spines : List (ℕ × Spine)) (passes : List (ℕ × PassValue)) : Type 0 where
  pub spine_ids : keys_of spines ≡ ids_of script.surfaces
  pub pass_ids : keys_of passes ≡ ids_of script.surfaces
  pub of_spines : AllZip (λ spine pass. IsPassOf spine.1 pass.1) spines passes
  pub kept : AllZip (λ surface pass. pass.1.kept ≡ kept_at_start script.actors surface.id surface.size) script.surfaces passes

-- a surface may be closed: the pass is one of its spine and has all shares again, and the coordinator's base stands for the first records that the pass has seen
pub record MayClose (spine : Spine) (pass : PassValue) (mounted : PlainCoordinator) : Type 0 where
  pub of_spine : IsPassOf spine pass
  pub shares : pass.kept.shares ≡ pass.kept.mark.seats
  pub stands : IsBaseIn pass.kept.mark.first pass.kept.seen mounted.base

-- all surfaces may be closed, each with the pass and the coordinator at its place
pub record MayCloseAll (spines : List (ℕ × Spine)) (passes : List (ℕ × PassValue)) (mounted : List PlainCoordinator) : Type 0 where
  pub pass_count : length passes ≡ length spines
  pub mounted_count : length mounted ≡ length spines
  pub each : (place : ℕ) (spine : ℕ × Spine) (pass : ℕ × PassValue) (coordinator : PlainCoordinator)
      → slice_get spines place ≡ Some spine → slice_get passes place ≡ Some pass → slice_get mounted place ≡ Some coordinator
      → MayClose spine.1 pass.1 coordinator

-- a part of the journal is that of a surface of that id at its end: its records are a lawful history that begins with what the pass has seen, whose records are the pass's own, each once at its number; where the mounts lie along passages that lead to the coordinator's base, it is the part along these
pub record IsPartAtEnd (id : ℕ) (pass : PassValue) (mounted : PlainCoordinator) (mounts : List MountPart) (part : PlainSurfacePart) : Type 0 where
  pub id_is : part.id ≡ id
  pub lawful : IsLawful pass.kept.mark.first part.records
  pub seen : BeginsWith part.records pass.kept.seen
  pub own : AllStandIn part.records pass.kept.own
  pub once : (number : ℕ) → 1 ≤ number → number ≤ length part.records → times_own number pass.kept.own ≡ 1
  pub along : (passages : List Passage) → last_to passages ≡ mounted.base.number → map plain_mount mounts ≡ map (mount_along pass.kept.mark.first part.records) passages
      → part ≡ part_over id pass.kept.mark.first part.records passages

-- parts of the journal are those of all surfaces at their ends, each with the pass, the coordinator and the mounts at its place
pub record ArePartsAtEnd (spines : List (ℕ × Spine)) (passes : List (ℕ × PassValue)) (mounted : List PlainCoordinator) (lists : List (List MountPart))
    (parts : List SurfacePart) : Type 0 where
  pub count : length parts ≡ length spines
  pub each : (place : ℕ) (spine : ℕ × Spine) (pass : ℕ × PassValue) (coordinator : PlainCoordinator) (mounts : List MountPart) (part : SurfacePart)
      → slice_get spines place ≡ Some spine → slice_get passes place ≡ Some pass → slice_get mounted place ≡ Some coordinator
      → slice_get lists place ≡ Some mounts → slice_get parts place ≡ Some part → IsPartAtEnd spine.0 pass.1 coordinator mounts (plain_surface_part part)

-- a journal has the parts of these actors, and those of the surfaces at their ends with the actors' mounts
pub record IsJournalOf (spines : List (ℕ × Spine)) (passes : List (ℕ × PassValue)) (actors : List RunningActor) (mounted : List PlainCoordinator) (journal : Journal) : Type 0 where
  pub actors_are : map plain_actor_part journal.actors ≡ map (λ actor. actor_part_of (actor_now actor)) actors
  pub lists : List (List MountPart)
  pub listed : AreListed (λ id. mounts_of id actors) (keys_of spines) lists
  pub surfaces_are : ArePartsAtEnd spines passes mounted lists journal.surfaces
