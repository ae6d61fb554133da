-- What a run keeps of a surface and of each actor, after each turn.
use Rattle.std.proofs.Common.{◌≡◌, ℕ, ◌≤◌, true, List, length, map}
use Rattle.std.specs.List.{AllByRecursion, AllZip, enumerate_from}
use Rattle.tree_revision.specs.Records.{PlainRecord}
use Rattle.tree_revision.specs.Ports.{BeginsWith}
use Rattle.tree_revision.specs.Script.{PlainActor, PlainSurface, PlainScript}
use Rattle.tree_revision.specs.Sound.{mounts_on}
use Rattle.tree_revision.specs.Lawful.{IsLawful}
use Rattle.tree_revision.specs.Mountable.{mountable_of}
use Rattle.run_report.specs.Journal.{PlainActorPart}
use Rattle.run_report.specs.Shorthands.{number_mounted, passages_named}
use Rattle.run_report.specs.Mounts.{last_to}
use Rattle.tree_revision.specs.Wishes.{Wish, as_written}
use Rattle.run_report.specs.Legal.{FollowOn}
use Rattle.run_report.specs.Machine.{SurfaceNow, ActorNow, RunNow, actor_part_of}
use Rattle.run_report.specs.ActorLegal.{GoesThrough, IsLegalSoFar, IsAdmittedBySome}
use Rattle.run_report.proofs.Pairs.{Each}

-- the actors' parts of a journal
abbrev pub parts_of : List ActorNow → List PlainActorPart
parts_of actors = map actor_part_of actors

-- an actor that mounts a surface has left mounted there what stands mounted
abbrev pub HasMounted : (id base : ℕ) → PlainActor → ActorNow → Type 0
HasMounted id base script_actor actor = mounts_on id script_actor ≡ true → number_mounted id actor.answers ≡ base

-- an actor of a run is one of the script, and goes through its steps
pub record IsActorOf (script_actor : PlainActor) (actor : ActorNow) : Type 0 where
  pub name : actor.name ≡ script_actor.name
  pub through : GoesThrough script_actor.steps actor

-- a surface of a run is one of the script
pub record IsSurfaceOf (surface : PlainSurface) (now : SurfaceNow) : Type 0 where
  pub id : now.id ≡ surface.id
  pub first : now.first ≡ surface.size

-- where each commit asks for what is wished of it
module _ (wish : Wish) where
  -- each record of a surface is one that some actor's answers name, over these records and more
  abbrev pub AreNamed : PlainScript → List ActorNow → (id : ℕ) → List PlainRecord → Type 0
  AreNamed script actors id records =
      (entries : List PlainRecord) → BeginsWith entries records
      → AllByRecursion (λ entry. IsAdmittedBySome wish script (parts_of actors) id entries entry.0 entry.1) (enumerate_from 1 records)

  -- what a run keeps of a surface
  pub record IsHookedSurface (script : PlainScript) (actors : List ActorNow) (now : SurfaceNow) : Type 0 where
    pub lawful : IsLawful now.first now.records
    pub base : now.base ≤ mountable_of now.records
    pub forward : FollowOn 0 (passages_named now.id (parts_of actors))
    pub last : last_to (passages_named now.id (parts_of actors)) ≡ now.base
    pub named : AreNamed script actors now.id now.records
    pub actors_on : Each (λ number script_actor actor. IsLegalSoFar wish now.first now.id now.records (length now.records) number script_actor.steps actor) script.actors actors
    pub mounters : Each (λ number script_actor actor. HasMounted now.id now.base script_actor actor) script.actors actors

  -- what a run of a script keeps
  pub record IsHookedRun (script : PlainScript) (run : RunNow) : Type 0 where
    pub surfaces : AllZip IsSurfaceOf script.surfaces run.surfaces
    pub count : length run.actors ≡ length script.actors
    pub actors : Each (λ number script_actor actor. IsActorOf script_actor actor) script.actors run.actors
    pub kept : AllByRecursion (IsHookedSurface script run.actors) run.surfaces

-- what a run keeps in which each commit asks for the change that its step has
abbrev pub IsSurfaceKept : PlainScript → List ActorNow → SurfaceNow → Type 0
IsSurfaceKept = IsHookedSurface as_written

abbrev pub IsRunOf : PlainScript → RunNow → Type 0
IsRunOf = IsHookedRun as_written
