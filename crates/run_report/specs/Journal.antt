-- A journal as plain data.
use Rattle.std.specs.Prelude.{ℕ, List, Option, map}
use Rattle.host_views.specs.Plain.{PlainMutation, plain_mutation, PlainHostTree, plain_placed}
use Rattle.tree_revision.specs.Records.{PlainRecord, plain_record}
use Rattle.run_report.specs.declared.journal.StepName.{StepName}
use Rattle.run_report.specs.declared.journal.StepPart.{StepPart}
use Rattle.run_report.specs.declared.journal.MountPart.{MountPart}
use Rattle.run_report.specs.declared.journal.SurfacePart.{SurfacePart}
use Rattle.run_report.specs.declared.journal.ActorPart.{ActorPart}
use Rattle.run_report.specs.declared.journal.Journal.{Journal}

-- a mount: from which revision to which, by which step (the closing one by none), and its mutations
pub record PlainMount : Type 0 where
  pub base : ℕ
  pub to : ℕ
  pub by : Option StepName
  pub mutations : List PlainMutation

-- what a run did on a surface: its admitted commits, its mounts, and the last views
pub record PlainSurfacePart : Type 0 where
  pub id : ℕ
  pub records : List PlainRecord
  pub mounts : List PlainMount
  pub last : PlainHostTree

-- an actor, and the answers of its steps in order
pub record PlainActorPart : Type 0 where
  pub name : List ℕ
  pub steps : List StepPart

-- a whole run
pub record PlainJournal : Type 0 where
  pub surfaces : List PlainSurfacePart
  pub actors : List PlainActorPart

abbrev pub plain_mount : MountPart → PlainMount
plain_mount part = record { base = part.base; to = part.to; by = part.by; mutations = map plain_mutation part.mutations }

abbrev pub plain_surface_part : SurfacePart → PlainSurfacePart
plain_surface_part part = record {
  id = part.id;
  records = map plain_record part.records;
  mounts = map plain_mount part.mounts;
  last = map plain_placed part.last;
}

abbrev pub plain_actor_part : ActorPart → PlainActorPart
plain_actor_part part = record { name = part.name; steps = part.steps }

-- a journal without pointers
abbrev pub plain_journal : Journal → PlainJournal
plain_journal journal = record { surfaces = map plain_surface_part journal.surfaces; actors = map plain_actor_part journal.actors }
