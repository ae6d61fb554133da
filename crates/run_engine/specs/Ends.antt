-- What a run leaves at its end.
use Rattle.std.specs.Prelude.{◌≡◌, ℕ, List, ◌++◌, map}
use Rattle.std.specs.List.{AllZip, flat_map}
use Rattle.shadow_frame.specs.declared.Size.{Size}
use Rattle.tree_revision.specs.Records.{PlainRecord}
use Rattle.tree_revision.specs.Settled.{KeptRevision, SettledRevision}
use Rattle.tree_revision.specs.Stands.{StandsFor}
use Rattle.tree_revision.specs.Mountable.{mountable_of}
use Rattle.mount_coordinator.specs.Mounted.{IsBaseIn, host_tree_at}
use Rattle.run_report.specs.declared.journal.MountPart.{MountPart}
use Rattle.run_report.specs.declared.journal.SurfacePart.{SurfacePart}
use Rattle.run_report.specs.Journal.{PlainMount, PlainSurfacePart, plain_mount, plain_surface_part}
use Rattle.run_report.specs.Mounts.{Passage, closed, last_to, mount_along}
use Rattle.run_report.specs.Machine.{SurfaceNow}
use Rattle.run_actor.specs.Actors.{RunningActor}
use Rattle.run_actor.specs.Event.{base_of}
use Rattle.run_engine.specs.declared.workers.Worker.{Worker}
use Rattle.run_engine.specs.Now.{PlainDesk, desk_records, surface_now}
use Rattle.run_actor.specs.Runs.{mounts_made_on}

-- the part of the journal of a surface of that id and first size over these records, with mounts along these passages and the closing one
abbrev pub part_over : (id : ℕ) → Size → List PlainRecord → List Passage → PlainSurfacePart
part_over id first records passages = record {
  id = id;
  records = records;
  mounts = map (mount_along first records) (closed records passages);
  last = host_tree_at first records (mountable_of records);
}

-- a surface's part of the journal, with mounts along these passages and the closing one
abbrev pub part_along : List Passage → SurfaceNow → PlainSurfacePart
part_along passages surface = part_over surface.id surface.first surface.records passages

-- the mounts of some actors on the surface of that id
abbrev pub mounts_of : (id : ℕ) → List RunningActor → List PlainMount
mounts_of id actors = flat_map (λ actor. mounts_made_on id actor.mounts) actors

-- the actors of some workers
abbrev pub actors_of : List Worker → List RunningActor
actors_of workers = map (λ worker. worker.actor) workers

-- lists of mounts, one for each surface of these ids in their order: each has the mounts that are told of its id
abbrev pub AreListed : (told : ℕ → List PlainMount) → (ids : List ℕ) → (lists : List (List MountPart)) → Type 0
AreListed told ids lists = AllZip (λ id mounts. map plain_mount mounts ≡ told id) ids lists

-- the mounts of a surface lie along the passages that are told of its id, and these lead to its base
pub record IsAlong (told : ℕ → List Passage) (entry : ℕ × PlainDesk) (parts : List MountPart) : Type 0 where
  pub base : last_to (told entry.0) ≡ base_of entry.1.mount
  pub mounts : map plain_mount parts ≡ map (mount_along entry.1.port.spine.first (desk_records entry.1)) (told entry.0)

-- mounts that lead to a base are closed: over each history that the front stands for, and along each passages that they lie along, the closing one comes where it must
abbrev pub AreClosed : KeptRevision → (base : SettledRevision) → (mounts all : List MountPart) → Type 0
AreClosed front base mounts all =
    (first : Size) (records : List PlainRecord) (passages : List Passage) → StandsFor first front records → IsBaseIn first records base → last_to passages ≡ base.number
    → map plain_mount mounts ≡ map (mount_along first records) passages → map plain_mount all ≡ map (mount_along first records) (closed records passages)

-- a part of the journal is that of a surface of that id with these records: where the front stands for them and the mounts lie along passages that lead to the base, it is the part along these
pub record IsClosedPart (id : ℕ) (records : List PlainRecord) (front : KeptRevision) (base : SettledRevision) (mounts : List MountPart) (part : SurfacePart) : Type 0 where
  pub id_is : part.id ≡ id
  pub records_are : (plain_surface_part part).records ≡ records
  pub along : (first : Size) (passages : List Passage) → StandsFor first front records → IsBaseIn first records base → last_to passages ≡ base.number
      → map plain_mount mounts ≡ map (mount_along first records) passages → plain_surface_part part ≡ part_over id first records passages

-- a part of the journal is that of a surface of that id with these mounts: where they lie along passages that lead to its base, it is the part along these
abbrev pub IsPartOf : (id : ℕ) → PlainDesk → List MountPart → SurfacePart → Type 0
IsPartOf id desk mounts part =
    (passages : List Passage) → last_to passages ≡ base_of desk.mount → map plain_mount mounts ≡ map (mount_along desk.port.spine.first (desk_records desk)) passages
    → plain_surface_part part ≡ part_along passages (surface_now (id, desk))

-- the mounts of one more actor joined the lists of their surfaces
abbrev pub HaveJoined : (own : List (ℕ × MountPart)) → (ids : List ℕ) → (old new : List (List MountPart)) → Type 0
HaveJoined own ids old new = (told : ℕ → List PlainMount) → AreListed told ids old → AreListed (λ id. told id ++ mounts_made_on id own) ids new

-- parts of the journal are those of surfaces with these lists of mounts, in their order
abbrev pub ArePartsOf : List (ℕ × PlainDesk) → List (List MountPart) → List SurfacePart → Type 0
ArePartsOf entries lists parts =
    (told : ℕ → List Passage) → AllZip (IsAlong told) entries lists
    → map plain_surface_part parts ≡ map (λ surface. part_along (told surface.id) surface) (map surface_now entries)
