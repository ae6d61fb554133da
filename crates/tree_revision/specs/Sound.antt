-- The scripts that can be run: their names, surfaces, values, mounters and turns are sound.
use Rattle.std.specs.Prelude.{ℕ, ◌+◌, ◌≤◌, ◌<◌, List, [], ◌∷◌, length, map, count_by, All, Bool, false, true, IsTrue, ◌&&◌, ◌||◌, nat_eq, nat_le, bytes_eq}
use Rattle.std.specs.List.{list_all, list_any, IsDistinct}
use Rattle.tree_revision.specs.Script.{PlainAct, mount, PlainActor, PlainSurface, PlainScript}
use Rattle.tree_revision.specs.InRange.{IsSurfaceInRange, IsStepInRange}

-- a byte of a name: a lower-case ASCII letter, a digit, `_` or `-`
abbrev pub is_name_byte : ℕ → Bool
is_name_byte byte = nat_le 97 byte && nat_le byte 122 || nat_le 48 byte && nat_le byte 57 || nat_eq byte 95 || nat_eq byte 45

-- a name: from 1 to 32 such bytes
abbrev pub is_name : List ℕ → Bool
is_name text = nat_le 1 (length text) && nat_le (length text) 32 && list_all is_name_byte text

-- the names of some actors
abbrev pub names_of : List PlainActor → List (List ℕ)
names_of actors = map (λ actor. actor.name) actors

-- the ids of some surfaces
abbrev pub ids_of : List PlainSurface → List ℕ
ids_of surfaces = map (λ surface. surface.id) surfaces

-- a step that mounts
abbrev pub is_mount : PlainAct → Bool
is_mount mount = true
is_mount _ = false

-- an actor has a step that mounts the surface of that id
abbrev pub mounts_on : ℕ → PlainActor → Bool
mounts_on id actor = list_any (λ step. is_mount step.act && nat_eq step.surface id) actor.steps

-- at most one of the actors mounts the surface of that id
abbrev pub HasOneMounter : List PlainActor → ℕ → Type 0
HasOneMounter actors id = count_by (mounts_on id) actors ≤ 1

-- each actor has a name of its own, each surface an id of its own; every value is in range, and every step on a surface that there is; one actor at most mounts each surface; and each turn is an actor's
pub record IsSoundScript (script : PlainScript) : Type 0 where
  pub names : All (λ name. IsTrue (is_name name)) (names_of script.actors)
  pub names_differ : IsDistinct bytes_eq (names_of script.actors)
  pub surfaces : All IsSurfaceInRange script.surfaces
  pub ids_differ : IsDistinct nat_eq (ids_of script.surfaces)
  pub steps : All (λ actor. All (IsStepInRange (ids_of script.surfaces)) actor.steps) script.actors
  pub mounters : All (HasOneMounter script.actors) (ids_of script.surfaces)
  pub turns : All (λ turn. turn < length script.actors) script.turns

-- how many steps some actors have
abbrev pub step_count : List PlainActor → ℕ
step_count [] = 0
step_count (actor ∷ actors) = length actor.steps + step_count actors

-- at most 8 surfaces, 16 actors, 2,048 steps over all actors, and 65,536 turns
pub record IsWithinCounts (script : PlainScript) : Type 0 where
  pub surfaces : length script.surfaces ≤ 8
  pub actors : length script.actors ≤ 16
  pub steps : step_count script.actors ≤ 2048
  pub turns : length script.turns ≤ 65536
