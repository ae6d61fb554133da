-- The machine of turns: a run in which each turn is one event of one actor.
use Rattle.std.specs.Prelude.{ℕ, ◌+◌, ◌*◌, List, [], ◌∷◌, ◌++◌, length, map, drop, replicate, nat_eq, if◌then◌else◌, slice_get, slice_set, Option, Some, None}
use Rattle.std.specs.List.{find, fold, flat_map, enumerate_from}
use Rattle.shadow_frame.specs.declared.Size.{Size}
use Rattle.tree_revision.specs.Records.{PlainOp, PlainRecord}
use Rattle.tree_revision.specs.Script.{PlainAct, commit, hold, mount, PlainStep, PlainActor, PlainScript}
use Rattle.tree_revision.specs.Cancels.{cancel_of}
use Rattle.tree_revision.specs.Mountable.{mountable_of}
use Rattle.tree_revision.specs.declared.record.Cancel.{Cancel}
use Rattle.tree_revision.specs.declared.record.Answer.{Answer}
use Rattle.tree_revision.specs.declared.record.Answer.TheVariants.{Held, Admitted, Cancelled, Mounted, Empty}
use Rattle.run_report.specs.declared.journal.StepPart.{StepPart}
use Rattle.run_report.specs.Journal.{PlainSurfacePart, PlainActorPart, PlainJournal}
use Rattle.run_report.specs.Points.{number_held}
use Rattle.tree_revision.specs.Wishes.{Wish, as_written}
use Rattle.mount_coordinator.specs.Mounted.{host_tree_at}
use Rattle.run_report.specs.Mounts.{passages_on, mount_along}

-- a surface in a run: its id and its first size, its admitted commits, and the number of the revision that stands mounted
abbrev pub SurfaceNow : Type 0
SurfaceNow = record { id : ℕ; first : Size; records : List PlainRecord; base : ℕ }

-- an actor in a run: its name, the steps left, the answers so far, and of a commit under way its tries and the number at which it looked, where it has looked
abbrev pub ActorNow : Type 0
ActorNow = record { name : List ℕ; left : List PlainStep; answers : List StepPart; tries : ℕ; looked : Option ℕ }

-- a run: its surfaces and its actors
abbrev pub RunNow : Type 0
RunNow = record { surfaces : List SurfaceNow; actors : List ActorNow }

-- a surface and an actor after an event
abbrev pub Moment : Type 0
Moment = record { surface : SurfaceNow; actor : ActorNow }

abbrev pub moment : SurfaceNow → ActorNow → Moment
moment surface actor = record { surface = surface; actor = actor }

-- an actor whose step ended with that answer, on the surface of that id
abbrev pub answered : (id : ℕ) → Answer → ActorNow → ActorNow
answered id answer actor =
    record actor { left = drop 1 actor.left; answers = actor.answers ++ (record { surface = id; answer = answer }) ∷ []; tries = 0; looked = None }

-- a mount: empty where the revision that may be mounted stands mounted, and else it is mounted
abbrev pub after_mount : SurfaceNow → ActorNow → Moment
after_mount surface actor =
    if nat_eq (mountable_of surface.records) surface.base then moment surface (answered surface.id (Empty surface.base) actor)
    else moment (record surface { base = mountable_of surface.records }) (answered surface.id (Mounted surface.base (mountable_of surface.records)) actor)

-- a look that found a cause ends the step, and one that found none leaves the number that it looked at
abbrev pub looked_with : Option Cancel → SurfaceNow → ActorNow → ActorNow
looked_with None surface actor = record actor { tries = actor.tries + 1; looked = Some (length surface.records) }
looked_with (Some cause) surface actor = answered surface.id (Cancelled (length surface.records) (actor.tries + 1) cause) actor

-- a look of a commit: one more try
abbrev pub after_look : PlainOp → SurfaceNow → ActorNow → Moment
after_look op surface actor = moment surface (looked_with (cancel_of surface.first op surface.records (number_held surface.id actor.answers)) surface actor)

-- an offer of a commit that looked at that number: it is admitted where nothing newer came, and else the commit is to look again
abbrev pub after_offer : (number : ℕ) → PlainOp → (at : ℕ) → SurfaceNow → ActorNow → Moment
after_offer number op at surface actor =
    let entry : PlainRecord = record { actor = number; call = length actor.answers; held = number_held surface.id actor.answers; op = op } in
    if nat_eq at (length surface.records)
    then moment (record surface { records = surface.records ++ entry ∷ [] }) (answered surface.id (Admitted (length surface.records + 1) actor.tries) actor)
    else moment surface (record actor { looked = None })

-- an event of a commit: a look, or an offer where it has looked
abbrev pub after_commit : (number : ℕ) → PlainOp → Option ℕ → SurfaceNow → ActorNow → Moment
after_commit number op None surface actor = after_look op surface actor
after_commit number op (Some at) surface actor = after_offer number op at surface actor

-- a run with that surface and that actor in their places
abbrev pub with_moment : RunNow → (number : ℕ) → Moment → RunNow
with_moment run number now =
    record { surfaces = map (λ surface. if nat_eq surface.id now.surface.id then now.surface else surface) run.surfaces; actors = slice_set run.actors number now.actor }

-- a run before the first turn: no surface has a commit, and no actor an answer
abbrev pub run_of : PlainScript → RunNow
run_of script = record {
  surfaces = map (λ surface. record { id = surface.id; first = surface.size; records = []; base = 0 }) script.surfaces;
  actors = map (λ actor. record { name = actor.name; left = actor.steps; answers = []; tries = 0; looked = None }) script.actors;
}

-- turns that take each actor in its order to its end: alone, a step has three events at most, an offer that comes too late, a look, and an offer
abbrev pub ending_turns : List PlainActor → List ℕ
ending_turns actors = flat_map (λ entry. replicate (3 * length entry.1.steps) entry.0) (enumerate_from 0 actors)

-- an actor's part of the journal
abbrev pub actor_part_of : ActorNow → PlainActorPart
actor_part_of actor = record { name = actor.name; steps = actor.answers }

-- a surface's part of the journal: its commits, its mounts along the passages that the answers name, and the last views
abbrev pub surface_part_of : List PlainActorPart → SurfaceNow → PlainSurfacePart
surface_part_of actors surface =
    let mounts = map (mount_along surface.first surface.records) (passages_on surface.id surface.records actors) in
    record { id = surface.id; records = surface.records; mounts = mounts; last = host_tree_at surface.first surface.records (mountable_of surface.records) }

-- the journal of a run that has come to its end
abbrev pub journal_at_end : RunNow → PlainJournal
journal_at_end run = record { surfaces = map (surface_part_of (map actor_part_of run.actors)) run.surfaces; actors = map actor_part_of run.actors }

-- a run in which each commit asks for what is wished of it
module _ (wish : Wish) where
  -- an event of the actor of that number, whose step does that: a commit asks for what is wished, and a hold holds the newest revision
  abbrev pub after_hooked_event : (number : ℕ) → PlainAct → SurfaceNow → ActorNow → Moment
  after_hooked_event number (commit op) surface actor =
      after_commit number (wish surface.records (number_held surface.id actor.answers) op) actor.looked surface actor
  after_hooked_event number hold surface actor = moment surface (answered surface.id (Held (length surface.records)) actor)
  after_hooked_event number mount surface actor = after_mount surface actor

  -- a run after an event of that actor, whose step does that, on the surface that was found
  abbrev pub after_hooked_event_on : RunNow → (number : ℕ) → ActorNow → PlainAct → Option SurfaceNow → RunNow
  after_hooked_event_on run number actor act None = run
  after_hooked_event_on run number actor act (Some surface) = with_moment run number (after_hooked_event number act surface actor)

  -- a run after an event of that actor, which has these steps left: it is one of the first of them, on its surface
  abbrev pub after_hooked_event_by : RunNow → (number : ℕ) → ActorNow → (left : List PlainStep) → RunNow
  after_hooked_event_by run number actor [] = run
  after_hooked_event_by run number actor (step ∷ left) =
      after_hooked_event_on run number actor step.act (find (λ surface. nat_eq surface.id step.surface) run.surfaces)

  -- a run after an event of the actor that was found
  abbrev pub after_hooked_event_of : RunNow → (number : ℕ) → Option ActorNow → RunNow
  after_hooked_event_of run number None = run
  after_hooked_event_of run number (Some actor) = after_hooked_event_by run number actor actor.left

  -- a run after one turn: one event of the actor of that number; where it has no step left, nothing
  abbrev pub after_hooked_turn : RunNow → (number : ℕ) → RunNow
  after_hooked_turn run number = after_hooked_event_of run number (slice_get run.actors number)

  -- the journal of a script: its turns, and then each actor to its end
  abbrev pub journal_of_hooked_turns : PlainScript → PlainJournal
  journal_of_hooked_turns script = journal_at_end (fold after_hooked_turn (run_of script) (script.turns ++ ending_turns script.actors))

-- an event of a commit that asks for the change that its step has
abbrev pub after_event : (number : ℕ) → PlainAct → SurfaceNow → ActorNow → Moment
after_event = after_hooked_event as_written

-- a turn in which each commit asks for the change that its step has
abbrev pub after_turn : RunNow → (number : ℕ) → RunNow
after_turn = after_hooked_turn as_written

-- the journal of a script in which each commit asks for the change that its step has
abbrev pub journal_of_turns : PlainScript → PlainJournal
journal_of_turns = journal_of_hooked_turns as_written
