-- Names for parts of the definitions of a run, by which contracts inside and proofs speak of them.
use Rattle.std.specs.Prelude.{ℕ, List, [], ◌∷◌, ◌++◌, drop, take, nat_eq, if◌then◌else◌, slice_get, Option, None, unwrap_or, option_and_then, option_map}
use Rattle.std.specs.List.{fold, flat_map, enumerate_from}
use Rattle.tree_revision.specs.Records.{PlainRecord}
use Rattle.tree_revision.specs.Script.{PlainAct, PlainStep, PlainActor, PlainSurface, PlainScript}
use Rattle.run_report.specs.declared.journal.StepName.{StepName}
use Rattle.run_report.specs.declared.journal.StepPart.{StepPart}
use Rattle.run_report.specs.Journal.{PlainActorPart, PlainJournal}
use Rattle.run_report.specs.Points.{mounted_after}
use Rattle.run_report.specs.Mounts.{Passage, passage_of, passages_by}
use Rattle.run_report.specs.Machine.{SurfaceNow, ActorNow, RunNow, after_hooked_event_on, after_hooked_event_by, after_hooked_event_of, after_hooked_turn}
use Rattle.tree_revision.specs.Wishes.{Wish, as_written}

-- the steps after the first
abbrev pub later : List PlainStep → List PlainStep
later steps = drop 1 steps

-- an actor whose commit was tried that often, and has looked at that number, or is to look again
abbrev pub trying : (tries : ℕ) → (looked : Option ℕ) → ActorNow → ActorNow
trying tries looked actor = record actor { tries = tries; looked = looked }

-- a surface with one more commit
abbrev pub recorded : PlainRecord → SurfaceNow → SurfaceNow
recorded entry surface = record surface { records = surface.records ++ entry ∷ [] }

-- a surface at which another revision stands mounted
abbrev pub mounted_at : ℕ → SurfaceNow → SurfaceNow
mounted_at number surface = record surface { base = number }

-- an event of a commit that asks for what its step has, on the surface that was found, with these steps left, of the actor that was found
abbrev pub after_event_on : RunNow → (number : ℕ) → ActorNow → PlainAct → Option SurfaceNow → RunNow
after_event_on = after_hooked_event_on as_written

abbrev pub after_event_by : RunNow → (number : ℕ) → ActorNow → List PlainStep → RunNow
after_event_by = after_hooked_event_by as_written

abbrev pub after_event_of : RunNow → (number : ℕ) → Option ActorNow → RunNow
after_event_of = after_hooked_event_of as_written

-- a run after some turns
abbrev pub after_hooked_turns : Wish → RunNow → List ℕ → RunNow
after_hooked_turns wish run turns = fold (after_hooked_turn wish) run turns

-- a surface before the first turn
abbrev pub surface_at_start : PlainSurface → SurfaceNow
surface_at_start surface = record { id = surface.id; first = surface.size; records = []; base = 0 }

-- an actor before its first step
abbrev pub begun : PlainActor → ActorNow
begun actor = record { name = actor.name; left = actor.steps; answers = []; tries = 0; looked = None }

-- the passage of a step on the surface of that id
abbrev pub passage_on : (id : ℕ) → StepName → StepPart → List Passage
passage_on id name part = if nat_eq part.surface id then passage_of name part.answer else []

-- the passages that all actors' answers name
abbrev pub passages_named : (id : ℕ) → List PlainActorPart → List Passage
passages_named id actors = flat_map (λ entry. passages_by id entry.0 entry.1.steps) (enumerate_from 0 actors)

-- the step of a name
abbrev pub step_named : PlainScript → StepName → Option PlainStep
step_named script name = option_and_then (λ actor. slice_get actor.steps name.call) (slice_get script.actors name.actor)

-- the answer of a name
abbrev pub answer_named : PlainJournal → StepName → Option StepPart
answer_named journal name = option_and_then (λ actor. slice_get actor.steps name.call) (slice_get journal.actors name.actor)

-- what an actor was answered before a step
abbrev pub answers_before : PlainJournal → StepName → List StepPart
answers_before journal name = unwrap_or (option_map (λ actor. take name.call actor.steps) (slice_get journal.actors name.actor)) []

-- a passage of these numbers, by that step
abbrev pub passage : (base to : ℕ) → Option StepName → Passage
passage base to by = record { base = base; to = to; by = by }

-- the number of the revision that an actor's earlier answers left mounted on the surface of that id
abbrev pub number_mounted : (id : ℕ) → (earlier : List StepPart) → ℕ
number_mounted id earlier = fold (λ base part. if nat_eq part.surface id then mounted_after part.answer base else base) 0 earlier
