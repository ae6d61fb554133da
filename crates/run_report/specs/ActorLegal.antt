-- What one actor keeps on one surface, over the history that is known there so far: its answers, its commit under way, the records and looks that its answers name, and its mounts.
use Rattle.std.specs.Prelude.{◌≡◌, ℕ, ◌+◌, ◌-◌, ◌≤◌, List, [], ◌∷◌, ◌++◌, length, take, drop, map, filter, flat_map, sum_by, count_by, min, Contains, nat_eq, if◌then◌else◌, true, is_none, slice_get, Option, Some, None}
use Rattle.std.specs.List.{AllByRecursion, AllZip, enumerate_from, range_with_len}
use Rattle.shadow_frame.specs.declared.Size.{Size}
use Rattle.host_views.specs.Registry.{registry_of}
use Rattle.tree_revision.specs.Records.{PlainRecord}
use Rattle.tree_revision.specs.Script.{PlainAct, commit, mount, PlainStep, PlainActor, PlainScript}
use Rattle.tree_revision.specs.Lawful.{IsLawful}
use Rattle.tree_revision.specs.Mountable.{mountable_of}
use Rattle.tree_revision.specs.Ports.{BeginsWith}
use Rattle.tree_revision.specs.declared.record.Answer.{Answer}
use Rattle.tree_revision.specs.declared.record.Answer.TheVariants.{Admitted, Cancelled}
use Rattle.mount_coordinator.specs.Mounted.{host_tree_at}
use Rattle.run_report.specs.declared.journal.StepPart.{StepPart}
use Rattle.run_report.specs.Journal.{PlainMount, PlainSurfacePart, PlainActorPart}
use Rattle.run_report.specs.Points.{point_before, number_held}
use Rattle.run_report.specs.Mounts.{passages_by, last_to, passages_on, mount_along}
use Rattle.run_report.specs.Legal.{Answers, TakenStep, taken_after, HasItsRecord, cancel_for_act, HasCause, LooksForward, IsEmptyAt, HasRoomForTries, FollowOn, AreMountsOn}
use Rattle.run_report.specs.Machine.{SurfaceNow, ActorNow, Moment}
use Rattle.tree_revision.specs.Wishes.{Wish}

-- the steps that an actor has taken on the surface of that id
abbrev pub taken_by : (number : ℕ) → List PlainStep → List StepPart → (id : ℕ) → List TakenStep
taken_by number steps answers id = filter (λ taken. nat_eq taken.step.surface id) (taken_after number [] steps answers)

-- the steps that an actor has answered and those that are left are together its steps
pub record GoesThrough (steps : List PlainStep) (actor : ActorNow) : Type 0 where
  pub done : List PlainStep
  pub whole : steps ≡ done ++ actor.left
  pub answers : AllZip Answers done actor.answers

-- how often a step with that answer looked
abbrev pub looks_of : Answer → ℕ
looks_of (Admitted number tries) = tries
looks_of (Cancelled at tries cause) = tries
looks_of _ = 1

-- how often the steps with these answers looked on the surface of that id
abbrev pub looks_named : (id : ℕ) → List StepPart → ℕ
looks_named id answers = sum_by (λ part. if nat_eq part.surface id then looks_of part.answer else 0) answers

-- how often a commit under way has looked
abbrev pub tries_of : PlainAct → (tries : ℕ) → ℕ
tries_of (commit op) tries = tries
tries_of _ tries = 0

-- how often the step that is at hand has looked on the surface of that id
abbrev pub looks_under_way : (id : ℕ) → (left : List PlainStep) → (tries : ℕ) → ℕ
looks_under_way id [] tries = 0
looks_under_way id (step ∷ left) tries = if nat_eq step.surface id then tries_of step.act tries else 0

-- how often an actor has looked so far on the surface of that id
abbrev pub looks_so_far : (id : ℕ) → ActorNow → ℕ
looks_so_far id actor = looks_named id actor.answers + looks_under_way id actor.left actor.tries

-- how often an event looks: once, but an offer not at all
abbrev pub looks_at : PlainAct → (looked : Option ℕ) → ℕ
looks_at (commit op) (Some at) = 0
looks_at _ _ = 1

-- the passages that an actor's answers name on the surface of that id follow on from number 0, and lead no further than what may be mounted
pub record PassagesFollowOn (id : ℕ) (entries : List PlainRecord) (number : ℕ) (answers : List StepPart) : Type 0 where
  pub forward : FollowOn 0 (passages_by id number answers)
  pub within : last_to (passages_by id number answers) ≤ mountable_of entries

-- an actor's mounts on the surface of that id: they lie along the passages that its answers name, and from the empty host tree on the views follow them
pub record MountsFollow (first : Size) (id : ℕ) (entries : List PlainRecord) (number : ℕ) (answers : List StepPart) (mounts : List PlainMount) : Type 0 where
  pub passages : PassagesFollowOn id entries number answers
  pub along : mounts ≡ map (mount_along first entries) (passages_by id number answers)
  pub views : AreMountsOn first entries (registry_of []) mounts

-- where each commit asks for what is wished of it
module _ (wish : Wish) where
  -- what is promised of a step that was taken
  pub record IsLegalStep (first : Size) (id : ℕ) (entries : List PlainRecord) (taken : TakenStep) : Type 0 where
    pub own_record : HasItsRecord entries taken taken.answer
    pub cause : HasCause wish first id entries taken taken.answer
    pub looks : LooksForward id entries taken
    pub empty : IsEmptyAt id taken taken.answer
    pub room : HasRoomForTries wish first id entries taken taken.answer

  -- an actor's answers are legal over these records and over every history that begins with them, and what they leave and hold is within the records
  pub record AreLegalAnswers (first : Size) (id : ℕ) (records : List PlainRecord) (number : ℕ) (steps : List PlainStep) (answers : List StepPart) : Type 0 where
    pub taken : (entries : List PlainRecord) → BeginsWith entries records
        → AllByRecursion (IsLegalStep first id entries) (taken_by number steps answers id)
    pub point : (entries : List PlainRecord) → BeginsWith entries records → point_before id entries answers ≤ length records
    pub holds : number_held id answers ≤ length records

  -- how many numbers, from what was left before up to that one, have no cause for what a step does
  abbrev pub room_up_to : Size → (id : ℕ) → List PlainRecord → (earlier : List StepPart) → PlainAct → (number : ℕ) → ℕ
  room_up_to first id entries earlier act number =
      count_by (λ q. is_none (cancel_for_act wish first entries (number_held id earlier) act q))
      (range_with_len (point_before id entries earlier) (number - point_before id entries earlier))

  -- a commit that has looked at that number was tried, each time at a number of its own that had no cause, and this one has none
  pub record HasLookedAt (first : Size) (id : ℕ) (records : List PlainRecord) (actor : ActorNow) (act : PlainAct) (at : ℕ) : Type 0 where
    pub tried : 1 ≤ actor.tries
    pub within : at ≤ length records
    pub after : (entries : List PlainRecord) → BeginsWith entries records → point_before id entries actor.answers ≤ at
    pub room : (entries : List PlainRecord) → BeginsWith entries records → actor.tries ≤ room_up_to first id entries actor.answers act at + 1
    pub clear : (entries : List PlainRecord) → BeginsWith entries records → cancel_for_act wish first entries (number_held id actor.answers) act at ≡ None

  -- a commit that is to look was tried so often, each time at a number of its own that had no cause, below a number that was reached
  abbrev pub HasTried : Size → (id : ℕ) → List PlainRecord → (floor : ℕ) → ActorNow → PlainAct → Option ℕ → Type 0
  HasTried first id records floor actor act None =
      (entries : List PlainRecord) → BeginsWith entries records → actor.tries ≤ room_up_to first id entries actor.answers act (min floor (length records + 1))
  HasTried first id records floor actor act (Some at) = HasLookedAt first id records actor act at

  -- the step that an actor is at, where it is on the surface of that id
  abbrev pub IsUnderWay : Size → (id : ℕ) → List PlainRecord → (floor : ℕ) → ActorNow → List PlainStep → Type 0
  IsUnderWay first id records floor actor [] = Unit {0}
  IsUnderWay first id records floor actor (step ∷ steps) = nat_eq step.surface id ≡ true → HasTried first id records floor actor step.act actor.looked

  -- an actor is legal so far on the surface of that id, where these records are known and the floor is a number that was reached: by its answers, and by its commit under way
  pub record IsLegalSoFar (first : Size) (id : ℕ) (records : List PlainRecord) (floor number : ℕ) (steps : List PlainStep) (actor : ActorNow) : Type 0 where
    pub answers : AreLegalAnswers first id records number steps actor.answers
    pub under_way : IsUnderWay first id records floor actor actor.left

  -- an event of an actor may be taken on a surface: the actor goes through its steps, is at that one, which is on the surface, and is legal so far; where a commit is to look, what was reached is within the records; and where the step mounts, what the actor left mounted there stands mounted
  pub record MayTakeEvent (floor number : ℕ) (steps : List PlainStep) (step : PlainStep) (surface : SurfaceNow) (actor : ActorNow) : Type 0 where
    pub through : GoesThrough steps actor
    pub at : slice_get actor.left 0 ≡ Some step
    pub on : step.surface ≡ surface.id
    pub legal : IsLegalSoFar surface.first surface.id surface.records floor number steps actor
    pub fresh : actor.looked ≡ None → floor ≤ length surface.records
    pub mounted : step.act ≡ mount → surface.base ≡ last_to (passages_by surface.id number actor.answers)

  -- after an event the actor goes on through its steps, and is legal so far where that number was reached
  pub record IsLegalAfter (reached number : ℕ) (steps : List PlainStep) (after : Moment) : Type 0 where
    pub through : GoesThrough steps after.actor
    pub legal : IsLegalSoFar after.surface.first after.surface.id after.surface.records reached number steps after.actor

  -- the record of an admitted commit, with its number
  abbrev pub record_named : (id : ℕ) → List PlainRecord → TakenStep → PlainAct → Answer → List (ℕ × PlainRecord)
  record_named id entries taken (commit op) (Admitted number tries) =
      let held = number_held id taken.earlier in
      let entry : PlainRecord = record { actor = taken.name.actor; call = taken.name.call; held = held; op = wish (take (number - 1) entries) held op } in
      (number, entry) ∷ []
  record_named id entries taken _ _ = []

  -- the records, each with its number, that an actor's admitted answers name on the surface of that id
  abbrev pub admitted_records : (id : ℕ) → List PlainRecord → (number : ℕ) → List PlainStep → List StepPart → List (ℕ × PlainRecord)
  admitted_records id entries number steps answers =
      flat_map (λ taken. record_named id entries taken taken.step.act taken.answer) (taken_by number steps answers id)

  -- an event on the surface of that id leaves the actor's looks there as many more as it looked, and its records with those by which the history grew
  pub record NamesItsEvent (number : ℕ) (steps : List PlainStep) (step : PlainStep) (surface : SurfaceNow) (actor : ActorNow) (after : Moment) : Type 0 where
    pub looks : looks_so_far surface.id after.actor ≡ looks_so_far surface.id actor + looks_at step.act actor.looked
    pub records : admitted_records surface.id after.surface.records number steps after.actor.answers
        ≡ admitted_records surface.id after.surface.records number steps actor.answers
        ++ enumerate_from (length surface.records + 1) (drop (length surface.records) after.surface.records)

  -- what an actor names and holds on the surface of that id is the same
  pub record NamesTheSame (id : ℕ) (entries : List PlainRecord) (number : ℕ) (steps : List PlainStep) (before after : ActorNow) : Type 0 where
    pub looks : looks_so_far id after ≡ looks_so_far id before
    pub records : admitted_records id entries number steps after.answers ≡ admitted_records id entries number steps before.answers
    pub passages : passages_by id number after.answers ≡ passages_by id number before.answers
    pub held : number_held id after.answers ≡ number_held id before.answers

  -- a record of that number is one that some actor's admitted answers name
  pub record IsAdmittedBySome (script : PlainScript) (actors : List PlainActorPart) (id : ℕ) (entries : List PlainRecord) (number : ℕ) (entry : PlainRecord) : Type 0 where
    pub actor : ℕ
    pub plan : PlainActor
    pub part : PlainActorPart
    pub plan_at : slice_get script.actors actor ≡ Some plan
    pub part_at : slice_get actors actor ≡ Some part
    pub named : Contains (admitted_records id entries actor plan.steps part.steps) (number, entry)

  -- each actor is legal on a surface, by its answers and their passages
  pub record IsLegalActorOn (first : Size) (part : PlainSurfacePart) (number : ℕ) (plan : PlainActor) (own : PlainActorPart) : Type 0 where
    pub answers : AreLegalAnswers first part.id part.records number plan.steps own.steps
    pub passages : PassagesFollowOn part.id part.records number own.steps

  -- a surface's part of a journal is put together of what its actors keep: the history is lawful, and each record is one that an actor names; mounts and last views are those of the definitions
  pub record IsPutTogether (script : PlainScript) (actors : List PlainActorPart) (first : Size) (part : PlainSurfacePart) : Type 0 where
    pub lawful : IsLawful first part.records
    pub named : AllByRecursion (λ entry. IsAdmittedBySome script actors part.id part.records entry.0 entry.1) (enumerate_from 1 part.records)
    pub each : (number : ℕ) (plan : PlainActor) (own : PlainActorPart) → slice_get script.actors number ≡ Some plan → slice_get actors number ≡ Some own
        → IsLegalActorOn first part number plan own
    pub mounts : part.mounts ≡ map (mount_along first part.records) (passages_on part.id part.records actors)
    pub last : part.last ≡ host_tree_at first part.records (mountable_of part.records)
