-- Legal journals: what is promised of every run, however its actors' events interleave.
use Rattle.std.specs.Prelude.{◌≡◌, ℕ, zero, suc, ◌+◌, ◌-◌, ◌≤◌, ◌<◌, List, [], ◌∷◌, ◌++◌, length, take, map, filter, count_by, nat_eq, if◌then◌else◌, is_none, slice_get, Option, Some, None, option_and_then, option_map, unwrap_or}
use Rattle.std.specs.List.{AllByRecursion, AllZip, fold, enumerate_from, range_with_len}
use Rattle.shadow_frame.specs.declared.Size.{Size}
use Rattle.host_views.specs.Registry.{PlainRegistry, MayApply, mutated, registry_of}
use Rattle.view_mutation.specs.Mutations.{mutations_between}
use Rattle.tree_revision.specs.Records.{PlainOp, PlainRecord}
use Rattle.tree_revision.specs.Script.{PlainAct, commit, hold, mount, PlainStep, PlainActor, PlainScript}
use Rattle.tree_revision.specs.Sound.{ids_of, names_of}
use Rattle.tree_revision.specs.Cancels.{cancel_of}
use Rattle.tree_revision.specs.Lawful.{IsLawful}
use Rattle.tree_revision.specs.Mountable.{mountable_of}
use Rattle.tree_revision.specs.declared.record.Cancel.{Cancel}
use Rattle.tree_revision.specs.declared.record.Answer.{Answer}
use Rattle.tree_revision.specs.declared.record.Answer.TheVariants.{Held, Admitted, Cancelled, Mounted, Empty}
use Rattle.run_report.specs.declared.journal.StepName.{StepName}
use Rattle.run_report.specs.declared.journal.StepPart.{StepPart}
use Rattle.run_report.specs.Journal.{PlainMount, PlainSurfacePart, PlainActorPart, PlainJournal}
use Rattle.run_report.specs.Points.{look_point, point_before, number_held, mounted_after}
use Rattle.mount_coordinator.specs.Mounted.{host_tree_at}
use Rattle.run_report.specs.Mounts.{Passage, passage_in, passages_on}
use Rattle.tree_revision.specs.Wishes.{Wish, as_written}

-- a hold is answered held, a mount is answered mounted or empty, and a commit is answered admitted or cancelled
abbrev pub IsAnswerTo : PlainAct → Answer → Type 0
IsAnswerTo hold (Held at) = Unit {0}
IsAnswerTo mount (Mounted base to) = Unit {0}
IsAnswerTo mount (Empty at) = Unit {0}
IsAnswerTo (commit op) (Admitted number tries) = Unit {0}
IsAnswerTo (commit op) (Cancelled at tries cause) = Unit {0}
IsAnswerTo _ _ = ⊥

-- an answer stands on its step's surface and is one to what the step does
pub record Answers (step : PlainStep) (part : StepPart) : Type 0 where
  pub surface : part.surface ≡ step.surface
  pub answer : IsAnswerTo step.act part.answer

-- a journal has the script's surfaces and actors in their order, with one answer for each step
pub record HasFormOf (script : PlainScript) (journal : PlainJournal) : Type 0 where
  pub surfaces : map (λ part. part.id) journal.surfaces ≡ ids_of script.surfaces
  pub names : map (λ part. part.name) journal.actors ≡ names_of script.actors
  pub answers : AllZip (λ actor part. AllZip Answers actor.steps part.steps) script.actors journal.actors

-- a step that was taken: whose it is, what it does, what it was answered, and what its actor was answered before
abbrev pub TakenStep : Type 0
TakenStep = record { name : StepName; step : PlainStep; answer : Answer; earlier : List StepPart }

-- the steps of an actor after some earlier ones, with their answers
abbrev pub taken_after : (actor : ℕ) → (earlier : List StepPart) → List PlainStep → List StepPart → List TakenStep
taken_after actor earlier (step ∷ steps) (part ∷ parts) =
    record { name = record { actor = actor; call = length earlier }; step = step; answer = part.answer; earlier = earlier }
    ∷ taken_after actor (earlier ++ part ∷ []) steps parts
taken_after _ _ _ _ = []

-- the steps of all actors from that number on
abbrev pub taken_from : (actor : ℕ) → List PlainActor → List PlainActorPart → List TakenStep
taken_from number (actor ∷ actors) (part ∷ parts) = taken_after number [] actor.steps part.steps ++ taken_from (number + 1) actors parts
taken_from _ _ _ = []

-- the steps that were taken on the surface of that id
abbrev pub taken_on : PlainScript → PlainJournal → (id : ℕ) → List TakenStep
taken_on script journal id = filter (λ taken. nat_eq taken.step.surface id) (taken_from 0 script.actors journal.actors)

-- the record of that number, counted from 1
abbrev pub record_at : List PlainRecord → ℕ → Option PlainRecord
record_at entries zero = None
record_at entries (suc number) = slice_get entries number

-- whose a record is
abbrev pub name_of : PlainRecord → StepName
name_of entry = record { actor = entry.actor; call = entry.call }

-- where a step was admitted, the record of that number is its own
abbrev pub HasItsRecord : List PlainRecord → TakenStep → Answer → Type 0
HasItsRecord entries taken (Admitted number tries) = option_map name_of (record_at entries number) ≡ Some taken.name
HasItsRecord entries taken _ = Unit {0}

-- a step looks at no less than its actor had seen before, and at no more than there is
pub record LooksForward (id : ℕ) (entries : List PlainRecord) (taken : TakenStep) : Type 0 where
  pub after : point_before id entries taken.earlier ≤ look_point entries (point_before id entries taken.earlier) taken.answer
  pub within : look_point entries (point_before id entries taken.earlier) taken.answer ≤ length entries

-- a record's held number is what its actor holds at that step, after what it was answered before
abbrev pub IsTrulyHeld : PlainJournal → (id : ℕ) → PlainRecord → Type 0
IsTrulyHeld journal id entry =
    entry.held ≡ number_held id (unwrap_or (option_map (λ actor. take entry.call actor.steps) (slice_get journal.actors entry.actor)) [])

-- passages follow on one another: each begins where the one before it led to, and leads forward
abbrev pub FollowOn : (base : ℕ) → List Passage → Type 0
FollowOn base [] = Unit {0}
FollowOn base (step ∷ steps) = (step.base ≡ base) × (step.base < step.to) × FollowOn step.to steps

-- an empty mount names the revision that stands mounted: the one that its actor's earlier answers left mounted on the surface of that id
abbrev pub IsEmptyAt : (id : ℕ) → TakenStep → Answer → Type 0
IsEmptyAt id taken (Empty at) = at ≡ fold (λ base part. if nat_eq part.surface id then mounted_after part.answer base else base) 0 taken.earlier
IsEmptyAt id taken _ = Unit {0}

-- the mounts are those that the steps were answered, and a closing one exactly where the last does not lead to what may be mounted; they follow on one another from 0 on
pub record MountsFollowOn (script : PlainScript) (journal : PlainJournal) (part : PlainSurfacePart) : Type 0 where
  pub passages : map passage_in part.mounts ≡ passages_on part.id part.records journal.actors
  pub forward : FollowOn 0 (map passage_in part.mounts)
  pub empty : AllByRecursion (λ taken. IsEmptyAt part.id taken taken.answer) (taken_on script journal part.id)

-- a mount on these host views: its mutations are those between the two host trees, each may be applied in its turn, and then the views are the tree that it leads to
pub record IsMountOn (first : Size) (entries : List PlainRecord) (views : PlainRegistry) (done : PlainMount) : Type 0 where
  pub mutations : done.mutations ≡ mutations_between (host_tree_at first entries done.base) (host_tree_at first entries done.to)
  pub applied : MayApply done.mutations views
  pub views_after : mutated done.mutations views ≡ registry_of (host_tree_at first entries done.to)

-- the mounts one after the other
abbrev pub AreMountsOn : Size → List PlainRecord → PlainRegistry → List PlainMount → Type 0
AreMountsOn first entries views [] = Unit {0}
AreMountsOn first entries views (done ∷ mounts) = IsMountOn first entries views done × AreMountsOn first entries (mutated done.mutations views) mounts

-- from the empty host tree on the views follow the mounts, and the last views are those of the revision that may be mounted
pub record ViewsFollow (first : Size) (part : PlainSurfacePart) : Type 0 where
  pub mounts : AreMountsOn first part.records (registry_of []) part.mounts
  pub last : part.last ≡ host_tree_at first part.records (mountable_of part.records)

-- where each commit asks for what is wished of it
module _ (wish : Wish) where
  -- record n names a commit on this surface and has what was wished of its change at that look, and that step was answered admitted n
  pub record IsOfItsStep (script : PlainScript) (journal : PlainJournal) (id : ℕ) (entries : List PlainRecord) (number : ℕ) (entry : PlainRecord) : Type 0 where
    pub change : PlainOp
    pub step : option_and_then (λ actor. slice_get actor.steps entry.call) (slice_get script.actors entry.actor) ≡ Some (record { surface = id; act = commit change })
    pub op : entry.op ≡ wish (take (number - 1) entries) entry.held change
    pub tries : ℕ
    pub answer :
        option_and_then (λ actor. slice_get actor.steps entry.call) (slice_get journal.actors entry.actor) ≡ Some (record { surface = id; answer = Admitted number tries })

  -- each admitted commit stands once: each record is of the step that was admitted at its number, and each admitted step has its record
  pub record CommitsStandOnce (script : PlainScript) (journal : PlainJournal) (id : ℕ) (entries : List PlainRecord) : Type 0 where
    pub records : AllByRecursion (λ entry. IsOfItsStep script journal id entries entry.0 entry.1) (enumerate_from 1 entries)
    pub steps : AllByRecursion (λ taken. HasItsRecord entries taken taken.answer) (taken_on script journal id)

  -- why a step that does that would be cancelled after the first records, by an actor that holds that revision; only a commit is cancelled
  abbrev pub cancel_for_act : Size → List PlainRecord → (held : ℕ) → PlainAct → (number : ℕ) → Option Cancel
  cancel_for_act first entries held (commit op) number = cancel_of first (wish (take number entries) held op) (take number entries) held
  cancel_for_act first entries held _ number = None

  -- a cancelled step has its cause where it looked
  abbrev pub HasCause : Size → (id : ℕ) → List PlainRecord → TakenStep → Answer → Type 0
  HasCause first id entries taken (Cancelled at tries cause) = cancel_for_act first entries (number_held id taken.earlier) taken.step.act at ≡ Some cause
  HasCause first id entries taken _ = Unit {0}

  -- how many numbers, from what was left before up to the look, have no cause for a step
  abbrev pub room_for_tries : Size → (id : ℕ) → List PlainRecord → TakenStep → ℕ
  room_for_tries first id entries taken =
      let before = point_before id entries taken.earlier in
      count_by (λ number. is_none (cancel_for_act first entries (number_held id taken.earlier) taken.step.act number))
      (range_with_len before (look_point entries before taken.answer - before))

  -- a commit was tried once at least, and each earlier try has a number of its own at which it had no cause
  abbrev pub HasRoomForTries : Size → (id : ℕ) → List PlainRecord → TakenStep → Answer → Type 0
  HasRoomForTries first id entries taken (Admitted number tries) = (1 ≤ tries) × (tries ≤ room_for_tries first id entries taken + 1)
  HasRoomForTries first id entries taken (Cancelled at tries cause) = (1 ≤ tries) × (tries ≤ room_for_tries first id entries taken + 1)
  HasRoomForTries first id entries taken _ = Unit {0}

  -- what is promised of a surface of that first size
  pub record IsLegalOn (script : PlainScript) (journal : PlainJournal) (first : Size) (part : PlainSurfacePart) : Type 0 where
    pub commits_stand_once : CommitsStandOnce script journal part.id part.records
    pub history_is_lawful : IsLawful first part.records
    pub cancels_have_cause : AllByRecursion (λ taken. HasCause first part.id part.records taken taken.answer) (taken_on script journal part.id)
    pub looks_go_forward : AllByRecursion (LooksForward part.id part.records) (taken_on script journal part.id)
    pub held_is_true : AllByRecursion (IsTrulyHeld journal part.id) part.records
    pub mounts_follow_on : MountsFollowOn script journal part
    pub tries_have_room : AllByRecursion (λ taken. HasRoomForTries first part.id part.records taken taken.answer) (taken_on script journal part.id)
    pub views_follow : ViewsFollow first part

  -- a journal is legal for a script: it has the script's form, and each surface keeps what is promised
  pub record IsHookLegal (script : PlainScript) (journal : PlainJournal) : Type 0 where
    pub form : HasFormOf script journal
    pub surfaces : AllZip (λ surface part. IsLegalOn script journal surface.size part) script.surfaces journal.surfaces

-- a journal is legal for a script in which each commit asks for the change that its step has
abbrev pub IsLegal : PlainScript → PlainJournal → Type 0
IsLegal = IsHookLegal as_written
