-- A legal journal of a sound script within the counts is in range.
use Rattle.std.proofs.Common.{◌≡◌, ◌≤◌, ◌<◌, ◌+◌, ℕ, zero, suc, Bool, true, cond, List, [], ◌∷◌, ◌++◌, length, length-append, filter, nat_eq, slice_get, All, Some, inl, inr, arith, refl, sym, subst}
use Rattle.std.specs.List.{AllByRecursion, AllZip, list_any, enumerate_from}
use Rattle.std.specs.Option.{option_and_then}
use Rattle.std.proofs.lemmas.Bool.{cases_Bool, or_cases, eqb-true, eq-eqb}
use Rattle.std.proofs.lemmas.List.Elements.{recursion_from_All}
use Rattle.std.proofs.lemmas.Option.{none-some, slice_get_within}
use Rattle.shadow_frame.specs.declared.Size.{Size}
use Rattle.tree_settle.specs.Limits.{IsSizeInRange}
use Rattle.host_views.specs.Registry.{PlainRegistry, mutated, registry_of}
use Rattle.view_flatten.proofs.Distinct.{each_in_first, each_in_second}
use Rattle.tree_revision.specs.Records.{PlainRecord}
use Rattle.tree_revision.specs.Script.{commit, PlainStep, PlainActor, PlainSurface, PlainScript}
use Rattle.tree_revision.specs.Sound.{IsSoundScript, IsWithinCounts, ids_of, step_count}
use Rattle.tree_revision.specs.InRange.{IsActInRange, IsSurfaceInRange, IsStepInRange}
use Rattle.tree_revision.specs.Lawful.{MayAllFollow, IsLawful}
use Rattle.tree_revision.specs.Mountable.{mountable_of}
use Rattle.run_report.specs.declared.journal.StepPart.{StepPart}
use Rattle.run_report.specs.Journal.{PlainMount, PlainActorPart, PlainSurfacePart, PlainJournal}
use Rattle.run_report.specs.Mounts.{Passage, passage_in}
use Rattle.tree_revision.specs.Wishes.{as_written}
use Rattle.run_report.specs.Legal.{Answers, FollowOn, TakenStep, taken_after, taken_from, IsOfItsStep, LooksForward, HasRoomForTries, HasCause, AreMountsOn, IsLegalOn, IsLegal}
use Rattle.run_report.specs.Ranges.{IsCallInRange, IsMutationInRange, IsMountInRange, IsPlacedInRange, IsRecordInRange, IsPartInRange, IsAnswerInRange, AreAnswersInRange, IsInRange}
use Rattle.run_report.proofs.Lists.{all_append, all_kept, all_map, all_unmap, all_weaker}
use Rattle.run_report.proofs.Pairs.{all_zip_length}
use Rattle.run_report.proofs.RecordCounts.{records_le_steps}
use Rattle.run_report.proofs.MutationsInRange.{mutations_in_range}
use Rattle.run_report.proofs.TreesInRange.{tree_in_range}
use Rattle.run_report.proofs.AnswersInRange.{LeadsForward, answer_in_range}
use Rattle.run_report.proofs.PassagesInRange.{IsForwardTo, passages_forward, steps_forward, passages_by_calls}

-- what an actor's steps do is in range
acts_by : (ids : List ℕ) (actor : ℕ) (earlier : List StepPart) (steps : List PlainStep) (parts : List StepPart) → AllByRecursion (IsStepInRange ids) steps
    → AllByRecursion (λ taken. IsActInRange taken.step.act) (taken_after actor earlier steps parts)
acts_by ids actor earlier [] parts h = tt
acts_by ids actor earlier (step ∷ steps) [] h = tt
acts_by ids actor earlier (step ∷ steps) (part ∷ parts) h = (h.0.act, acts_by ids actor (earlier ++ part ∷ []) steps parts h.1)

-- and so is what all actors' steps do
acts_of_all : (ids : List ℕ) (n : ℕ) (actors : List PlainActor) (parts : List PlainActorPart) → AllByRecursion (λ actor. AllByRecursion (IsStepInRange ids) actor.steps) actors
    → AllByRecursion (λ taken. IsActInRange taken.step.act) (taken_from n actors parts)
acts_of_all ids n [] parts h = tt
acts_of_all ids n (actor ∷ actors) [] h = tt
acts_of_all ids n (actor ∷ actors) (part ∷ parts) h =
    all_append (λ taken. IsActInRange taken.step.act) (taken_after n [] actor.steps part.steps) (taken_from (n + 1) actors parts)
    (acts_by ids n [] actor.steps part.steps h.0) (acts_of_all ids (n + 1) actors parts h.1)

-- steps that are legal on a surface have answers in range
answers_on : (first : Size) (id : ℕ) (entries : List PlainRecord) (taken : List TakenStep) → IsSizeInRange first → IsLawful first entries → length entries ≤ 2048
    → AllByRecursion (λ taken. IsActInRange taken.step.act) taken → AllByRecursion (LooksForward id entries) taken
    → AllByRecursion (λ taken. HasRoomForTries as_written first id entries taken taken.answer) taken
    → AllByRecursion (λ taken. HasCause as_written first id entries taken taken.answer) taken
    → AllByRecursion (λ taken. LeadsForward taken.answer) taken → AllByRecursion (λ taken. IsAnswerInRange taken.answer) taken
answers_on first id entries [] size lawful small acts looks room cause forward = tt
answers_on first id entries (each ∷ taken) size lawful small acts looks room cause forward = (
  answer_in_range first id entries each each.answer size lawful small acts.0 refl looks.0.within room.0 cause.0 forward.0,
  answers_on first id entries taken size lawful small acts.1 looks.1 room.1 cause.1 forward.1,
)

-- what holds of each that passes a test
all_that_pass : {A : Type 0} (P : A → Type 0) (p : A → Bool) (xs : List A) → AllByRecursion P (filter p xs) → AllByRecursion (λ x. p x ≡ true → P x) xs
all_that_pass P p [] h = tt
all_that_pass P p (x ∷ xs) h =
    elim (cases_Bool (p x)) [
      | inl e ↦ let kept : AllByRecursion P (x ∷ filter p xs) = subst (λ b. AllByRecursion P (cond b (x ∷ filter p xs) (filter p xs))) e h in (λ _. kept.0, all_that_pass P p xs kept.1)
      | inr e ↦ let left : AllByRecursion P (filter p xs) = subst (λ b. AllByRecursion P (cond b (x ∷ filter p xs) (filter p xs))) e h in (λ t. absurd (cc), all_that_pass P p xs left)
    ]

-- a step on the surface of an id has an answer in range
abbrev IsFineOn : ℕ → TakenStep → Type 0
IsFineOn id taken = nat_eq taken.step.surface id ≡ true → IsAnswerInRange taken.answer

-- on a legal surface each answer is in range
surface_answers : (script : PlainScript) (journal : PlainJournal) (first : Size) (part : PlainSurfacePart) → IsLegal script journal → IsSizeInRange first
    → AllByRecursion (λ actor. AllByRecursion (IsStepInRange (ids_of script.surfaces)) actor.steps) script.actors → length part.records ≤ 2048
    → IsLegalOn as_written script journal first part → AllByRecursion (IsFineOn part.id) (taken_from 0 script.actors journal.actors)
surface_answers script journal first part legal size steps small h =
    let all = taken_from 0 script.actors journal.actors in
    let on = λ (taken : TakenStep). nat_eq taken.step.surface part.id in
    let follow = subst (λ passages. FollowOn 0 passages) h.mounts_follow_on.passages h.mounts_follow_on.forward in
    let acts = all_kept on (λ taken. IsActInRange taken.step.act) all
    (all_weaker (λ taken. IsActInRange taken.step.act) (λ taken. on taken ≡ true → IsActInRange taken.step.act) (λ taken a _. a) all
    (acts_of_all (ids_of script.surfaces) 0 script.actors journal.actors steps)) in
    let forward = all_kept on (λ taken. LeadsForward taken.answer) all (steps_forward part.id part.records script.actors journal.actors legal.form.answers follow) in
    all_that_pass (λ taken. IsAnswerInRange taken.answer) on all
    (answers_on first part.id part.records (filter on all) size h.history_is_lawful small acts h.looks_go_forward h.tries_have_room h.cancels_have_cause forward)

-- of some surfaces' facts about a step, the one of its own surface holds
own_surface : (W : Type 0) (surface : ℕ) (ids : List ℕ) → AllByRecursion (λ id. nat_eq surface id ≡ true → W) ids → list_any (λ id. nat_eq id surface) ids ≡ true → W
own_surface W surface [] h among = absurd cc
own_surface W surface (id ∷ ids) h among =
    elim (or_cases (nat_eq id surface) (list_any (λ id. nat_eq id surface) ids) among) [
      | inl own ↦ h.0 (eq-eqb surface id (sym (eqb-true id surface own)))
      | inr later ↦ own_surface W surface ids h.1 later
    ]

-- so each answer of an actor is in range
actor_answers : (ids : List ℕ) (actor : ℕ) (earlier : List StepPart) (steps : List PlainStep) (parts : List StepPart) → AllZip Answers steps parts
    → AllByRecursion (IsStepInRange ids) steps → AllByRecursion (λ id. AllByRecursion (IsFineOn id) (taken_after actor earlier steps parts)) ids
    → AllByRecursion (λ part. IsAnswerInRange part.answer) parts
actor_answers ids actor earlier [] [] answers range h = tt
actor_answers ids actor earlier [] (part ∷ parts) answers range h = absurd answers
actor_answers ids actor earlier (step ∷ steps) [] answers range h = absurd answers
actor_answers ids actor earlier (step ∷ steps) (part ∷ parts) answers range h =
    let rest = taken_after actor (earlier ++ part ∷ []) steps parts in (
      own_surface (IsAnswerInRange part.answer) step.surface ids
          (all_weaker (λ id. (nat_eq step.surface id ≡ true → IsAnswerInRange part.answer) × AllByRecursion (IsFineOn id) rest) (λ id. nat_eq step.surface id ≡ true → IsAnswerInRange part.answer) (λ id each. each.0) ids h)
          range.0.surface,
      actor_answers ids actor (earlier ++ part ∷ []) steps parts answers.1 range.1
          (all_weaker (λ id. (nat_eq step.surface id ≡ true → IsAnswerInRange part.answer) × AllByRecursion (IsFineOn id) rest) (λ id. AllByRecursion (IsFineOn id) rest) (λ id each. each.1) ids h),
    )

-- and of all actors
all_answers : (ids : List ℕ) (n : ℕ) (actors : List PlainActor) (parts : List PlainActorPart) → AllZip (λ actor part. AllZip Answers actor.steps part.steps) actors parts
    → AllByRecursion (λ actor. AllByRecursion (IsStepInRange ids) actor.steps) actors → AllByRecursion (λ id. AllByRecursion (IsFineOn id) (taken_from n actors parts)) ids
    → AllByRecursion AreAnswersInRange parts
all_answers ids n [] [] answers range h = tt
all_answers ids n [] (part ∷ parts) answers range h = absurd answers
all_answers ids n (actor ∷ actors) [] answers range h = absurd answers
all_answers ids n (actor ∷ actors) (part ∷ parts) answers range h =
    let own = taken_after n [] actor.steps part.steps in
    let rest = taken_from (n + 1) actors parts in (
      actor_answers ids n [] actor.steps part.steps answers.0 range.0
          (all_weaker (λ id. AllByRecursion (IsFineOn id) (own ++ rest)) (λ id. AllByRecursion (IsFineOn id) own) (λ id each. each_in_first (IsFineOn id) own rest each) ids h),
      all_answers ids (n + 1) actors parts answers.1 range.1
          (all_weaker (λ id. AllByRecursion (IsFineOn id) (own ++ rest)) (λ id. AllByRecursion (IsFineOn id) rest) (λ id each. each_in_second (IsFineOn id) own rest each) ids h),
    )

-- the call of a step of a script
call_within : (actors : List PlainActor) (actor call : ℕ) (step : PlainStep)
    → option_and_then (λ (each : PlainActor). slice_get each.steps call) (slice_get actors actor) ≡ Some step → call < step_count actors
call_within [] actor call step at = absurd (none-some step at)
call_within (each ∷ actors) zero call step at = omega (arith, slice_get_within each.steps call step at)
call_within (each ∷ actors) (suc actor) call step at = omega (arith, call_within actors actor call step at)

-- the calls of records
record_calls : (script : PlainScript) (journal : PlainJournal) (id : ℕ) (all : List PlainRecord) (n : ℕ) (entries : List PlainRecord) → step_count script.actors ≤ 2048
    → AllByRecursion (λ entry. IsOfItsStep as_written script journal id all entry.0 entry.1) (enumerate_from n entries) → AllByRecursion (λ (entry : PlainRecord). entry.call < 2048) entries
record_calls script journal id all n [] few h = tt
record_calls script journal id all n (entry ∷ entries) few h = (
  omega (arith, call_within script.actors entry.actor entry.call (record { surface = id; act = commit h.0.change }) h.0.step, few),
  record_calls script journal id all (n + 1) entries few h.1,
)

-- records with such calls that hold what there is
records_in_range : (first : Size) (before entries : List PlainRecord) → length before + length entries ≤ 2048 → MayAllFollow first before entries
    → AllByRecursion (λ (entry : PlainRecord). entry.call < 2048) entries → AllByRecursion IsRecordInRange entries
records_in_range first before [] few lawful calls = tt
records_in_range first before (entry ∷ entries) few lawful calls = (
  record { call = omega (arith, calls.0); held = omega (arith, lawful.0.held, few) },
  records_in_range first (before ++ entry ∷ []) entries (omega (arith, length-append before (entry ∷ []), few)) lawful.1 calls.1,
)

-- mounts whose passages are in range, between host trees in range
mounts_in_range : (first : Size) (entries : List PlainRecord) (views : PlainRegistry) (mounts : List PlainMount) → IsSizeInRange first → IsLawful first entries
    → length entries ≤ 2048 → AllByRecursion (λ mount. IsForwardTo (mountable_of entries) (passage_in mount)) mounts → AllByRecursion (λ mount. IsCallInRange mount.by) mounts
    → AreMountsOn first entries views mounts → AllByRecursion IsMountInRange mounts
mounts_in_range first entries views [] size lawful few forward calls h = tt
mounts_in_range first entries views (mount ∷ mounts) size lawful few forward calls h =
    let trees = tree_in_range first entries size lawful (omega (arith, few)) in (
      record {
        base = omega (arith, forward.0.0, forward.0.1, few);
        to = omega (arith, forward.0.1, few);
        by = calls.0;
        mutations = subst (AllByRecursion IsMutationInRange) (sym h.0.mutations) (mutations_in_range _ _ (trees mount.base) (trees mount.to));
      },
      mounts_in_range first entries (mutated mount.mutations views) mounts size lawful few forward.1 calls.1 h.1,
    )

-- no actor has more steps than all have
steps_few : (actors : List PlainActor) (parts : List PlainActorPart) (most : ℕ) → AllZip (λ actor part. AllZip Answers actor.steps part.steps) actors parts
    → step_count actors ≤ most → AllByRecursion (λ part. length part.steps ≤ most) parts
steps_few [] [] most answers few = tt
steps_few [] (part ∷ parts) most answers few = absurd answers
steps_few (actor ∷ actors) [] most answers few = absurd answers
steps_few (actor ∷ actors) (part ∷ parts) most answers few = (
  omega (arith, all_zip_length Answers actor.steps part.steps answers.0, few),
  steps_few actors parts most answers.1 (omega (arith, few)),
)

-- a legal surface is in range
surface_in_range : (script : PlainScript) (journal : PlainJournal) (first : Size) (part : PlainSurfacePart) → IsLegal script journal → IsSizeInRange first
    → step_count script.actors ≤ 2048 → length part.records ≤ 2048 → IsLegalOn as_written script journal first part → IsPartInRange part
surface_in_range script journal first part legal size few small h =
    let follow = subst (λ passages. FollowOn 0 passages) h.mounts_follow_on.passages h.mounts_follow_on.forward in
    let forward = all_unmap (IsForwardTo (mountable_of part.records)) passage_in part.mounts
    (subst (AllByRecursion (IsForwardTo (mountable_of part.records))) (sym h.mounts_follow_on.passages) (passages_forward part.id part.records journal.actors follow)) in
    let calls = all_unmap (λ (step : Passage). IsCallInRange step.by) passage_in part.mounts
    (subst (AllByRecursion (λ (step : Passage). IsCallInRange step.by)) (sym h.mounts_follow_on.passages)
    (passages_by_calls part.id part.records journal.actors (steps_few script.actors journal.actors 2048 legal.form.answers few))) in
    record {
      records = records_in_range first [] part.records (omega (arith, small)) h.history_is_lawful (record_calls script journal part.id part.records 1 part.records few h.commits_stand_once.records);
      mounts = mounts_in_range first part.records (registry_of []) part.mounts size h.history_is_lawful small forward calls h.views_follow.mounts;
      last = subst (AllByRecursion IsPlacedInRange) (sym h.views_follow.last) (tree_in_range first part.records size h.history_is_lawful (omega (arith, small)) (mountable_of part.records)).views;
    }

-- of lists that go together, what each pair gives, where the first keeps a property
all_pairs : {A B : Type 0} (R : A → B → Type 0) (P : A → Type 0) (Q : B → Type 0) (xs : List A) (ys : List B) → ((x : A) (y : B) → P x → R x y → Q y)
    → AllByRecursion P xs → AllZip R xs ys → AllByRecursion Q ys
all_pairs R P Q [] [] gives h z = tt
all_pairs R P Q [] (y ∷ ys) gives h z = absurd z
all_pairs R P Q (x ∷ xs) [] gives h z = absurd z
all_pairs R P Q (x ∷ xs) (y ∷ ys) gives h z = (gives x y h.0 z.0, all_pairs R P Q xs ys gives h.1 z.1)

-- a legal surface has at most 2,048 records
small_surface : (script : PlainScript) (journal : PlainJournal) (first : Size) (part : PlainSurfacePart) → IsLegal script journal → IsWithinCounts script
    → IsLegalOn as_written script journal first part → length part.records ≤ 2048
small_surface script journal first part legal counts h = omega (arith, records_le_steps as_written script journal first part legal.form h, counts.steps)

-- a legal journal of a sound script within the counts is in range
pub legal_in_range : (script : PlainScript) (journal : PlainJournal) → IsSoundScript script → IsWithinCounts script → IsLegal script journal → IsInRange journal
legal_in_range script journal sound counts legal =
    let surfaces = recursion_from_All IsSurfaceInRange script.surfaces sound.surfaces in
    let ids = ids_of script.surfaces in
    let steps = all_weaker (λ (actor : PlainActor). All (IsStepInRange ids) actor.steps) (λ (actor : PlainActor). AllByRecursion (IsStepInRange ids) actor.steps)
    (λ actor all. recursion_from_All (IsStepInRange ids) actor.steps all) script.actors
    (recursion_from_All (λ (actor : PlainActor). All (IsStepInRange ids) actor.steps) script.actors sound.steps) in
    let taken = taken_from 0 script.actors journal.actors in
    let fine = all_pairs (λ (surface : PlainSurface) (part : PlainSurfacePart). IsLegalOn as_written script journal surface.size part) IsSurfaceInRange
    (λ part. AllByRecursion (IsFineOn part.id) taken) script.surfaces journal.surfaces
    (λ surface part range h. surface_answers script journal surface.size part legal range.size steps (small_surface script journal surface.size part legal counts h) h) surfaces legal.surfaces in
    record {
      surfaces =
          all_pairs (λ (surface : PlainSurface) (part : PlainSurfacePart). IsLegalOn as_written script journal surface.size part) IsSurfaceInRange IsPartInRange
          script.surfaces journal.surfaces (λ surface part range h. surface_in_range script journal surface.size part legal range.size counts.steps (small_surface script journal surface.size part legal counts h) h) surfaces legal.surfaces;
      actors =
          all_answers ids 0 script.actors journal.actors legal.form.answers steps
          (subst (AllByRecursion (λ id. AllByRecursion (IsFineOn id) taken)) legal.form.surfaces
          (all_map (λ id. AllByRecursion (IsFineOn id) taken) (λ (part : PlainSurfacePart). part.id) journal.surfaces fine));
    }
