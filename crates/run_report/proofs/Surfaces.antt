-- What a run keeps of a surface, after each event.
use Rattle.std.proofs.Common.{◌≡◌, ℕ, ◌≤◌, true, false, cond, ◌&&◌, ◌||◌, List, [], ◌∷◌, ◌++◌, length, nat_eq, slice_get, slice_set, option_and_then, Option, Some, refl, ap, sym, ◌∙◌, subst, append-nil}
use Rattle.std.specs.List.{AllByRecursion, enumerate_from, list_any}
use Rattle.std.proofs.lemmas.Bool.{or_left, or_right, and_from, eq-eqb, both_ways}
use Rattle.std.proofs.lemmas.Option.{same_Some}
use Rattle.std.proofs.lemmas.List.Folds.{list_any-append}
use Rattle.tree_revision.specs.Records.{PlainRecord}
use Rattle.tree_revision.specs.Ports.{BeginsWith}
use Rattle.tree_revision.specs.Script.{mount, PlainStep, PlainActor, PlainScript}
use Rattle.tree_revision.specs.Sound.{is_mount, mounts_on}
use Rattle.tree_revision.specs.Lawful.{IsLawful}
use Rattle.tree_revision.specs.Mountable.{mountable_of}
use Rattle.tree_revision.specs.declared.record.Answer.{Answer}
use Rattle.run_report.specs.declared.journal.StepName.{StepName}
use Rattle.run_report.specs.declared.journal.StepPart.{StepPart}
use Rattle.run_report.specs.Points.{mounted_after}
use Rattle.run_report.specs.Shorthands.{number_mounted, passages_named, trying, step_named}
use Rattle.run_report.specs.Mounts.{passage_of, passages_by, last_to}
use Rattle.tree_revision.specs.Wishes.{Wish}
use Rattle.run_report.specs.Legal.{Answers, FollowOn}
use Rattle.run_report.specs.Machine.{SurfaceNow, ActorNow, answered}
use Rattle.run_report.specs.ActorLegal.{IsLegalSoFar, record_named, admitted_records, IsAdmittedBySome}
use Rattle.run_report.proofs.Lists.{slice_get_at, all_weaker}
use Rattle.run_report.proofs.Pairs.{Each, each_set, all_zip_length}
use Rattle.run_report.proofs.Begins.{begins_self}
use Rattle.run_report.proofs.Looks.{number_mounted-push, number_mounted-other, taken_step}
use Rattle.run_report.proofs.Kept.{parts_of, HasMounted, AreNamed, IsHookedSurface, IsActorOf}
use Rattle.run_report.proofs.Actors.{legal_over_more, legal_trying, legal_elsewhere}
use Rattle.run_report.proofs.AdmittedRecords.{admitted_records-push, named_when_more}
use Rattle.run_report.proofs.Passages.{passages_by-push, passages_by-quiet, passages_stay}

-- an actor of a run is at a step
pub record IsAtStep (script : PlainScript) (actors : List ActorNow) (number : ℕ) (script_actor : PlainActor) (actor : ActorNow) (step : PlainStep) (rest : List PlainStep) : Type 0 where
  pub script_at : slice_get script.actors number ≡ Some script_actor
  pub at : slice_get actors number ≡ Some actor
  pub count : length actors ≡ length script.actors
  pub shape : Each (λ n a b. IsActorOf a b) script.actors actors
  pub left : actor.left ≡ step ∷ rest

module _ (script : PlainScript) (actors : List ActorNow) (number : ℕ) (script_actor : PlainActor) (actor : ActorNow) (step : PlainStep) (rest : List PlainStep)
    (t : IsAtStep script actors number script_actor actor step rest) where
  -- the actor is one of the script
  pub own_actor : IsActorOf script_actor actor
  own_actor = t.shape number script_actor actor t.script_at t.at

  -- its steps are those done, this one, and the rest
  pub own_steps : script_actor.steps ≡ own_actor.through.done ++ step ∷ rest
  own_steps = own_actor.through.whole ∙ ap (λ l. own_actor.through.done ++ l) t.left

  -- the step has its name
  pub own_name : step_named script (record { actor = number; call = length actor.answers }) ≡ Some step
  own_name =
      ap (option_and_then (λ a. slice_get a.steps (length actor.answers))) t.script_at
      ∙ ap (λ l. slice_get l (length actor.answers)) own_steps
      ∙ ap (slice_get (own_actor.through.done ++ step ∷ rest)) (all_zip_length Answers own_actor.through.done actor.answers own_actor.through.answers)
      ∙ slice_get_at own_actor.through.done step rest

  -- an actor at a mount mounts that surface
  pub own_mount : (id : ℕ) → step.act ≡ mount → step.surface ≡ id → mounts_on id script_actor ≡ true
  own_mount id act on =
      let p = λ (s : PlainStep). is_mount s.act && nat_eq s.surface id in
      let here : p step ≡ true = and_from (is_mount step.act) (nat_eq step.surface id) (ap is_mount act) (eq-eqb step.surface id on) in
      ap (list_any p) own_steps ∙ list_any-append p own_actor.through.done (step ∷ rest)
      ∙ or_right (list_any p own_actor.through.done) (p step || list_any p rest) (or_left (p step) (list_any p rest) here)

  -- an answer that names no passage leaves the actor's passages of the surface
  pub quiet_by : (id : ℕ) (answer : Answer) → ((name : StepName) → passage_of name answer ≡ [])
      → passages_by id number (answered id answer actor).answers ≡ passages_by id number actor.answers
  quiet_by id answer quiet = passages_by-quiet id number actor.answers answer (quiet (record { actor = number; call = length actor.answers }))

  -- and so those of all actors
  pub quiet_passages : (id : ℕ) (answer : Answer) → ((name : StepName) → passage_of name answer ≡ [])
      → passages_named id (parts_of (slice_set actors number (answered id answer actor))) ≡ passages_named id (parts_of actors)
  quiet_passages id answer quiet = passages_stay id actors number actor (answered id answer actor) t.at (quiet_by id answer quiet)

  -- what the actor keeps on a surface
  pub own_on : {wish : Wish} (now : SurfaceNow) → IsHookedSurface wish script actors now
      → IsLegalSoFar wish now.first now.id now.records (length now.records) number script_actor.steps actor
  own_on now h = h.actors_on number script_actor actor t.script_at t.at

  -- a surface whose history grew, or on which another revision stands mounted, is kept where the actor is legal there
  pub kept_after : {wish : Wish} (now : SurfaceNow) (grown : List PlainRecord) (base : ℕ) (is : ActorNow) → IsHookedSurface wish script actors now
      → BeginsWith grown now.records → IsLawful now.first grown → base ≤ mountable_of grown
      → FollowOn 0 (passages_named now.id (parts_of (slice_set actors number is))) → last_to (passages_named now.id (parts_of (slice_set actors number is))) ≡ base
      → AreNamed wish script (slice_set actors number is) now.id grown
      → IsLegalSoFar wish now.first now.id grown (length grown) number script_actor.steps is
      → Each (λ n a b. HasMounted now.id base a b) script.actors (slice_set actors number is)
      → IsHookedSurface wish script (slice_set actors number is) (record now { records = grown; base = base })
  kept_after {wish = wish} now grown base is h grow lawful low forward last named own mounters = record {
    lawful = lawful;
    base = low;
    forward = forward;
    last = last;
    named = named;
    actors_on = each_set (λ n a b. IsLegalSoFar wish now.first now.id now.records (length now.records) n a.steps b) (λ n a b. IsLegalSoFar wish now.first now.id grown (length grown) n a.steps b)
        script.actors actors number actor is t.at h.actors_on
        (λ j x y d s p. legal_over_more now.first now.id now.records grown grow (length now.records) (length grown) j x.steps y grow.within p)
        (λ x s p. subst (λ a. IsLegalSoFar wish now.first now.id grown (length grown) number a.steps is) (same_Some script_actor x (sym t.script_at ∙ s)) own);
    mounters = mounters;
  }

  -- records that were named stay so
  pub named_stay : {wish : Wish} (now : SurfaceNow) (is : ActorNow) → ((entries : List PlainRecord) → (more : List (ℕ × PlainRecord))
      × (admitted_records wish now.id entries number script_actor.steps is.answers ≡ admitted_records wish now.id entries number script_actor.steps actor.answers ++ more))
      → IsHookedSurface wish script actors now → (entries : List PlainRecord) → BeginsWith entries now.records
      → AllByRecursion (λ e. IsAdmittedBySome wish script (parts_of (slice_set actors number is)) now.id entries e.0 e.1) (enumerate_from 1 now.records)
  named_stay {wish = wish} now is more h entries m =
      all_weaker (λ e. IsAdmittedBySome wish script (parts_of actors) now.id entries e.0 e.1)
      (λ e. IsAdmittedBySome wish script (parts_of (slice_set actors number is)) now.id entries e.0 e.1)
      (λ e p. named_when_more wish script now.id entries e.0 e.1 actors number actor is script_actor (more entries).0 t.at t.script_at (more entries).1 p)
      (enumerate_from 1 now.records) (h.named entries m)

  -- one more answer may name one more record
  pub answer_names : (wish : Wish) (id surface : ℕ) (answer : Answer) (entries : List PlainRecord) → (more : List (ℕ × PlainRecord))
      × (admitted_records wish id entries number script_actor.steps (answered surface answer actor).answers ≡ admitted_records wish id entries number script_actor.steps actor.answers ++ more)
  answer_names wish id surface answer entries = (
    cond (nat_eq step.surface id) (record_named wish id entries (taken_step number actor.answers step answer) step.act answer) [],
    admitted_records-push wish id entries number script_actor.steps actor step rest (record { surface = surface; answer = answer }) own_actor.through t.left,
  )

  -- an event that leaves the passages and what stands mounted on a surface keeps it, where the actor is legal there
  pub quiet_kept : {wish : Wish} (now : SurfaceNow) (is : ActorNow) → IsHookedSurface wish script actors now
      → passages_by now.id number is.answers ≡ passages_by now.id number actor.answers
      → number_mounted now.id is.answers ≡ number_mounted now.id actor.answers
      → ((entries : List PlainRecord) → (more : List (ℕ × PlainRecord))
      × (admitted_records wish now.id entries number script_actor.steps is.answers ≡ admitted_records wish now.id entries number script_actor.steps actor.answers ++ more))
      → IsLegalSoFar wish now.first now.id now.records (length now.records) number script_actor.steps is
      → IsHookedSurface wish script (slice_set actors number is) now
  quiet_kept now is h by mounted more own =
      let same = passages_stay now.id actors number actor is t.at by in
      kept_after now now.records now.base is h (begins_self now.records) h.lawful h.base (subst (FollowOn 0) (sym same) h.forward) (ap last_to same ∙ h.last)
      (named_stay now is more h) own
      (each_set (λ n a b. HasMounted now.id now.base a b) (λ n a b. HasMounted now.id now.base a b)
      script.actors actors number actor is t.at h.mounters (λ j x y d s p. p) (λ x s p m. mounted ∙ p m))

  -- while the actor tries, a surface is kept
  pub trying_kept : {wish : Wish} (now : SurfaceNow) (tries : ℕ) (looked : Option ℕ) → IsHookedSurface wish script actors now
      → IsLegalSoFar wish now.first now.id now.records (length now.records) number script_actor.steps (trying tries looked actor)
      → IsHookedSurface wish script (slice_set actors number (trying tries looked actor)) now
  trying_kept {wish = wish} now tries looked h own =
      quiet_kept now (trying tries looked actor) h refl refl
      (λ entries. ([], sym (append-nil (admitted_records wish now.id entries number script_actor.steps actor.answers)))) own

  -- on another surface it stays legal
  pub trying_elsewhere : {wish : Wish} (now : SurfaceNow) (tries : ℕ) (looked : Option ℕ) → IsHookedSurface wish script actors now → nat_eq step.surface now.id ≡ false
      → IsLegalSoFar wish now.first now.id now.records (length now.records) number script_actor.steps (trying tries looked actor)
  trying_elsewhere now tries looked h off =
      legal_trying now.first now.id now.records number script_actor.steps actor step rest own_actor.through t.left (own_on now h).answers (length now.records) tries looked
      (λ e. absurd (both_ways (nat_eq step.surface now.id) off e))

  -- an answer on another surface keeps this one
  pub elsewhere_kept : {wish : Wish} (now : SurfaceNow) (surface : ℕ) (answer : Answer) → IsHookedSurface wish script actors now → step.surface ≡ surface → nat_eq step.surface now.id ≡ false
      → IsHookedSurface wish script (slice_set actors number (answered surface answer actor)) now
  elsewhere_kept {wish = wish} now surface answer h on off =
      let part : StepPart = record { surface = surface; answer = answer } in
      let name : StepName = record { actor = number; call = length actor.answers } in
      let away : nat_eq surface now.id ≡ false = subst (λ s. nat_eq s now.id ≡ false) on off in
      quiet_kept now (answered surface answer actor) h
      (passages_by-push now.id number actor.answers part
      ∙ ap (λ b. passages_by now.id number actor.answers ++ cond b (passage_of name answer) []) away ∙ append-nil (passages_by now.id number actor.answers))
      (number_mounted-other now.id actor.answers part away) (answer_names wish now.id surface answer)
      (legal_elsewhere now.first now.id now.records number script_actor.steps actor step rest own_actor.through t.left (own_on now h).answers (length now.records) surface answer on off)

  -- an answer that names no passage and mounts nothing keeps its surface, where the actor is legal then
  pub answer_kept_quiet : {wish : Wish} (now : SurfaceNow) (answer : Answer) → IsHookedSurface wish script actors now
      → ((name : StepName) → passage_of name answer ≡ []) → ((base : ℕ) → mounted_after answer base ≡ base)
      → IsLegalSoFar wish now.first now.id now.records (length now.records) number script_actor.steps (answered now.id answer actor)
      → IsHookedSurface wish script (slice_set actors number (answered now.id answer actor)) now
  answer_kept_quiet {wish = wish} now answer h quiet stays own =
      let part : StepPart = record { surface = now.id; answer = answer } in
      let name : StepName = record { actor = number; call = length actor.answers } in
      quiet_kept now (answered now.id answer actor) h (quiet_by now.id answer quiet)
      (number_mounted-push now.id actor.answers part refl ∙ stays (number_mounted now.id actor.answers)) (answer_names wish now.id now.id answer) own
