-- What a run keeps of the surface on which an event takes place.
use Rattle.std.proofs.Common.{◌≡◌, ℕ, ◌+◌, ◌≤◌, ◌<◌, true, false, cond, List, [], ◌∷◌, ◌++◌, length, nat_eq, count_by, slice_get, slice_set, Some, None, arith, refl, ap, sym, ◌∙◌, subst}
use Rattle.std.specs.List.{AllByRecursion, Contains, enumerate_from}
use Rattle.std.proofs.lemmas.Bool.{both_ways, eq-eqb, eqb-false}
use Rattle.std.proofs.lemmas.Option.{slice_get_within}
use Rattle.std.proofs.lemmas.List.Elements.{Contains-push}
use Rattle.tree_revision.specs.Records.{PlainOp, PlainRecord}
use Rattle.tree_revision.specs.Script.{commit, mount, PlainStep, PlainActor, PlainScript}
use Rattle.tree_revision.specs.InRange.{IsOpInRange}
use Rattle.tree_revision.specs.Sound.{mounts_on}
use Rattle.tree_revision.specs.Cancels.{cancel_of}
use Rattle.tree_revision.specs.Mountable.{mountable_of}
use Rattle.tree_revision.proofs.Histories.{IsLawful-push}
use Rattle.tree_revision.proofs.Mountable.{mountable_of-rises}
use Rattle.tree_revision.specs.declared.record.Cancel.{Cancel}
use Rattle.tree_revision.specs.declared.record.Answer.{Answer}
use Rattle.tree_revision.specs.declared.record.Answer.TheVariants.{Held, Admitted, Cancelled, Mounted, Empty}
use Rattle.run_report.specs.declared.journal.StepName.{StepName}
use Rattle.run_report.specs.declared.journal.StepPart.{StepPart}
use Rattle.run_report.specs.Points.{number_held}
use Rattle.run_report.specs.Mounts.{Passage, passages_by, last_to}
use Rattle.tree_revision.specs.Wishes.{Wish, KeepsRange}
use Rattle.run_report.specs.Shorthands.{passage, passage_on, passages_named, trying, recorded, mounted_at}
use Rattle.run_report.specs.Legal.{FollowOn, cancel_for_act}
use Rattle.run_report.specs.Machine.{SurfaceNow, ActorNow, actor_part_of, answered}
use Rattle.run_report.specs.ActorLegal.{GoesThrough, admitted_records, IsAdmittedBySome}
use Rattle.run_report.proofs.Lists.{item_within, slice_get-set_same, slice_get-set_other, enumerate_from-push, all_append, one_passes}
use Rattle.run_report.proofs.Pairs.{each_set}
use Rattle.run_report.proofs.Begins.{begins_self, begins_before, begins_push}
use Rattle.run_report.proofs.Looks.{number_mounted-push}
use Rattle.run_report.proofs.Kept.{parts_of, HasMounted, IsHookedSurface}
use Rattle.run_report.proofs.AdmittedRecords.{named_next}
use Rattle.run_report.proofs.ActorEvents.{looked_at_end, legal_held, legal_empty, legal_mounted, legal_cancelled, legal_looked, legal_admitted, legal_late}
use Rattle.run_report.proofs.Passages.{follow_on_push, last_to-push, passages_by-push, no_passages_by, part_at, passages_lone}
use Rattle.run_report.proofs.Surfaces.{IsAtStep, own_actor, own_mount, own_on, kept_after, named_stay, answer_names, trying_kept, answer_kept_quiet, quiet_passages}

module _ (script : PlainScript) (actors : List ActorNow) (number : ℕ) (script_actor : PlainActor) (actor : ActorNow) (step : PlainStep) (rest : List PlainStep)
    (t : IsAtStep script actors number script_actor actor step rest) where
  -- the actor goes through its steps
  through : GoesThrough script_actor.steps actor
  through = (own_actor script actors number script_actor actor step rest t).through

  -- a hold
  pub hold_kept : {wish : Wish} (now : SurfaceNow) → IsHookedSurface wish script actors now
      → IsHookedSurface wish script (slice_set actors number (answered now.id (Held (length now.records)) actor)) now
  hold_kept now h =
      answer_kept_quiet script actors number script_actor actor step rest t now (Held (length now.records)) h (λ name. refl) (λ base. refl)
      (legal_held now.first now.id now.records (length now.records) number script_actor.steps actor step rest through t.left (own_on script actors number script_actor actor step rest t now h) (length now.records))

  -- a mount that found nothing new
  pub empty_kept : {wish : Wish} (now : SurfaceNow) → IsHookedSurface wish script actors now → step.act ≡ mount → step.surface ≡ now.id → mountable_of now.records ≡ now.base
      → IsHookedSurface wish script (slice_set actors number (answered now.id (Empty now.base) actor)) now
  empty_kept now h act on is =
      let mounted = h.mounters number script_actor actor t.script_at t.at (own_mount script actors number script_actor actor step rest t now.id act on) in
      answer_kept_quiet script actors number script_actor actor step rest t now (Empty now.base) h (λ name. refl) (λ base. refl)
      (legal_empty now.first now.id now.records (length now.records) number script_actor.steps actor step rest through t.left (own_on script actors number script_actor actor step rest t now h) (length now.records) now.base is mounted)

  -- a look that finds a cause
  pub cancelled_kept : {wish : Wish} (now : SurfaceNow) (op : PlainOp) (cause : Cancel) → IsHookedSurface wish script actors now → step.surface ≡ now.id → step.act ≡ commit op
      → actor.looked ≡ None → cancel_of now.first (wish now.records (number_held now.id actor.answers) op) now.records (number_held now.id actor.answers) ≡ Some cause
      → IsHookedSurface wish script (slice_set actors number (answered now.id (Cancelled (length now.records) (actor.tries + 1) cause) actor)) now
  cancelled_kept now op cause h on act looked is =
      answer_kept_quiet script actors number script_actor actor step rest t now (Cancelled (length now.records) (actor.tries + 1) cause) h (λ name. refl) (λ base. refl)
      (legal_cancelled now.first now.id now.records (length now.records) number script_actor.steps actor step rest through t.left (own_on script actors number script_actor actor step rest t now h) (length now.records) op cause on act (omega arith) looked is)

  -- a look that finds none
  pub looked_kept : {wish : Wish} (now : SurfaceNow) (op : PlainOp) → IsHookedSurface wish script actors now → step.surface ≡ now.id → step.act ≡ commit op → actor.looked ≡ None
      → cancel_of now.first (wish now.records (number_held now.id actor.answers) op) now.records (number_held now.id actor.answers) ≡ None
      → IsHookedSurface wish script (slice_set actors number (trying (actor.tries + 1) (Some (length now.records)) actor)) now
  looked_kept now op h on act looked is =
      trying_kept script actors number script_actor actor step rest t now (actor.tries + 1) (Some (length now.records)) h
      (legal_looked now.first now.id now.records (length now.records) number script_actor.steps actor step rest through t.left (own_on script actors number script_actor actor step rest t now h) (length now.records) op on act (omega arith) looked is)

  -- an offer that comes too late
  pub late_kept : {wish : Wish} (now : SurfaceNow) (at : ℕ) → IsHookedSurface wish script actors now → step.surface ≡ now.id → actor.looked ≡ Some at → at < length now.records
      → IsHookedSurface wish script (slice_set actors number (trying actor.tries None actor)) now
  late_kept now at h on looked late =
      trying_kept script actors number script_actor actor step rest t now actor.tries None h
      (legal_late now.first now.id now.records (length now.records) number script_actor.steps actor step rest through t.left (own_on script actors number script_actor actor step rest t now h) (length now.records) at on looked late)

  -- what is recorded of a commit of the actor on the surface of that id
  abbrev pub own_entry : (id : ℕ) → PlainOp → PlainRecord
  own_entry id op = record { actor = number; call = length actor.answers; held = number_held id actor.answers; op = op }

  -- an offer that is admitted
  pub admitted_kept : {wish : Wish} → KeepsRange wish → (now : SurfaceNow) (op : PlainOp) (at : ℕ) → IsHookedSurface wish script actors now → step.act ≡ commit op → step.surface ≡ now.id
      → IsOpInRange op → actor.looked ≡ Some at → at ≡ length now.records
      → IsHookedSurface wish script (slice_set actors number (answered now.id (Admitted (length now.records + 1) actor.tries) actor))
      (recorded (own_entry now.id (wish now.records (number_held now.id actor.answers) op)) now)
  admitted_kept {wish = wish} keeps now op at h act on fits looked end =
      let own = own_on script actors number script_actor actor step rest t now h in
      let asked : PlainOp = wish now.records (number_held now.id actor.answers) op in
      let entry : PlainRecord = own_entry now.id asked in
      let answer : Answer = Admitted (length now.records + 1) actor.tries in
      let part : StepPart = record { surface = now.id; answer = answer } in
      let new : ActorNow = answered now.id answer actor in
      let grown : List PlainRecord = now.records ++ entry ∷ [] in
      let same = quiet_passages script actors number script_actor actor step rest t now.id answer (λ name. refl) in
      let at_end = looked_at_end now.first now.id now.records (length now.records) number script_actor.steps actor step rest through t.left own at on looked end in
      let clear : cancel_of now.first asked now.records (number_held now.id actor.answers) ≡ None =
      ap (λ l. cancel_of now.first (wish l (number_held now.id actor.answers) op) l (number_held now.id actor.answers)) (sym (begins_self now.records).same)
      ∙ ap (λ a. cancel_for_act wish now.first now.records (number_held now.id actor.answers) a (length now.records)) (sym act)
      ∙ at_end.clear now.records (begins_self now.records) in
      let one : 1 + length now.records ≡ length now.records + 1 = omega arith in
      kept_after script actors number script_actor actor step rest t now grown now.base new h (begins_before now.records (entry ∷ []))
      (IsLawful-push now.first now.records entry h.lawful
      (record { in_range = keeps now.records (number_held now.id actor.answers) op fits; held = own.answers.holds; admitted = clear }))
      (omega (arith, h.base, mountable_of-rises now.records (entry ∷ [])))
      (subst (FollowOn 0) (sym same) h.forward) (ap last_to same ∙ h.last)
      (λ entries m.
      let named_old : List (ℕ × PlainRecord) = admitted_records wish now.id entries number script_actor.steps actor.answers in
      let named_new = named_next wish now.id now.records number script_actor.steps actor step rest op actor.tries entry refl through t.left act (eq-eqb step.surface now.id on) entries m in
      subst (AllByRecursion (λ e. IsAdmittedBySome wish script (parts_of (slice_set actors number new)) now.id entries e.0 e.1)) (sym (enumerate_from-push 1 now.records entry))
      (all_append (λ e. IsAdmittedBySome wish script (parts_of (slice_set actors number new)) now.id entries e.0 e.1) (enumerate_from 1 now.records) ((1 + length now.records, entry) ∷ [])
      (named_stay script actors number script_actor actor step rest t now new (answer_names script actors number script_actor actor step rest t wish now.id now.id answer) h entries (begins_push entries now.records entry m)) (
        record {
          actor = number;
          plan = script_actor;
          part = actor_part_of new;
          plan_at = t.script_at;
          part_at = part_at (slice_set actors number new) number new (slice_get-set_same actors number new actor t.at);
          named = subst (λ n. Contains (admitted_records wish now.id entries number script_actor.steps new.answers) (n, entry)) (sym one)
              (subst (λ l. Contains l (length now.records + 1, entry)) (sym named_new) (Contains-push named_old (length now.records + 1, entry)));
        },
        tt,
      )))
      (legal_admitted now.first now.id now.records (length now.records) number script_actor.steps actor step rest through t.left own (length grown) at entry refl refl on looked end)
      (each_set (λ n a b. HasMounted now.id now.base a b) (λ n a b. HasMounted now.id now.base a b)
      script.actors actors number actor new t.at h.mounters (λ j x y d s p. p)
      (λ x s p m. number_mounted-push now.id actor.answers part refl ∙ p m))

  -- no other actor mounts a surface that the actor mounts
  pub others_mount_not : (id : ℕ) → count_by (mounts_on id) script.actors ≤ 1 → mounts_on id script_actor ≡ true
      → (j : ℕ) (other : PlainActor) → (j ≡ number → ⊥) → slice_get script.actors j ≡ Some other → mounts_on id other ≡ false
  others_mount_not id one mounts j other d at = one_passes (mounts_on id) script.actors number j script_actor other one t.script_at mounts d at

  -- so their answers name no passage there
  pub others_name_none : (id : ℕ) → count_by (mounts_on id) script.actors ≤ 1 → mounts_on id script_actor ≡ true
      → (j : ℕ) (other : ActorNow) → (j ≡ number → ⊥) → slice_get actors j ≡ Some other → passages_by id j other.answers ≡ []
  others_name_none id one mounts j other d at =
      let x = item_within script.actors j (omega (arith, slice_get_within actors j other at, t.count)) in
      no_passages_by id j x.0 other (t.shape j x.0 other x.1 at) (others_mount_not id one mounts j x.0 d x.1)

  -- a mount that found something new comes after all passages
  pub mounted_passages : (id base to : ℕ) → count_by (mounts_on id) script.actors ≤ 1 → mounts_on id script_actor ≡ true
      → passages_named id (parts_of (slice_set actors number (answered id (Mounted base to) actor)))
      ≡ passages_named id (parts_of actors) ++ passage base to (Some (record { actor = number; call = length actor.answers })) ∷ []
  mounted_passages id base to one mounts =
      let part : StepPart = record { surface = id; answer = Mounted base to } in
      let name : StepName = record { actor = number; call = length actor.answers } in
      let new : ActorNow = answered id (Mounted base to) actor in
      let own : passage_on id name part ≡ passage base to (Some name) ∷ [] = ap (λ b. cond b (passage base to (Some name) ∷ []) []) (eq-eqb id id refl) in
      passages_lone id (slice_set actors number new) number new (slice_get-set_same actors number new actor t.at)
      (λ j other d at. others_name_none id one mounts j other d (sym (slice_get-set_other actors number j new d) ∙ at))
      ∙ passages_by-push id number actor.answers part
      ∙ ap (λ l. l ++ passage_on id name part) (sym (passages_lone id actors number actor t.at (others_name_none id one mounts)))
      ∙ ap (λ l. passages_named id (parts_of actors) ++ l) own

  -- a mount that found something new
  pub mounted_kept : {wish : Wish} (now : SurfaceNow) → IsHookedSurface wish script actors now → count_by (mounts_on now.id) script.actors ≤ 1
      → step.act ≡ mount → step.surface ≡ now.id → nat_eq (mountable_of now.records) now.base ≡ false
      → IsHookedSurface wish script (slice_set actors number (answered now.id (Mounted now.base (mountable_of now.records)) actor)) (mounted_at (mountable_of now.records) now)
  mounted_kept {wish = wish} now h one act on newer =
      let to : ℕ = mountable_of now.records in
      let answer : Answer = Mounted now.base to in
      let part : StepPart = record { surface = now.id; answer = answer } in
      let new : ActorNow = answered now.id answer actor in
      let mounts = own_mount script actors number script_actor actor step rest t now.id act on in
      let step_of : Passage = passage now.base to (Some (record { actor = number; call = length actor.answers })) in
      let more = mounted_passages now.id now.base to one mounts in
      let up : now.base < to = omega (arith, h.base, eqb-false to now.base newer) in
      kept_after script actors number script_actor actor step rest t now now.records to new h (begins_self now.records) h.lawful (omega arith)
      (subst (FollowOn 0) (sym more) (follow_on_push 0 (passages_named now.id (parts_of actors)) step_of h.forward (sym h.last) up))
      (ap last_to more ∙ last_to-push (passages_named now.id (parts_of actors)) step_of)
      (named_stay script actors number script_actor actor step rest t now new (answer_names script actors number script_actor actor step rest t wish now.id now.id answer) h)
      (legal_mounted now.first now.id now.records (length now.records) number script_actor.steps actor step rest through t.left (own_on script actors number script_actor actor step rest t now h) (length now.records) now.base)
      (each_set (λ n a b. HasMounted now.id now.base a b) (λ n a b. HasMounted now.id to a b)
      script.actors actors number actor new t.at h.mounters
      (λ j x y d s p m. absurd (both_ways (mounts_on now.id x) (others_mount_not now.id one mounts j x d s) m))
      (λ x s p m. number_mounted-push now.id actor.answers part refl))
