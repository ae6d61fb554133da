-- The journal of a run on threads is legal: by what the workers leave, and by the ends of the surfaces.
use Rattle.std.proofs.Common.{◌≡◌, ℕ, suc, ◌+◌, ◌-◌, ◌<◌, ◌≤◌, cond, ◌==◌, List, [], ◌∷◌, length, map, slice_get, arith, refl, ap, sym, ◌∙◌, subst, inl, inr}
use Rattle.std.specs.Prelude.{Some, option_map, Result, Ok, Err, IfOk}
use Rattle.std.specs.List.{AllByRecursion, AllZip, Contains, enumerate_from}
use Rattle.std.specs.Map.{keys_of}
use Rattle.std.specs.declared.alloc.AllocError.{AllocError}
use Rattle.std.proofs.lemmas.Bool.{cases_Bool, eqb-true}
use Rattle.std.proofs.lemmas.Option.{same_Some, slice_get-map, slice_get_within}
use Rattle.std.proofs.lemmas.List.{length-map}
use Rattle.std.proofs.lemmas.List.Elements.{Contains-append_right, Contains-append_cases}
use Rattle.std.proofs.lemmas.List.Sums.{sum_by-cons}
use Rattle.tree_revision.specs.Records.{PlainRecord}
use Rattle.tree_revision.specs.Script.{PlainActor, PlainSurface, PlainScript}
use Rattle.tree_revision.specs.Sound.{IsSoundScript}
use Rattle.tree_revision.specs.Lawful.{IsLawful}
use Rattle.tree_revision.specs.Ports.{BeginsWith}
use Rattle.mount_coordinator.specs.Mounted.{PlainCoordinator}
use Rattle.run_report.specs.declared.journal.MountPart.{MountPart}
use Rattle.run_report.specs.declared.journal.Journal.{Journal}
use Rattle.run_report.specs.Journal.{PlainActorPart, PlainSurfacePart, plain_mount, plain_surface_part, plain_journal}
use Rattle.run_report.specs.Machine.{actor_part_of}
use Rattle.run_report.specs.Mounts.{mount_along, closed}
use Rattle.run_report.specs.Shorthands.{passages_named}
use Rattle.tree_revision.specs.Wishes.{as_written}
use Rattle.run_report.specs.Legal.{Answers, HasFormOf, IsLegal}
use Rattle.run_report.specs.Named.{NamesItsActors}
use Rattle.run_report.specs.ActorLegal.{AreLegalAnswers, IsAdmittedBySome, IsLegalActorOn, IsPutTogether, PassagesFollowOn, MountsFollow}
use Rattle.run_report.proofs.Actors.{answers_over_more}
use Rattle.run_report.proofs.EventNames.{records_over_more}
use Rattle.run_report.proofs.Together.{parts_legal}
use Rattle.run_report.proofs.LegalTold.{legal_names}
use Rattle.run_report.proofs.Lists.{item_within}
use Rattle.run_report.proofs.Pairs.{all_zip_each, all_zip_at, all_zip_length, same_maps}
use Rattle.commit_spine.specs.declared.spine_parts.Spine.{Spine}
use Rattle.commit_spine.specs.Passes.{times_own}
use Rattle.commit_spine.specs.SpineRule.{StandsAt, AllStandIn}
use Rattle.commit_spine.specs.SpinePasses.{PassValue}
use Rattle.run_actor.specs.Actors.{RunningActor, actor_now}
use Rattle.run_report.proofs.EventLegal.{mounts_stay}
use Rattle.run_actor.specs.Runs.{mounts_made_on}
use Rattle.run_engine.specs.Ends.{mounts_of, part_over}
use Rattle.run_engine.specs.Workers.{records_by, records_from, passages_of, HasFinished, HaveWorkedOn, HaveWorked}
use Rattle.run_engine.specs.Spines.{AreSpinesAtStart, IsPartAtEnd, IsJournalOf, kept_at_start}
use Rattle.run_engine.proofs.Openings.{keys_at}
use Rattle.run_engine.proofs.Gathered.{keys_length, mounted_along, passages_same, mapped_at}

-- what each two items give
zip_weaker : {A B : Type 0} (R S : A → B → Type 0) → ((a : A) (b : B) → R a b → S a b) → (xs : List A) (ys : List B) → AllZip R xs ys → AllZip S xs ys
zip_weaker R S k [] [] h = tt
zip_weaker R S k [] (y ∷ ys) h = absurd h
zip_weaker R S k (x ∷ xs) [] h = absurd h
zip_weaker R S k (x ∷ xs) (y ∷ ys) h = (k x y h.0, zip_weaker R S k xs ys h.1)

-- what holds of each of numbered items, by its number
numbered_hold : {A : Type 0} (P : ℕ × A → Type 0) (n : ℕ) (xs : List A) → ((i m : ℕ) (x : A) → m ≡ n + i → slice_get xs i ≡ Some x → P (m, x)) → AllByRecursion P (enumerate_from n xs)
numbered_hold P n [] k = tt
numbered_hold P n (x ∷ xs) k = (k 0 n x (omega arith) refl, numbered_hold P (n + 1) xs (λ i m y e at. k (suc i) m y (omega (arith, e)) at))

-- a number that stands among own records has its record there
own_at : (number : ℕ) (entries : List PlainRecord) (own : List (ℕ × PlainRecord)) → 1 ≤ times_own number own → AllStandIn entries own
    → (entry : PlainRecord) × Contains own (number, entry) × StandsAt entries (number, entry)
own_at number entries [] some stand = absurd (omega (arith, some))
own_at number entries (at ∷ own) some stand =
    elim (cases_Bool (at.0 == number)) [
      | inl e ↦
          let same : at.0 ≡ number = eqb-true at.0 number e in
          (at.1, (0, omega arith, λ i. (same i, at.1)), subst (λ n. StandsAt entries (n, at.1)) same stand.0)
      | inr e ↦
          let rest = own_at number entries own
          (omega (arith, some, sum_by-cons (λ (x : ℕ × PlainRecord). cond (x.0 == number) 1 0) at own, ap {B = ℕ} (λ b. cond b 1 0) e)) stand.1 in
          (rest.0, Contains-append_right (at ∷ []) own (number, rest.0) rest.1, rest.2)
    ]

-- a record that some answers name is one that an actor's answers name
named_by_one : (id : ℕ) (entries : List PlainRecord) (at : ℕ × PlainRecord) (n : ℕ) (plans : List PlainActor) (actors : List RunningActor) → Contains (records_from id entries n plans actors) at
    → (j : ℕ) × (m : ℕ) × (plan : PlainActor) × (actor : RunningActor) × (m ≡ n + j) × (slice_get plans j ≡ Some plan) × (slice_get actors j ≡ Some actor)
    × Contains (records_by id entries m plan actor) at
named_by_one id entries at n [] [] c = absurd (omega (arith, c.1))
named_by_one id entries at n [] (actor ∷ actors) c = absurd (omega (arith, c.1))
named_by_one id entries at n (plan ∷ plans) [] c = absurd (omega (arith, c.1))
named_by_one id entries at n (plan ∷ plans) (actor ∷ actors) c =
    elim (Contains-append_cases (records_by id entries n plan actor) (records_from id entries (n + 1) plans actors) at c) [
      | inl here ↦ (0, n, plan, actor, omega arith, refl, refl, here)
      | inr there ↦
          let rest = named_by_one id entries at (n + 1) plans actors there in
          (suc rest.0, rest.1, rest.2, rest.3, omega (arith, rest.4), rest.5, rest.6, rest.7)
    ]

-- a record that legal answers name over a history is named over a longer one
named_over : (surface : PlainSurface) (records longer : List PlainRecord) → BeginsWith longer records → (number : ℕ) (plan : PlainActor) (actor : RunningActor)
    → AreLegalAnswers as_written surface.size surface.id records number plan.steps actor.answers → (at : ℕ × PlainRecord) → Contains (records_by surface.id records number plan actor) at
    → Contains (records_by surface.id longer number plan actor) at
named_over surface records longer grows number plan actor legal at named =
    subst (λ l. Contains l at) (sym (records_over_more as_written surface.size surface.id records longer grows number plan.steps actor.answers legal)) named

-- an actor's part of the journal
abbrev part_of : RunningActor → PlainActorPart
part_of actor = actor_part_of (actor_now actor)

-- one surface: what the workers leave of it, and its part at its end
module _ (script : PlainScript) (surface : PlainSurface) (was is : PassValue) (mounted : PlainCoordinator) (actors : List RunningActor) (mounts : List MountPart) (part : PlainSurfacePart)
    (start : was.kept ≡ kept_at_start script.actors surface.id surface.size) (worked : HaveWorkedOn script surface was is mounted actors)
    (count : length actors ≡ length script.actors)
    (listed : map plain_mount mounts ≡ mounts_of surface.id actors) (end : IsPartAtEnd surface.id is mounted mounts part) where
  first_is : is.kept.mark.first ≡ surface.size
  first_is = ap (λ (m : _). m.first) worked.mark ∙ ap (λ (k : _). k.mark.first) start

  lawful : IsLawful surface.size part.records
  lawful = subst (λ size. IsLawful size part.records) first_is end.lawful

  plan_at : (number : ℕ) (actor : RunningActor) → slice_get actors number ≡ Some actor → (plan : PlainActor) × (slice_get script.actors number ≡ Some plan)
  plan_at number actor at = item_within script.actors number (omega (arith, count, slice_get_within actors number actor at))

  -- an actor is legal over the whole history
  answers_over : (number : ℕ) (plan : PlainActor) (actor : RunningActor) → slice_get script.actors number ≡ Some plan → slice_get actors number ≡ Some actor
      → AreLegalAnswers as_written surface.size surface.id part.records number plan.steps actor.answers
  answers_over number plan actor planned at =
      answers_over_more surface.size surface.id is.kept.seen part.records end.seen number plan.steps actor.answers (worked.each number plan actor planned at).answers

  -- and its mounts follow over it
  mounts_over : (number : ℕ) (plan : PlainActor) (actor : RunningActor) → slice_get script.actors number ≡ Some plan → slice_get actors number ≡ Some actor
      → MountsFollow surface.size surface.id part.records number actor.answers (mounts_made_on surface.id actor.mounts)
  mounts_over number plan actor planned at =
      mounts_stay surface.size surface.id is.kept.seen part.records number actor.answers (mounts_made_on surface.id actor.mounts) end.seen lawful
      (worked.each number plan actor planned at).mounts

  -- the mounts of all lie along the passages that are named
  along : map plain_mount mounts ≡ map (mount_along is.kept.mark.first part.records) (passages_of surface.id actors)
  along =
      listed ∙ mounted_along surface.id (mount_along surface.size part.records) 0 actors
      (λ j number actor e at.
      let n : j ≡ number = omega (arith, e) in
      let there : slice_get actors number ≡ Some actor = subst (λ k. slice_get actors k ≡ Some actor) n at in
      let plan = plan_at number actor there in
      (mounts_over number plan.0 actor plan.1 there).along)
      ∙ ap (λ size. map (mount_along size part.records) (passages_of surface.id actors)) (sym first_is)

  whole : part ≡ part_over surface.id surface.size part.records (passages_of surface.id actors)
  whole = end.along (passages_of surface.id actors) (sym worked.base) along ∙ ap (λ size. part_over surface.id size part.records (passages_of surface.id actors)) first_is

  -- each record is one that some actor's answers name
  named_at : (i number : ℕ) (entry : PlainRecord) → number ≡ 1 + i → slice_get part.records i ≡ Some entry
      → IsAdmittedBySome as_written script (map part_of actors) part.id part.records number entry
  named_at i number entry e at =
      let within : i < length part.records = slice_get_within part.records i entry at in
      let once : times_own number is.kept.own ≡ 1 = end.once number (omega (arith, e)) (omega (arith, e, within)) in
      let own = own_at number part.records is.kept.own (omega (arith, once)) end.own in
      let place : number - 1 ≡ i = omega (arith, e) in
      let same : own.0 ≡ entry = same_Some own.0 entry (sym own.2.there ∙ ap (slice_get part.records) place ∙ at) in
      let by = named_by_one surface.id is.kept.seen (number, own.0) 0 script.actors actors (subst (λ l. Contains l (number, own.0)) worked.own own.1) in
      let k : by.1 ≡ by.0 = omega (arith, by.4) in
      let planned : slice_get script.actors by.1 ≡ Some by.2 = subst (λ k. slice_get script.actors k ≡ Some by.2) (sym k) by.5 in
      let there : slice_get actors by.1 ≡ Some by.3 = subst (λ k. slice_get actors k ≡ Some by.3) (sym k) by.6 in
      record {
        actor = by.1;
        plan = by.2;
        part = part_of by.3;
        plan_at = planned;
        part_at = slice_get-map part_of actors by.1 ∙ ap (option_map part_of) there;
        named =
            subst (λ id. Contains (records_by id part.records by.1 by.2 by.3) (number, entry)) (sym end.id_is)
            (subst (λ entry. Contains (records_by surface.id part.records by.1 by.2 by.3) (number, entry)) same
            (named_over surface is.kept.seen part.records end.seen by.1 by.2 by.3 (worked.each by.1 by.2 by.3 planned there).answers (number, own.0) by.7));
      }

  each_legal : (number : ℕ) (plan : PlainActor) (own : PlainActorPart) → slice_get script.actors number ≡ Some plan → slice_get (map part_of actors) number ≡ Some own
      → IsLegalActorOn as_written surface.size part number plan own
  each_legal number plan own planned at =
      let actor = mapped_at part_of actors number own at in
      subst (λ own. IsLegalActorOn as_written surface.size part number plan own) actor.2
      (record {
        answers = subst (λ id. AreLegalAnswers as_written surface.size id part.records number plan.steps actor.0.answers) (sym end.id_is) (answers_over number plan actor.0 planned actor.1);
        passages = subst (λ id. PassagesFollowOn id part.records number actor.0.answers) (sym end.id_is) (mounts_over number plan actor.0 planned actor.1).passages;
      })

  -- so the part is put together of what the actors keep
  pub put_together : IsPutTogether as_written script (map part_of actors) surface.size part
  put_together = record {
    lawful = lawful;
    named = numbered_hold (λ entry. IsAdmittedBySome as_written script (map part_of actors) part.id part.records entry.0 entry.1) 1 part.records named_at;
    each = each_legal;
    mounts = ap (λ (p : PlainSurfacePart). p.mounts) whole
        ∙ ap (λ passages. map (mount_along surface.size part.records) (closed part.records passages)) (sym (passages_same surface.id 0 actors))
        ∙ ap (λ id. map (mount_along surface.size part.records) (closed part.records (passages_named id (map part_of actors)))) (sym end.id_is);
    last = ap (λ (p : PlainSurfacePart). p.last) whole;
  }

-- the whole run
module _ (script : PlainScript) (sound : IsSoundScript script) (spines : List (ℕ × Spine)) (was is : List (ℕ × PassValue)) (actors : List RunningActor) (mounted : List PlainCoordinator) (journal : Journal)
    (start : AreSpinesAtStart script spines was) (worked : HaveWorked script was is actors mounted) (made : IsJournalOf spines is actors mounted journal) where
  surface_count : length spines ≡ length script.surfaces
  surface_count = sym (keys_length spines) ∙ ap length start.spine_ids ∙ length-map script.surfaces (λ surface. surface.id)

  pass_count : length is ≡ length script.surfaces
  pass_count = sym (keys_length is) ∙ ap length (worked.pass_ids ∙ start.pass_ids) ∙ length-map script.surfaces (λ surface. surface.id)

  part_count : length (map plain_surface_part journal.surfaces) ≡ length script.surfaces
  part_count = length-map journal.surfaces plain_surface_part ∙ made.surfaces_are.count ∙ surface_count

  -- a part at a place, with the surface there
  abbrev IsPartOn : PlainSurface → PlainSurfacePart → Type 0
  IsPartOn surface part = (part.id ≡ surface.id) × IsPutTogether as_written script (map part_of actors) surface.size part

  on_surface : (place : ℕ) (surface : PlainSurface) (part : PlainSurfacePart) → slice_get script.surfaces place ≡ Some surface → slice_get (map plain_surface_part journal.surfaces) place ≡ Some part
      → IsPartOn surface part
  on_surface place surface part at to =
      let below : place < length script.surfaces = slice_get_within script.surfaces place surface at in
      let spine = item_within spines place (omega (arith, below, surface_count)) in
      let old = item_within was place (omega (arith, below, all_zip_length _ script.surfaces was start.kept)) in
      let new = item_within is place (omega (arith, below, pass_count)) in
      let coordinator = item_within mounted place (omega (arith, below, worked.mount_count)) in
      let list = item_within made.lists place (omega (arith, below, all_zip_length _ (keys_of spines) made.lists made.listed, keys_length spines, surface_count)) in
      let own = item_within journal.surfaces place (omega (arith, below, made.surfaces_are.count, surface_count)) in
      let is_own : plain_surface_part own.0 ≡ part = same_Some (plain_surface_part own.0) part
      (sym (slice_get-map plain_surface_part journal.surfaces place ∙ ap (option_map plain_surface_part) own.1) ∙ to) in
      let id_is : spine.0.0 ≡ surface.id = same_Some spine.0.0 surface.id
      (sym (keys_at spines place spine.0 spine.1) ∙ ap (λ l. slice_get l place) start.spine_ids ∙ slice_get-map (λ (s : PlainSurface). s.id) script.surfaces place
      ∙ ap (option_map (λ (s : PlainSurface). s.id)) at) in
      let end : IsPartAtEnd surface.id new.0.1 coordinator.0 list.0 part =
      subst (IsPartAtEnd surface.id new.0.1 coordinator.0 list.0) is_own
      (subst (λ id. IsPartAtEnd id new.0.1 coordinator.0 list.0 (plain_surface_part own.0)) id_is
      (made.surfaces_are.each place spine.0 new.0 coordinator.0 list.0 own.0 spine.1 new.1 coordinator.1 list.1 own.1)) in
      let listed : map plain_mount list.0 ≡ mounts_of surface.id actors =
      all_zip_at (λ id mounts. map plain_mount mounts ≡ mounts_of id actors) (keys_of spines) made.lists place spine.0.0 list.0 made.listed (keys_at spines place spine.0 spine.1) list.1
      ∙ ap (λ id. mounts_of id actors) id_is in (
        end.id_is,
        put_together script surface old.0.1 new.0.1 coordinator.0 actors list.0 part
            (all_zip_at (λ (surface : PlainSurface) (pass : ℕ × PassValue). pass.1.kept ≡ kept_at_start script.actors surface.id surface.size) script.surfaces was place surface old.0 start.kept at old.1)
            (worked.surfaces place surface old.0 new.0 coordinator.0 at old.1 new.1 coordinator.1) worked.actor_count listed end,
      )

  all_on : AllZip IsPartOn script.surfaces (map plain_surface_part journal.surfaces)
  all_on = all_zip_each IsPartOn script.surfaces (map plain_surface_part journal.surfaces) part_count on_surface

  actors_end : AllZip (λ plan part. (part.name ≡ plan.name) × AllZip Answers plan.steps part.steps) script.actors (map part_of actors)
  actors_end = all_zip_each (λ (plan : PlainActor) (part : PlainActorPart). (part.name ≡ plan.name) × AllZip Answers plan.steps part.steps) script.actors (map part_of actors)
      (length-map actors part_of ∙ worked.actor_count)
      (λ number plan part at to.
      let actor = mapped_at part_of actors number part to in
      let ended : HasFinished number plan actor.0 = worked.ended number plan actor.0 at actor.1 in
      subst (λ (part : PlainActorPart). (part.name ≡ plan.name) × AllZip Answers plan.steps part.steps) actor.2 (ended.name, ended.answers))

  form : HasFormOf script (plain_journal journal)
  form = record {
    surfaces = same_maps (λ (surface : PlainSurface). surface.id) (λ (part : PlainSurfacePart). part.id) script.surfaces (map plain_surface_part journal.surfaces)
        (zip_weaker (λ surface part. IsPartOn surface part) (λ surface part. part.id ≡ surface.id) (λ surface part on. on.0) script.surfaces (map plain_surface_part journal.surfaces) all_on);
    names = ap (map (λ (part : PlainActorPart). part.name)) made.actors_are
        ∙ same_maps (λ (plan : PlainActor). plan.name) (λ (part : PlainActorPart). part.name) script.actors (map part_of actors)
        (zip_weaker (λ (plan : PlainActor) (part : PlainActorPart). (part.name ≡ plan.name) × AllZip Answers plan.steps part.steps) (λ plan part. part.name ≡ plan.name) (λ plan part end. end.0)
        script.actors (map part_of actors) actors_end);
    answers = subst (AllZip (λ (plan : PlainActor) (part : PlainActorPart). AllZip Answers plan.steps part.steps) script.actors) (sym made.actors_are)
        (zip_weaker (λ (plan : PlainActor) (part : PlainActorPart). (part.name ≡ plan.name) × AllZip Answers plan.steps part.steps) (λ plan part. AllZip Answers plan.steps part.steps)
        (λ plan part end. end.1) script.actors (map part_of actors) actors_end);
  }

  -- the journal is legal
  pub threads_legal : IsLegal script (plain_journal journal)
  threads_legal =
      parts_legal as_written script sound (plain_journal journal) form
      (subst (λ parts. AllZip (λ (surface : PlainSurface) (part : PlainSurfacePart). IsPutTogether as_written script parts surface.size part) script.surfaces (map plain_surface_part journal.surfaces))
      (sym made.actors_are)
      (zip_weaker IsPartOn (λ surface part. IsPutTogether as_written script (map part_of actors) surface.size part) (λ surface part on. on.1) script.surfaces (map plain_surface_part journal.surfaces) all_on))

-- so is a journal that is answered, and it names its actors
module _ (script : PlainScript) (sound : IsSoundScript script) (spines : List (ℕ × Spine)) (was is : List (ℕ × PassValue)) (actors : List RunningActor) (mounted : List PlainCoordinator)
    (start : AreSpinesAtStart script spines was) (worked : HaveWorked script was is actors mounted) where
  pub answer_legal : (answer : Result Journal AllocError) → IfOk answer (IsJournalOf spines is actors mounted) → IfOk answer (λ journal. IsLegal script (plain_journal journal))
  answer_legal (Ok journal) made = threads_legal script sound spines was is actors mounted journal start worked made
  answer_legal (Err refusal) made = tt

  pub answer_names : (answer : Result Journal AllocError) → IfOk answer (IsJournalOf spines is actors mounted) → IfOk answer (λ journal. NamesItsActors (plain_journal journal))
  answer_names (Ok journal) made = legal_names script (plain_journal journal) (threads_legal script sound spines was is actors mounted journal start worked made)
  answer_names (Err refusal) made = tt
