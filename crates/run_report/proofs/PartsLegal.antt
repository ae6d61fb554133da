-- What actors keep on a surface makes its part of a journal legal.
use Rattle.std.proofs.Common.{◌≡◌, ◌⊎◌, ℕ, zero, suc, ◌+◌, ◌-◌, ◌≤◌, Bool, true, false, cond, ◌&&◌, List, [], ◌∷◌, ◌++◌, length, take, map, filter, nat_eq, slice_get, option_map, option_and_then, unwrap_or, Some, arith, refl, ap, sym, ◌∙◌, subst, append-nil, append_assoc, length-append, inl, inr}
use Rattle.std.specs.List.{AllByRecursion, AllZip, Contains, flat_map, list_any, enumerate_from}
use Rattle.std.proofs.lemmas.Bool.{cases_Bool, eqb-true}
use Rattle.std.proofs.lemmas.Option.{none-some, slice_get_within}
use Rattle.std.proofs.lemmas.List.Elements.{filter-append, Contains-append_cases, Contains-push_cases}
use Rattle.shadow_frame.specs.declared.Size.{Size}
use Rattle.host_views.specs.Registry.{registry_of}
use Rattle.tree_revision.specs.Records.{PlainOp, PlainRecord}
use Rattle.tree_revision.specs.Script.{PlainAct, commit, hold, mount, PlainStep, PlainActor, PlainScript}
use Rattle.tree_revision.specs.Sound.{is_mount, mounts_on, HasOneMounter}
use Rattle.tree_revision.specs.Mountable.{mountable_of}
use Rattle.tree_revision.specs.declared.record.Answer.{Answer}
use Rattle.tree_revision.specs.declared.record.Answer.TheVariants.{Held, Admitted, Cancelled, Mounted, Empty}
use Rattle.run_report.specs.declared.journal.StepPart.{StepPart}
use Rattle.run_report.specs.Journal.{PlainActorPart, PlainSurfacePart, PlainJournal}
use Rattle.run_report.specs.Points.{number_held}
use Rattle.run_report.specs.Mounts.{Passage, passages_by, passages_on, last_to, passage_in}
use Rattle.run_report.specs.Shorthands.{passages_named}
use Rattle.tree_revision.specs.Wishes.{Wish}
use Rattle.run_report.specs.Legal.{Answers, HasFormOf, TakenStep, taken_after, taken_from, taken_on, HasItsRecord, HasCause, HasRoomForTries, LooksForward, IsEmptyAt, IsOfItsStep, IsTrulyHeld, FollowOn, AreMountsOn, IsLegalOn}
use Rattle.run_report.specs.ActorLegal.{taken_by, IsLegalStep, record_named, IsAdmittedBySome, IsPutTogether}
use Rattle.run_report.proofs.Lists.{item_within, all_append, all_weaker, all_numbered, numbered_none, numbered_lone, one_passes}
use Rattle.run_report.proofs.Pairs.{all_zip_length, all_zip_at}
use Rattle.run_report.proofs.Begins.{begins_self}
use Rattle.run_report.proofs.Looks.{taken_step}
use Rattle.run_report.proofs.Passages.{no_passages}
use Rattle.run_report.proofs.Followed.{passages_along, closed_follows, mounts_follow, nothing_shown}

-- the step that a record names, among some steps and their answers that come after earlier ones
pub record NamedStep (wish : Wish) (id : ℕ) (entries : List PlainRecord) (number : ℕ) (earlier : List StepPart) (steps : List PlainStep) (parts : List StepPart) (at : ℕ) (entry : PlainRecord) : Type 0 where
  place : ℕ
  change : PlainOp
  tries : ℕ
  actor : entry.actor ≡ number
  call : entry.call ≡ length earlier + place
  step : slice_get steps place ≡ Some (record { surface = id; act = commit change })
  answer : slice_get parts place ≡ Some (record { surface = id; answer = Admitted at tries })
  held : entry.held ≡ number_held id (earlier ++ take place parts)
  op : entry.op ≡ wish (take (at - 1) entries) entry.held change

module _ (wish : Wish) (id : ℕ) (entries : List PlainRecord) (number : ℕ) where
  -- what a taken step gives
  abbrev given : TakenStep → List (ℕ × PlainRecord)
  given taken = record_named wish id entries taken taken.step.act taken.answer

  -- the first step is named
  named_first : (earlier : List StepPart) (step : PlainStep) (steps : List PlainStep) (part : StepPart) (parts : List StepPart) (at : ℕ) (entry : PlainRecord)
      → Answers step part → step.surface ≡ id → (act : PlainAct) (answer : Answer) → step.act ≡ act → part.answer ≡ answer
      → Contains (record_named wish id entries (taken_step number earlier step part.answer) act answer) (at, entry)
      → NamedStep wish id entries number earlier (step ∷ steps) (part ∷ parts) at entry
  named_first earlier step steps part parts at entry a on (commit change) (Admitted n tries) act answer c =
      let held : ℕ = number_held id earlier in
      let own : PlainRecord = record { actor = number; call = length earlier; held = held; op = wish (take (n - 1) entries) held change } in
      elim (Contains-push_cases [] (n, own) (at, entry) c) [
        | inl none ↦ absurd (omega (arith, none.1))
        | inr same ↦
            subst (λ (x : ℕ × PlainRecord). NamedStep wish id entries number earlier (step ∷ steps) (part ∷ parts) x.0 x.1) same (record {
              place = 0;
              change = change;
              tries = tries;
              actor = refl;
              call = omega arith;
              step = λ i. Some (record { surface = on i; act = act i });
              answer = λ i. Some (record { surface = (a.surface ∙ on) i; answer = answer i });
              held = ap (number_held id) (sym (append-nil earlier));
              op = refl;
            })
      ]
  named_first earlier step steps part parts at entry a on (commit change) (Held n) act answer c = absurd (omega (arith, c.1))
  named_first earlier step steps part parts at entry a on (commit change) (Cancelled n tries cause) act answer c = absurd (omega (arith, c.1))
  named_first earlier step steps part parts at entry a on (commit change) (Mounted base to) act answer c = absurd (omega (arith, c.1))
  named_first earlier step steps part parts at entry a on (commit change) (Empty n) act answer c = absurd (omega (arith, c.1))
  named_first earlier step steps part parts at entry a on hold answer' act answer c = absurd (omega (arith, c.1))
  named_first earlier step steps part parts at entry a on mount answer' act answer c = absurd (omega (arith, c.1))

  -- a later step is named
  named_later : (earlier : List StepPart) (step : PlainStep) (steps : List PlainStep) (part : StepPart) (parts : List StepPart) (at : ℕ) (entry : PlainRecord)
      → NamedStep wish id entries number (earlier ++ part ∷ []) steps parts at entry → NamedStep wish id entries number earlier (step ∷ steps) (part ∷ parts) at entry
  named_later earlier step steps part parts at entry h = record {
    place = suc h.place;
    change = h.change;
    tries = h.tries;
    actor = h.actor;
    call = omega (arith, h.call, length-append earlier (part ∷ []));
    step = h.step;
    answer = h.answer;
    held = h.held ∙ ap (number_held id) (append_assoc earlier (part ∷ []) (take h.place parts));
    op = h.op;
  }

  -- a record that an actor's admitted answers name has its step
  named_step : (earlier : List StepPart) (steps : List PlainStep) (parts : List StepPart) (at : ℕ) (entry : PlainRecord) → AllZip Answers steps parts
      → Contains (flat_map given (filter (λ taken. nat_eq taken.step.surface id) (taken_after number earlier steps parts))) (at, entry)
      → NamedStep wish id entries number earlier steps parts at entry
  named_step earlier [] [] at entry a c = absurd (omega (arith, c.1))
  named_step earlier [] (part ∷ parts) at entry a c = absurd a
  named_step earlier (step ∷ steps) [] at entry a c = absurd a
  named_step earlier (step ∷ steps) (part ∷ parts) at entry a c =
      let taken : TakenStep = taken_step number earlier step part.answer in
      let rest : List TakenStep = filter (λ taken. nat_eq taken.step.surface id) (taken_after number (earlier ++ part ∷ []) steps parts) in
      elim (cases_Bool (nat_eq step.surface id)) [
        | inl on ↦
            elim (Contains-append_cases (given taken) (flat_map given rest) (at, entry) (subst (λ b. Contains (flat_map given (cond b (taken ∷ rest) rest)) (at, entry)) on c)) [
              | inl here ↦ named_first earlier step steps part parts at entry a.0 (eqb-true step.surface id on) step.act part.answer refl refl here
              | inr there ↦ named_later earlier step steps part parts at entry (named_step (earlier ++ part ∷ []) steps parts at entry a.1 there)
            ]
        | inr off ↦
            named_later earlier step steps part parts at entry (named_step (earlier ++ part ∷ []) steps parts at entry a.1
            (subst (λ b. Contains (flat_map given (cond b (taken ∷ rest) rest)) (at, entry)) off c))
      ]

-- what holds of the steps that each actor took on a surface holds of all that were taken there
all_taken_on : (P : TakenStep → Type 0) (id n : ℕ) (plans : List PlainActor) (parts : List PlainActorPart)
    → ((j m : ℕ) (plan : PlainActor) (part : PlainActorPart) → m ≡ n + j → slice_get plans j ≡ Some plan → slice_get parts j ≡ Some part → AllByRecursion P (taken_by m plan.steps part.steps id))
    → AllByRecursion P (filter (λ taken. nat_eq taken.step.surface id) (taken_from n plans parts))
all_taken_on P id n [] parts k = tt
all_taken_on P id n (plan ∷ plans) [] k = tt
all_taken_on P id n (plan ∷ plans) (part ∷ parts) k =
    let p = λ (taken : TakenStep). nat_eq taken.step.surface id in
    subst (AllByRecursion P) (sym (filter-append p (taken_after n [] plan.steps part.steps) (taken_from (n + 1) plans parts)))
    (all_append P (taken_by n plan.steps part.steps id) (filter p (taken_from (n + 1) plans parts)) (k 0 n plan part (omega arith) refl refl)
    (all_taken_on P id (n + 1) plans parts (λ j m c d e s t. k (suc j) m c d (omega (arith, e)) s t)))

-- some item passes, or none does
some_or_none : {A : Type 0} (p : A → Bool) (xs : List A)
    → ((i : ℕ) × (x : A) × (slice_get xs i ≡ Some x) × (p x ≡ true)) ⊎ ((i : ℕ) (x : A) → slice_get xs i ≡ Some x → p x ≡ false)
some_or_none p [] = inr (λ i x e. absurd (none-some x e))
some_or_none {A = A} p (x ∷ xs) =
    elim (cases_Bool (p x)) [
      | inl e ↦ inl (0, x, refl, e)
      | inr e ↦
          elim (some_or_none p xs) [
            | inl found ↦ inl (suc found.0, found.1, found.2, found.3)
            | inr none ↦ inr (by none e)
          ]
    ]
  where
    by : ((i : ℕ) (y : A) → slice_get xs i ≡ Some y → p y ≡ false) → p x ≡ false → (i : ℕ) (y : A) → slice_get (x ∷ xs) i ≡ Some y → p y ≡ false
    by none e zero y at = let is : x ≡ y = same_first x y at in subst (λ z. p z ≡ false) is e
      where
        same_first : (x y : A) → Some x ≡ Some y → x ≡ y
        same_first x y e = cc
    by none e (suc i) y at = none i y at

module _ (wish : Wish) (script : PlainScript) (journal : PlainJournal) (form : HasFormOf script journal) (first : Size) (part : PlainSurfacePart)
    (one : HasOneMounter script.actors part.id) (p : IsPutTogether wish script journal.actors first part) where
  -- each actor answers its steps
  answers_at : (number : ℕ) (plan : PlainActor) (own : PlainActorPart) → slice_get script.actors number ≡ Some plan → slice_get journal.actors number ≡ Some own → AllZip Answers plan.steps own.steps
  answers_at number plan own planned there =
      all_zip_at (λ (plan : PlainActor) (own : PlainActorPart). AllZip Answers plan.steps own.steps) script.actors journal.actors number plan own form.answers planned there

  -- each actor of the journal is one of the script
  planned_at : (number : ℕ) (own : PlainActorPart) → slice_get journal.actors number ≡ Some own → (plan : PlainActor) × (slice_get script.actors number ≡ Some plan)
  planned_at number own there =
      item_within script.actors number
      (omega (arith, slice_get_within journal.actors number own there, all_zip_length (λ (plan : PlainActor) (own : PlainActorPart). AllZip Answers plan.steps own.steps) script.actors journal.actors form.answers))

  -- a record is of its step, and its held number is true
  own_record : (at : ℕ) (entry : PlainRecord) → IsAdmittedBySome wish script journal.actors part.id part.records at entry
      → IsOfItsStep wish script journal part.id part.records at entry × IsTrulyHeld journal part.id entry
  own_record at entry h =
      let s = named_step wish part.id part.records h.actor [] h.plan.steps h.part.steps at entry (answers_at h.actor h.plan h.part h.plan_at h.part_at) h.named in
      let call : entry.call ≡ s.place = omega (arith, s.call) in
      let planned : slice_get script.actors entry.actor ≡ Some h.plan = ap (slice_get script.actors) s.actor ∙ h.plan_at in
      let there : slice_get journal.actors entry.actor ≡ Some h.part = ap (slice_get journal.actors) s.actor ∙ h.part_at in (
        record {
          change = s.change;
          step = ap (option_and_then (λ (plan : PlainActor). slice_get plan.steps entry.call)) planned ∙ ap (slice_get h.plan.steps) call ∙ s.step;
          op = s.op;
          tries = s.tries;
          answer = ap (option_and_then (λ (own : PlainActorPart). slice_get own.steps entry.call)) there ∙ ap (slice_get h.part.steps) call ∙ s.answer;
        },
        s.held ∙ ap (λ n. number_held part.id (take n h.part.steps)) (sym call)
            ∙ ap (λ o. number_held part.id (unwrap_or (option_map (λ (own : PlainActorPart). take entry.call own.steps) o) [])) (sym there),
      )

  -- each step that was taken is legal
  steps_legal : AllByRecursion (IsLegalStep wish first part.id part.records) (taken_on script journal part.id)
  steps_legal =
      all_taken_on (IsLegalStep wish first part.id part.records) part.id 0 script.actors journal.actors
      (λ j m plan own e planned there.
      let n : j ≡ m = omega (arith, e) in
      subst (λ i. AllByRecursion (IsLegalStep wish first part.id part.records) (taken_by i plan.steps own.steps part.id)) n
      ((p.each j plan own planned there).answers.taken part.records (begins_self part.records)))

  -- an actor that does not mount the surface names no passage there
  names_none : (number : ℕ) (own : PlainActorPart) (there : slice_get journal.actors number ≡ Some own) → mounts_on part.id (planned_at number own there).0 ≡ false
      → passages_by part.id number own.steps ≡ []
  names_none number own there off =
      let plan = planned_at number own there in
      no_passages part.id number 0 plan.0.steps [] own.steps (answers_at number plan.0 own plan.1 there)
      (subst (λ l. list_any (λ step. is_mount step.act && nat_eq step.surface part.id) l ≡ false) (sym (append-nil plan.0.steps)) off)

  -- all passages are those of one actor, or there is none
  passages_follow : FollowOn 0 (passages_named part.id journal.actors) × (last_to (passages_named part.id journal.actors) ≤ mountable_of part.records)
  passages_follow =
      elim (some_or_none (mounts_on part.id) script.actors) [
        | inl mounter ↦ by_one mounter.0 mounter.1 mounter.2 mounter.3
        | inr none ↦
            let nothing : passages_named part.id journal.actors ≡ [] =
            numbered_none (λ entry. passages_by part.id entry.0 entry.1.steps) 0 journal.actors
            (λ j m own e there.
            let n : j ≡ m = omega (arith, e) in
            let plan = planned_at j own there in subst (λ i. passages_by part.id i own.steps ≡ []) n (names_none j own there (none j plan.0 plan.1))) in (
              subst (FollowOn 0) (sym nothing) tt,
              subst (λ l. last_to l ≤ mountable_of part.records) (sym nothing) (omega arith),
            )
      ]
    where
      by_one : (i : ℕ) (plan : PlainActor) → slice_get script.actors i ≡ Some plan → mounts_on part.id plan ≡ true
          → FollowOn 0 (passages_named part.id journal.actors) × (last_to (passages_named part.id journal.actors) ≤ mountable_of part.records)
      by_one i plan planned mounts =
          let own = item_within journal.actors i
          (omega (arith, slice_get_within script.actors i plan planned, all_zip_length (λ (plan : PlainActor) (own : PlainActorPart). AllZip Answers plan.steps own.steps) script.actors journal.actors form.answers)) in
          let lone : passages_named part.id journal.actors ≡ passages_by part.id i own.0.steps =
          numbered_lone (λ entry. passages_by part.id entry.0 entry.1.steps) 0 journal.actors i i own.0 (omega arith) own.1
          (λ j m other d e there.
          let n : j ≡ m = omega (arith, e) in
          let its = planned_at j other there in
          subst (λ k. passages_by part.id k other.steps ≡ []) n (names_none j other there (one_passes (mounts_on part.id) script.actors i j plan its.0 one planned mounts d its.1))) in
          let keeps = (p.each i plan own.0 planned own.1).passages in
          (subst (FollowOn 0) (sym lone) keeps.forward, subst (λ l. last_to l ≤ mountable_of part.records) (sym lone) keeps.within)

  -- the surface is legal
  pub surface_legal : IsLegalOn wish script journal first part
  surface_legal =
      let steps : List TakenStep = taken_on script journal part.id in
      let passages : List Passage = passages_on part.id part.records journal.actors in
      let along : map passage_in part.mounts ≡ passages = ap (map passage_in) p.mounts ∙ passages_along first part.records passages in
      let follow = closed_follows part.records (passages_named part.id journal.actors) passages_follow.0 passages_follow.1 in
      let records = all_weaker (λ e. IsAdmittedBySome wish script journal.actors part.id part.records e.0 e.1)
      (λ e. IsOfItsStep wish script journal part.id part.records e.0 e.1 × IsTrulyHeld journal part.id e.1) (λ e. own_record e.0 e.1) (enumerate_from 1 part.records) p.named in
      record {
        commits_stand_once = record {
          records = all_weaker (λ e. IsOfItsStep wish script journal part.id part.records e.0 e.1 × IsTrulyHeld journal part.id e.1)
              (λ e. IsOfItsStep wish script journal part.id part.records e.0 e.1) (λ e o. o.0) (enumerate_from 1 part.records) records;
          steps = all_weaker (IsLegalStep wish first part.id part.records) (λ taken. HasItsRecord part.records taken taken.answer) (λ taken g. g.own_record) steps steps_legal;
        };
        history_is_lawful = p.lawful;
        cancels_have_cause = all_weaker (IsLegalStep wish first part.id part.records) (λ taken. HasCause wish first part.id part.records taken taken.answer) (λ taken g. g.cause) steps steps_legal;
        looks_go_forward = all_weaker (IsLegalStep wish first part.id part.records) (LooksForward part.id part.records) (λ taken g. g.looks) steps steps_legal;
        held_is_true = all_numbered (IsTrulyHeld journal part.id) 1 part.records
            (all_weaker (λ e. IsOfItsStep wish script journal part.id part.records e.0 e.1 × IsTrulyHeld journal part.id e.1) (λ e. IsTrulyHeld journal part.id e.1)
            (λ e o. o.1) (enumerate_from 1 part.records) records);
        mounts_follow_on = record {
          passages = along;
          forward = subst (FollowOn 0) (sym along) follow;
          empty = all_weaker (IsLegalStep wish first part.id part.records) (λ taken. IsEmptyAt part.id taken taken.answer) (λ taken g. g.empty) steps steps_legal;
        };
        tries_have_room = all_weaker (IsLegalStep wish first part.id part.records) (λ taken. HasRoomForTries wish first part.id part.records taken taken.answer) (λ taken g. g.room) steps steps_legal;
        views_follow = record {
          mounts = subst (AreMountsOn first part.records (registry_of [])) (sym p.mounts)
              (mounts_follow first part.records p.lawful 0 passages (registry_of []) follow (nothing_shown first part.records p.lawful));
          last = p.last;
        };
      }
