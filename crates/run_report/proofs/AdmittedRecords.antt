-- The records that admitted answers name, after one more answer.
use Rattle.std.proofs.Common.{◌≡◌, ℕ, ◌+◌, ◌-◌, Bool, true, false, cond, List, [], ◌∷◌, ◌++◌, length, take, nat_eq, slice_get, slice_set, option_map, Some, arith, refl, ap, sym, ◌∙◌, subst, append-nil, inl, inr}
use Rattle.std.specs.List.{flat_map, Contains}
use Rattle.std.proofs.lemmas.Bool.{cases_eq}
use Rattle.std.proofs.lemmas.Option.{slice_get-map, same_Some}
use Rattle.std.proofs.lemmas.List.Concat.{flat_map-append}
use Rattle.std.proofs.lemmas.List.Elements.{Contains-append_left}
use Rattle.tree_revision.specs.Records.{PlainOp, PlainRecord}
use Rattle.tree_revision.specs.Ports.{BeginsWith}
use Rattle.tree_revision.specs.Script.{commit, PlainStep, PlainActor, PlainScript}
use Rattle.tree_revision.specs.declared.record.Answer.{Answer}
use Rattle.tree_revision.specs.declared.record.Answer.TheVariants.{Admitted}
use Rattle.run_report.specs.declared.journal.StepPart.{StepPart}
use Rattle.run_report.specs.Journal.{PlainActorPart}
use Rattle.run_report.specs.Points.{number_held}
use Rattle.run_report.specs.Legal.{TakenStep}
use Rattle.run_report.specs.Machine.{ActorNow, actor_part_of}
use Rattle.tree_revision.specs.Wishes.{Wish}
use Rattle.run_report.specs.ActorLegal.{taken_by, GoesThrough, record_named, admitted_records, IsAdmittedBySome}
use Rattle.run_report.proofs.Lists.{slice_get-set_same, slice_get-set_other}
use Rattle.run_report.proofs.Looks.{taken_step, taken_by-push}
use Rattle.run_report.proofs.Begins.{begins_push}
use Rattle.run_report.proofs.Kept.{parts_of}
use Rattle.run_report.proofs.Passages.{part_at}

-- what one thing gives where a test says so
given_where : {A B : Type 0} (f : A → List B) (b : Bool) (x : A) → flat_map f (cond b (x ∷ []) []) ≡ cond b (f x) []
given_where f true x = append-nil (f x)
given_where f false x = refl

-- one more answer names one more record where it is on the surface and admitted
pub admitted_records-push : (wish : Wish) (id : ℕ) (entries : List PlainRecord) (number : ℕ) (steps : List PlainStep) (actor : ActorNow) (step : PlainStep) (rest : List PlainStep) (part : StepPart)
    → GoesThrough steps actor → actor.left ≡ step ∷ rest
    → admitted_records wish id entries number steps (actor.answers ++ part ∷ [])
    ≡ admitted_records wish id entries number steps actor.answers
    ++ cond (nat_eq step.surface id) (record_named wish id entries (taken_step number actor.answers step part.answer) step.act part.answer) []
admitted_records-push wish id entries number steps actor step rest part of left =
    let f = λ (taken : TakenStep). record_named wish id entries taken taken.step.act taken.answer in
    let taken : TakenStep = taken_step number actor.answers step part.answer in
    ap (flat_map f) (taken_by-push number steps actor step rest part id of left)
    ∙ flat_map-append f (taken_by number steps actor.answers id) (cond (nat_eq step.surface id) (taken ∷ []) [])
    ∙ ap (λ l. admitted_records wish id entries number steps actor.answers ++ l) (given_where f (nat_eq step.surface id) taken)

-- a record that was named stays so when its actor, or another, names more
pub named_when_more : (wish : Wish) (script : PlainScript) (id : ℕ) (entries : List PlainRecord) (at : ℕ) (entry : PlainRecord) (actors : List ActorNow) (i : ℕ) (was is : ActorNow)
    (plan : PlainActor) (more : List (ℕ × PlainRecord)) → slice_get actors i ≡ Some was → slice_get script.actors i ≡ Some plan
    → admitted_records wish id entries i plan.steps is.answers ≡ admitted_records wish id entries i plan.steps was.answers ++ more
    → IsAdmittedBySome wish script (parts_of actors) id entries at entry → IsAdmittedBySome wish script (parts_of (slice_set actors i is)) id entries at entry
named_when_more wish script id entries at entry actors i was is plan more there planned grown h =
    elim (cases_eq h.actor i) [
      | inl q ↦
          let plan_is : h.plan ≡ plan = same_Some h.plan plan (sym h.plan_at ∙ ap (slice_get script.actors) q ∙ planned) in
          let part_is : h.part ≡ actor_part_of was = same_Some h.part (actor_part_of was) (sym h.part_at ∙ ap (slice_get (parts_of actors)) q ∙ part_at actors i was there) in
          let named : Contains (admitted_records wish id entries i plan.steps was.answers) (at, entry) =
          subst (λ (x : ℕ × PlainActor × PlainActorPart). Contains (admitted_records wish id entries x.0 x.1.steps x.2.steps) (at, entry)) (λ k. (q k, plan_is k, part_is k)) h.named in
          record {
            actor = i;
            plan = plan;
            part = actor_part_of is;
            plan_at = planned;
            part_at = part_at (slice_set actors i is) i is (slice_get-set_same actors i is was there);
            named = subst (λ l. Contains l (at, entry)) (sym grown) (Contains-append_left (admitted_records wish id entries i plan.steps was.answers) more (at, entry) named);
          }
      | inr d ↦
          record {
            actor = h.actor;
            plan = h.plan;
            part = h.part;
            plan_at = h.plan_at;
            part_at =
                slice_get-map actor_part_of (slice_set actors i is) h.actor ∙ ap (option_map actor_part_of) (slice_get-set_other actors i h.actor is d)
                ∙ sym (slice_get-map actor_part_of actors h.actor) ∙ h.part_at;
            named = h.named;
          }
    ]

-- the record of a commit that is admitted next is one that its actor names
pub named_next : (wish : Wish) (id : ℕ) (records : List PlainRecord) (number : ℕ) (steps : List PlainStep) (actor : ActorNow) (step : PlainStep) (rest : List PlainStep) (op : PlainOp) (tries : ℕ)
    (entry : PlainRecord) → entry ≡ record { actor = number; call = length actor.answers; held = number_held id actor.answers; op = wish records (number_held id actor.answers) op }
    → GoesThrough steps actor → actor.left ≡ step ∷ rest → step.act ≡ commit op → nat_eq step.surface id ≡ true
    → (entries : List PlainRecord) → BeginsWith entries (records ++ entry ∷ [])
    → admitted_records wish id entries number steps (actor.answers ++ (record { surface = id; answer = Admitted (length records + 1) tries }) ∷ [])
    ≡ admitted_records wish id entries number steps actor.answers ++ (length records + 1, entry) ∷ []
named_next wish id records number steps actor step rest op tries entry is of left act on entries m =
    let answer : Answer = Admitted (length records + 1) tries in
    let taken : TakenStep = taken_step number actor.answers step answer in
    let n : length records + 1 - 1 ≡ length records = omega arith in
    let first : take (length records + 1 - 1) entries ≡ records = ap (λ k. take k entries) n ∙ (begins_push entries records entry m).same in
    let new : record_named wish id entries taken (commit op) answer ≡ (length records + 1, entry) ∷ [] =
    ap (λ l. (length records + 1, (record { actor = number; call = length actor.answers; held = number_held id actor.answers; op = wish l (number_held id actor.answers) op })) ∷ []) first
    ∙ ap (λ e. (length records + 1, e) ∷ []) (sym is) in
    admitted_records-push wish id entries number steps actor step rest (record { surface = id; answer = answer }) of left
    ∙ ap (λ l. admitted_records wish id entries number steps actor.answers ++ l)
    (ap (λ b. cond b (record_named wish id entries taken step.act answer) []) on ∙ ap (λ a. record_named wish id entries taken a answer) act ∙ new)
