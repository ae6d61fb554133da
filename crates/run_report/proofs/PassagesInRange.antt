-- The passages of a legal surface lead forward, to no more than may be mounted, and by steps whose numbers are in range.
use Rattle.std.proofs.Common.{◌≡◌, ◌≤◌, ◌<◌, ◌+◌, ◌^◌, ℕ, Bool, true, false, cond, List, [], ◌∷◌, ◌++◌, length, nat_eq, None, inl, inr, arith, ap, sym, ◌∙◌, subst}
use Rattle.std.specs.List.{AllByRecursion, AllZip, fold, flat_map, enumerate_from}
use Rattle.std.proofs.lemmas.Bool.{cases_Bool, eqb-true}
use Rattle.std.proofs.lemmas.List.Sums.{fold_push}
use Rattle.view_flatten.proofs.Distinct.{each_in_first, each_in_second}
use Rattle.tree_revision.specs.Records.{PlainRecord}
use Rattle.tree_revision.specs.Script.{PlainStep, PlainActor}
use Rattle.tree_revision.specs.Mountable.{mountable_of}
use Rattle.tree_revision.specs.declared.record.Answer.{Answer}
use Rattle.tree_revision.specs.declared.record.Answer.TheVariants.{Held, Admitted, Cancelled, Mounted, Empty}
use Rattle.run_report.specs.declared.journal.StepName.{StepName}
use Rattle.run_report.specs.declared.journal.StepPart.{StepPart}
use Rattle.run_report.specs.Journal.{PlainActorPart}
use Rattle.run_report.specs.Mounts.{Passage, passage_of, passages_by, last_to, closed, passages_on}
use Rattle.run_report.specs.Shorthands.{passage, passage_on, passages_named}
use Rattle.run_report.specs.Legal.{Answers, FollowOn, taken_after, taken_from}
use Rattle.run_report.specs.Ranges.{IsCallInRange}
use Rattle.run_report.proofs.Lists.{all_append}
use Rattle.run_report.proofs.AnswersInRange.{LeadsForward}

-- a passage leads forward, to at most that number
abbrev pub IsForwardTo : ℕ → Passage → Type 0
IsForwardTo most step = (step.base < step.to) × (step.to ≤ most)

-- passages that follow on one another lead to at most where the last one leads
forward_to : (base : ℕ) (passages : List Passage) (most : ℕ) → FollowOn base passages → fold (λ number step. step.to) base passages ≤ most
    → (base ≤ most) × AllByRecursion (IsForwardTo most) passages
forward_to base [] most h low = (low, tt)
forward_to base (step ∷ steps) most h low =
    let later = forward_to step.to steps most h.2 low in (omega (arith, h.0, h.1, later.0), ((h.1, later.0), later.1))

-- the last passage leads to what may be mounted
closed_last : (entries : List PlainRecord) (passages : List Passage) → last_to (closed entries passages) ≡ mountable_of entries
closed_last entries passages =
    let close : Passage = passage (last_to passages) (mountable_of entries) None in
    elim (cases_Bool (nat_eq (last_to passages) (mountable_of entries))) [
      | inl e ↦
          subst (λ b. last_to (cond b passages (passages ++ close ∷ [])) ≡ mountable_of entries) (sym e) (eqb-true (last_to passages) (mountable_of entries) e)
      | inr e ↦
          subst (λ b. last_to (cond b passages (passages ++ close ∷ [])) ≡ mountable_of entries) (sym e)
          (fold_push (λ (number : ℕ) (step : Passage). step.to) 0 passages close)
    ]

-- so all passages lead forward, to at most what may be mounted
pub passages_forward : (id : ℕ) (entries : List PlainRecord) (actors : List PlainActorPart) → FollowOn 0 (passages_on id entries actors)
    → AllByRecursion (IsForwardTo (mountable_of entries)) (passages_on id entries actors)
passages_forward id entries actors h =
    (forward_to 0 (passages_on id entries actors) (mountable_of entries) h (omega (arith, closed_last entries (passages_named id actors)))).1

-- what holds of one list or of a longer one holds of it
shorter_all : (P : Passage → Type 0) (b : Bool) (xs ys : List Passage) → AllByRecursion P (cond b xs (xs ++ ys)) → AllByRecursion P xs
shorter_all P true xs ys h = h
shorter_all P false xs ys h = each_in_first P xs ys h

-- the passage that an answer names leads forward
answer_forward : (most : ℕ) (name : StepName) (answer : Answer) → AllByRecursion (IsForwardTo most) (passage_of name answer) → LeadsForward answer
answer_forward most name (Held at) h = tt
answer_forward most name (Admitted number tries) h = tt
answer_forward most name (Cancelled at tries cause) h = tt
answer_forward most name (Mounted base to) h = h.0.0
answer_forward most name (Empty at) h = tt

-- so do the steps of an actor
actor_forward : (most id actor n : ℕ) (earlier : List StepPart) (steps : List PlainStep) (parts : List StepPart) → AllZip Answers steps parts
    → AllByRecursion (IsForwardTo most) (flat_map (λ entry. passage_on id (record { actor = actor; call = entry.0 }) entry.1) (enumerate_from n parts))
    → AllByRecursion (λ taken. nat_eq taken.step.surface id ≡ true → LeadsForward taken.answer) (taken_after actor earlier steps parts)
actor_forward most id actor n earlier [] parts answers h = tt
actor_forward most id actor n earlier (step ∷ steps) [] answers h = tt
actor_forward most id actor n earlier (step ∷ steps) (part ∷ parts) answers h =
    let name : StepName = record { actor = actor; call = n } in
    let later = flat_map (λ (entry : ℕ × StepPart). passage_on id (record { actor = actor; call = entry.0 }) entry.1) (enumerate_from (n + 1) parts) in
    let own = each_in_first (IsForwardTo most) (passage_on id name part) later h in (
      λ on. answer_forward most name part.answer
          (subst (λ b. AllByRecursion (IsForwardTo most) (cond b (passage_of name part.answer) [])) (ap (λ surface. nat_eq surface id) answers.0.surface ∙ on) own),
      actor_forward most id actor (n + 1) (earlier ++ part ∷ []) steps parts answers.1 (each_in_second (IsForwardTo most) (passage_on id name part) later h),
    )

-- and of all actors
all_forward : (most id n : ℕ) (actors : List PlainActor) (parts : List PlainActorPart) → AllZip (λ actor part. AllZip Answers actor.steps part.steps) actors parts
    → AllByRecursion (IsForwardTo most) (flat_map (λ entry. passages_by id entry.0 entry.1.steps) (enumerate_from n parts))
    → AllByRecursion (λ taken. nat_eq taken.step.surface id ≡ true → LeadsForward taken.answer) (taken_from n actors parts)
all_forward most id n [] parts answers h = tt
all_forward most id n (actor ∷ actors) [] answers h = tt
all_forward most id n (actor ∷ actors) (part ∷ parts) answers h =
    let later = flat_map (λ (entry : ℕ × PlainActorPart). passages_by id entry.0 entry.1.steps) (enumerate_from (n + 1) parts) in
    all_append (λ taken. nat_eq taken.step.surface id ≡ true → LeadsForward taken.answer) (taken_after n [] actor.steps part.steps) (taken_from (n + 1) actors parts)
    (actor_forward most id n 0 [] actor.steps part.steps answers.0 (each_in_first (IsForwardTo most) (passages_by id n part.steps) later h))
    (all_forward most id (n + 1) actors parts answers.1 (each_in_second (IsForwardTo most) (passages_by id n part.steps) later h))

-- each mount on the surface leads forward
pub steps_forward : (id : ℕ) (entries : List PlainRecord) (actors : List PlainActor) (parts : List PlainActorPart)
    → AllZip (λ actor part. AllZip Answers actor.steps part.steps) actors parts → FollowOn 0 (passages_on id entries parts)
    → AllByRecursion (λ taken. nat_eq taken.step.surface id ≡ true → LeadsForward taken.answer) (taken_from 0 actors parts)
steps_forward id entries actors parts answers h =
    let named = passages_named id parts in
    all_forward (mountable_of entries) id 0 actors parts answers
    (shorter_all (IsForwardTo (mountable_of entries)) (nat_eq (last_to named) (mountable_of entries)) named (passage (last_to named) (mountable_of entries) None ∷ [])
    (passages_forward id entries parts h))

-- the call of a passage is in range
abbrev IsByCall : Passage → Type 0
IsByCall step = IsCallInRange step.by

-- of one that an answer names
answer_call : (name : StepName) (answer : Answer) → name.call < 2 ^ 64 → AllByRecursion IsByCall (passage_of name answer)
answer_call name (Held at) low = tt
answer_call name (Admitted number tries) low = tt
answer_call name (Cancelled at tries cause) low = tt
answer_call name (Mounted base to) low = (low, tt)
answer_call name (Empty at) low = tt

-- of those that an actor's answers name
actor_calls : (id actor n : ℕ) (parts : List StepPart) → n + length parts ≤ 2048
    → AllByRecursion IsByCall (flat_map (λ entry. passage_on id (record { actor = actor; call = entry.0 }) entry.1) (enumerate_from n parts))
actor_calls id actor n [] low = tt
actor_calls id actor n (part ∷ parts) low =
    let name : StepName = record { actor = actor; call = n } in
    let named = answer_call name part.answer (omega (arith, low)) in
    all_append IsByCall (passage_on id name part) (flat_map (λ (entry : ℕ × StepPart). passage_on id (record { actor = actor; call = entry.0 }) entry.1) (enumerate_from (n + 1) parts))
    (elim (nat_eq part.surface id) as (λ b. AllByRecursion IsByCall (cond b (passage_of name part.answer) [])) [ true ↦ named | false ↦ tt ])
    (actor_calls id actor (n + 1) parts (omega (arith, low)))

-- and of all actors
all_calls : (id n : ℕ) (actors : List PlainActorPart) → AllByRecursion (λ actor. length actor.steps ≤ 2048) actors
    → AllByRecursion IsByCall (flat_map (λ entry. passages_by id entry.0 entry.1.steps) (enumerate_from n actors))
all_calls id n [] low = tt
all_calls id n (actor ∷ actors) low =
    all_append IsByCall (passages_by id n actor.steps) (flat_map (λ (entry : ℕ × PlainActorPart). passages_by id entry.0 entry.1.steps) (enumerate_from (n + 1) actors))
    (actor_calls id n 0 actor.steps (omega (arith, low.0))) (all_calls id (n + 1) actors low.1)

-- so each passage of the surface is by a call in range
pub passages_by_calls : (id : ℕ) (entries : List PlainRecord) (actors : List PlainActorPart) → AllByRecursion (λ actor. length actor.steps ≤ 2048) actors
    → AllByRecursion (λ step. IsCallInRange step.by) (passages_on id entries actors)
passages_by_calls id entries actors low =
    let named = passages_named id actors in
    let own = all_calls id 0 actors low in
    let close : Passage = passage (last_to named) (mountable_of entries) None in
    elim (nat_eq (last_to named) (mountable_of entries)) as (λ b. AllByRecursion IsByCall (cond b named (named ++ close ∷ []))) [
      | true ↦ own
      | false ↦ all_append IsByCall named (close ∷ []) own (tt, tt)
    ]
