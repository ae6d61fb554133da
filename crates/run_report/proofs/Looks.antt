-- Where answers look, what they leave, and what is held, after one more answer.
use Rattle.std.proofs.Common.{◌≡◌, ℕ, ◌+◌, ◌-◌, ◌≤◌, false, cond, List, [], ◌∷◌, ◌++◌, length, take, nat_eq, unwrap_or, Some, arith, refl, ap, sym, ◌∙◌, subst, append_assoc, append-nil, add-one, eq-eqb, filter}
use Rattle.std.specs.List.{AllZip}
use Rattle.std.proofs.lemmas.List.Elements.{filter-append}
use Rattle.std.proofs.lemmas.List.Sums.{fold_push}
use Rattle.tree_revision.specs.Records.{PlainRecord}
use Rattle.tree_revision.specs.Script.{PlainStep}
use Rattle.tree_revision.specs.Mountable.{mountable_of}
use Rattle.tree_revision.specs.declared.record.Answer.{Answer}
use Rattle.run_report.specs.declared.journal.StepPart.{StepPart}
use Rattle.run_report.specs.Points.{first_mountable, point_left, point_before, held_after, number_held, mounted_after}
use Rattle.run_report.specs.Shorthands.{number_mounted}
use Rattle.run_report.specs.Legal.{TakenStep, taken_after, record_at, Answers}
use Rattle.run_report.specs.Machine.{ActorNow}
use Rattle.run_report.specs.ActorLegal.{taken_by, GoesThrough}
use Rattle.run_report.proofs.Lists.{slice_get_at, find_first}

-- one more answer on the surface leaves its own point
pub point_before-push : (id : ℕ) (entries : List PlainRecord) (earlier : List StepPart) (part : StepPart) → part.surface ≡ id
    → point_before id entries (earlier ++ part ∷ []) ≡ point_left entries (point_before id entries earlier) part.answer
point_before-push id entries earlier part on =
    fold_push (λ before part. cond (nat_eq part.surface id) (point_left entries before part.answer) before) 0 earlier part
    ∙ ap (λ b. cond b (point_left entries (point_before id entries earlier) part.answer) (point_before id entries earlier)) (eq-eqb part.surface id on)

-- and on another surface leaves the point as it was
pub point_before-other : (id : ℕ) (entries : List PlainRecord) (earlier : List StepPart) (part : StepPart) → nat_eq part.surface id ≡ false
    → point_before id entries (earlier ++ part ∷ []) ≡ point_before id entries earlier
point_before-other id entries earlier part on =
    fold_push (λ before part. cond (nat_eq part.surface id) (point_left entries before part.answer) before) 0 earlier part
    ∙ ap (λ b. cond b (point_left entries (point_before id entries earlier) part.answer) (point_before id entries earlier)) on

-- so with what is held
pub number_held-push : (id : ℕ) (earlier : List StepPart) (part : StepPart) → part.surface ≡ id
    → number_held id (earlier ++ part ∷ []) ≡ held_after part.answer (number_held id earlier)
number_held-push id earlier part on =
    fold_push (λ held part. cond (nat_eq part.surface id) (held_after part.answer held) held) 0 earlier part
    ∙ ap (λ b. cond b (held_after part.answer (number_held id earlier)) (number_held id earlier)) (eq-eqb part.surface id on)

-- which an answer on another surface leaves
pub number_held-other : (id : ℕ) (earlier : List StepPart) (part : StepPart) → nat_eq part.surface id ≡ false
    → number_held id (earlier ++ part ∷ []) ≡ number_held id earlier
number_held-other id earlier part on =
    fold_push (λ held part. cond (nat_eq part.surface id) (held_after part.answer held) held) 0 earlier part
    ∙ ap (λ b. cond b (held_after part.answer (number_held id earlier)) (number_held id earlier)) on

-- and with what stands mounted
pub number_mounted-push : (id : ℕ) (earlier : List StepPart) (part : StepPart) → part.surface ≡ id
    → number_mounted id (earlier ++ part ∷ []) ≡ mounted_after part.answer (number_mounted id earlier)
number_mounted-push id earlier part on =
    fold_push (λ base part. cond (nat_eq part.surface id) (mounted_after part.answer base) base) 0 earlier part
    ∙ ap (λ b. cond b (mounted_after part.answer (number_mounted id earlier)) (number_mounted id earlier)) (eq-eqb part.surface id on)

-- which an answer on another surface leaves, too
pub number_mounted-other : (id : ℕ) (earlier : List StepPart) (part : StepPart) → nat_eq part.surface id ≡ false
    → number_mounted id (earlier ++ part ∷ []) ≡ number_mounted id earlier
number_mounted-other id earlier part on =
    fold_push (λ base part. cond (nat_eq part.surface id) (mounted_after part.answer base) base) 0 earlier part
    ∙ ap (λ b. cond b (mounted_after part.answer (number_mounted id earlier)) (number_mounted id earlier)) on

-- a look that found that number to be mounted is no later than the first that may
pub first_mountable-within : (entries : List PlainRecord) (before number p : ℕ) → before ≤ p → p ≤ length entries → mountable_of (take p entries) ≡ number
    → (before ≤ first_mountable entries before number) × (first_mountable entries before number ≤ p)
first_mountable-within entries before number p low high is =
    let found = find_first (λ q. nat_eq (mountable_of (take q entries)) number) before (length entries + 1 - before) p low (omega arith) (eq-eqb (mountable_of (take p entries)) number is) in
    subst (λ o. (before ≤ unwrap_or o (length entries + 1)) × (unwrap_or o (length entries + 1) ≤ p)) (sym found.1) (found.2, found.3)

-- the record of the number after some records is the one after them
pub record_at-next : (records : List PlainRecord) (entry : PlainRecord) (more : List PlainRecord)
    → record_at (records ++ entry ∷ more) (length records + 1) ≡ Some entry
record_at-next records entry more = rw add-one (slice_get_at records entry more)

-- a step of that actor that was answered, after those earlier answers
abbrev pub taken_step : (actor : ℕ) → (earlier : List StepPart) → PlainStep → Answer → TakenStep
taken_step actor earlier step answer = record { name = record { actor = actor; call = length earlier }; step = step; answer = answer; earlier = earlier }

-- without answers no step was taken
pub taken_after-none : (actor : ℕ) (earlier : List StepPart) (steps : List PlainStep) → taken_after actor earlier steps [] ≡ []
taken_after-none actor earlier [] = refl
taken_after-none actor earlier (step ∷ steps) = refl

-- one more step of an actor was taken
pub taken_after-push : (actor : ℕ) (earlier : List StepPart) (done : List PlainStep) (step : PlainStep) (rest : List PlainStep) (parts : List StepPart) (part : StepPart)
    → AllZip Answers done parts
    → taken_after actor earlier (done ++ step ∷ rest) (parts ++ part ∷ [])
    ≡ taken_after actor earlier (done ++ step ∷ rest) parts ++ taken_step actor (earlier ++ parts) step part.answer ∷ []
taken_after-push actor earlier [] step rest [] part h =
    let e : earlier ≡ earlier ++ [] = sym (append-nil earlier) in
    λ i. taken_step actor (e i) step part.answer ∷ taken_after-none actor (earlier ++ part ∷ []) rest i
taken_after-push actor earlier [] step rest (p ∷ parts) part h = absurd h
taken_after-push actor earlier (d ∷ done) step rest [] part h = absurd h
taken_after-push actor earlier (d ∷ done) step rest (p ∷ parts) part h =
    ap (λ l. taken_step actor earlier d p.answer ∷ l)
    (taken_after-push actor (earlier ++ p ∷ []) done step rest parts part h.1
    ∙ ap (λ x. taken_after actor (earlier ++ p ∷ []) (done ++ step ∷ rest) parts ++ taken_step actor x step part.answer ∷ []) (append_assoc earlier (p ∷ []) parts))

-- the steps that were taken on a surface, and one more where it is on it
pub taken_by-push : (number : ℕ) (steps : List PlainStep) (actor : ActorNow) (step : PlainStep) (rest : List PlainStep) (part : StepPart) (id : ℕ)
    → GoesThrough steps actor → actor.left ≡ step ∷ rest
    → taken_by number steps (actor.answers ++ part ∷ []) id
    ≡ taken_by number steps actor.answers id ++ cond (nat_eq step.surface id) (taken_step number actor.answers step part.answer ∷ []) []
taken_by-push number steps actor step rest part id of left =
    let p = λ (taken : TakenStep). nat_eq taken.step.surface id in
    let whole : steps ≡ of.done ++ step ∷ rest = of.whole ∙ ap (λ l. of.done ++ l) left in
    ap (λ l. filter p (taken_after number [] l (actor.answers ++ part ∷ []))) whole
    ∙ ap (filter p) (taken_after-push number [] of.done step rest actor.answers part of.answers)
    ∙ filter-append p (taken_after number [] (of.done ++ step ∷ rest) actor.answers) (taken_step number actor.answers step part.answer ∷ [])
    ∙ ap (λ l. filter p (taken_after number [] l actor.answers) ++ cond (nat_eq step.surface id) (taken_step number actor.answers step part.answer ∷ []) []) (sym whole)
