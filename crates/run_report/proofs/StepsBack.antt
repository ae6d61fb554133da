-- Actors are read back from their lines: each step's number and surface are its place and the script's, and its answer is read.
use Rattle.std.proofs.Common.{◌≡◌, ℕ, ◌+◌, List, [], ◌∷◌, ◌++◌, map, refl, ap, sym, ◌∙◌, append_assoc}
use Rattle.std.specs.List.{AllByRecursion, AllZip}
use Rattle.tree_revision.specs.Script.{PlainStep, PlainActor}
use Rattle.run_report.specs.declared.journal.StepPart.{StepPart}
use Rattle.run_report.specs.Journal.{PlainActorPart}
use Rattle.run_report.specs.Legal.{Answers}
use Rattle.run_report.specs.Text.{numbered, step_text, answer_text}
use Rattle.run_report.specs.TextParts.{step_head, steps_text, actor_line, actors_text}
use Rattle.run_report.specs.Ranges.{IsAnswerInRange, AreAnswersInRange}
use Rattle.run_report.proofs.LineWords.{after_same}
use Rattle.run_report.proofs.AnswersBack.{answer_off}

-- what stands before both of two equal texts can go, where it is the same
pub after_head : {A : Type 0} (head : A → List ℕ) (a b : A) (v w r s t u : List ℕ) → a ≡ b → ((head a ++ v) ++ r) ++ t ≡ ((head b ++ w) ++ s) ++ u → v ++ (r ++ t) ≡ w ++ (s ++ u)
after_head head a b v w r s t u same e =
    let there : ((head a ++ w) ++ s) ++ u ≡ ((head b ++ w) ++ s) ++ u = ap (λ x. ((head x ++ w) ++ s) ++ u) same in
    after_same (head a) v w (r ++ t) (s ++ u) (sym (append_assoc (head a ++ v) r t) ∙ e ∙ sym there ∙ append_assoc (head a ++ w) s u)

-- answers of steps are one where their parts are
part_from : (a b : StepPart) → a.surface ≡ b.surface → a.answer ≡ b.answer → a ≡ b
part_from a b s r = λ i. record { surface = s i; answer = r i }

-- the steps of an actor are read back
steps_off : (steps : List PlainStep) (n : ℕ) (xs ys : List StepPart) (s t : List ℕ) → AllZip Answers steps xs → AllZip Answers steps ys → AllByRecursion (λ step. IsAnswerInRange step.answer) xs
    → AllByRecursion (λ step. IsAnswerInRange step.answer) ys → numbered step_text n xs ++ s ≡ numbered step_text n ys ++ t → (xs ≡ ys) × (s ≡ t)
steps_off [] n [] [] s t p q fx fy e = (refl, e)
steps_off [] n [] (y ∷ ys) s t p q fx fy e = absurd q
steps_off [] n (x ∷ xs) ys s t p q fx fy e = absurd p
steps_off (step ∷ steps) n [] ys s t p q fx fy e = absurd p
steps_off (step ∷ steps) n (x ∷ xs) [] s t p q fx fy e = absurd q
steps_off (step ∷ steps) n (x ∷ xs) (y ∷ ys) s t p q fx fy e =
    let surface : x.surface ≡ y.surface = p.0.surface ∙ sym q.0.surface in
    let answer = answer_off x.answer y.answer (numbered step_text (n + 1) xs ++ s) (numbered step_text (n + 1) ys ++ t) fx.0 fy.0
    (after_head (step_head n) x.surface y.surface (answer_text x.answer) (answer_text y.answer) (numbered step_text (n + 1) xs) (numbered step_text (n + 1) ys) s t surface e) in
    let rest = steps_off steps (n + 1) xs ys s t p.1 q.1 fx.1 fy.1 answer.1 in
    let x_is : x ≡ y = part_from x y surface answer.0 in
    let xs_is : xs ≡ ys = rest.0 in (cc, rest.1)

-- actors of the same parts are one
actor_from : (a b : PlainActorPart) → a.name ≡ b.name → a.steps ≡ b.steps → a ≡ b
actor_from a b n s = λ i. record { name = n i; steps = s i }

-- actors of the same names are read back
pub actors_off : (actors : List PlainActor) (xs ys : List PlainActorPart) (s t : List ℕ) → map (λ part. part.name) xs ≡ map (λ part. part.name) ys
    → AllZip (λ actor part. AllZip Answers actor.steps part.steps) actors xs → AllZip (λ actor part. AllZip Answers actor.steps part.steps) actors ys
    → AllByRecursion AreAnswersInRange xs → AllByRecursion AreAnswersInRange ys → actors_text xs ++ s ≡ actors_text ys ++ t → (xs ≡ ys) × (s ≡ t)
actors_off [] [] [] s t names p q fx fy e = (refl, e)
actors_off [] [] (y ∷ ys) s t names p q fx fy e = absurd q
actors_off [] (x ∷ xs) ys s t names p q fx fy e = absurd p
actors_off (actor ∷ actors) [] ys s t names p q fx fy e = absurd p
actors_off (actor ∷ actors) (x ∷ xs) [] s t names p q fx fy e = absurd q
actors_off (actor ∷ actors) (x ∷ xs) (y ∷ ys) s t names p q fx fy e =
    let name : x.name ≡ y.name = cc in
    let others : map (λ (part : PlainActorPart). part.name) xs ≡ map (λ (part : PlainActorPart). part.name) ys = cc in
    let steps = steps_off actor.steps 0 x.steps y.steps (actors_text xs ++ s) (actors_text ys ++ t) p.0 q.0 fx.0 fy.0
    (after_head actor_line x.name y.name (steps_text x.steps) (steps_text y.steps) (actors_text xs) (actors_text ys) s t name e) in
    let rest = actors_off actors xs ys s t others p.1 q.1 fx.1 fy.1 steps.1 in
    let x_is : x ≡ y = actor_from x y name steps.0 in
    let xs_is : xs ≡ ys = rest.0 in (cc, rest.1)
