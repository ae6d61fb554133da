-- A surface has no more records than its script has steps.
use Rattle.std.proofs.Common.{◌≡◌, ℕ, zero, suc, ◌+◌, ◌-◌, ◌≤◌, ◌<◌, List, [], ◌∷◌, ◌++◌, Bool, true, nat_eq, length, length-append, map, slice_get, Some, inl, inr, arith, refl, ap, sym, subst}
use Rattle.std.specs.List.{AllByRecursion, AllZip, enumerate_from, flat_map, list_any}
use Rattle.std.specs.Option.{option_and_then}
use Rattle.std.proofs.lemmas.Bool.{cases_lt, eq-eqb, or_cases, or_left, or_right}
use Rattle.std.proofs.lemmas.List.{length-map}
use Rattle.std.proofs.lemmas.Map.Steps.{le-length_from_below}
use Rattle.std.proofs.lemmas.Option.{none-some, same_Some}
use Rattle.shadow_frame.specs.declared.Size.{Size}
use Rattle.tree_revision.specs.Records.{PlainRecord}
use Rattle.tree_revision.specs.Script.{PlainActor, PlainScript}
use Rattle.tree_revision.specs.Sound.{step_count}
use Rattle.tree_revision.specs.declared.record.Answer.{Answer}
use Rattle.tree_revision.specs.declared.record.Answer.TheVariants.{Held, Admitted, Cancelled, Mounted, Empty}
use Rattle.run_report.specs.declared.journal.StepPart.{StepPart}
use Rattle.run_report.specs.Journal.{PlainActorPart, PlainSurfacePart, PlainJournal}
use Rattle.tree_revision.specs.Wishes.{Wish}
use Rattle.run_report.specs.Legal.{Answers, HasFormOf, IsOfItsStep, IsLegalOn}
use Rattle.run_report.proofs.Pairs.{all_zip_length}

-- the place of the record that an answer names, one before its number; any other answer counts as the first place
abbrev place_named : Answer → ℕ
place_named (Held at) = 0
place_named (Admitted number tries) = number - 1
place_named (Cancelled at tries cause) = 0
place_named (Mounted base to) = 0
place_named (Empty at) = 0

-- the places that an actor's answers name
abbrev places_by : List StepPart → List ℕ
places_by parts = map (λ part. place_named part.answer) parts

-- the places that all actors' answers name
abbrev places_named : List PlainActorPart → List ℕ
places_named actors = flat_map (λ actor. places_by actor.steps) actors

-- what is in the first of two lists is in both
any_left : (test : ℕ → Bool) (xs ys : List ℕ) → list_any test xs ≡ true → list_any test (xs ++ ys) ≡ true
any_left test [] ys h = absurd cc
any_left test (x ∷ xs) ys h =
    elim (or_cases (test x) (list_any test xs) h) [
      | inl own ↦ or_left (test x) (list_any test (xs ++ ys)) own
      | inr later ↦ or_right (test x) (list_any test (xs ++ ys)) (any_left test xs ys later)
    ]

-- and so is what is in the second
any_right : (test : ℕ → Bool) (xs ys : List ℕ) → list_any test ys ≡ true → list_any test (xs ++ ys) ≡ true
any_right test [] ys h = h
any_right test (x ∷ xs) ys h = or_right (test x) (list_any test (xs ++ ys)) (any_right test xs ys h)

-- the place that a step's answer names is among those of its actor
named_by : (parts : List StepPart) (call : ℕ) (part : StepPart) → slice_get parts call ≡ Some part → list_any (nat_eq (place_named part.answer)) (places_by parts) ≡ true
named_by [] call part at = absurd (none-some part at)
named_by (each ∷ parts) zero part at =
    or_left (nat_eq (place_named part.answer) (place_named each.answer)) (list_any (nat_eq (place_named part.answer)) (places_by parts))
    (eq-eqb (place_named part.answer) (place_named each.answer) (ap (λ (p : StepPart). place_named p.answer) (sym (same_Some each part at))))
named_by (each ∷ parts) (suc call) part at =
    or_right (nat_eq (place_named part.answer) (place_named each.answer)) (list_any (nat_eq (place_named part.answer)) (places_by parts)) (named_by parts call part at)

-- and among those of all actors
named_among : (actors : List PlainActorPart) (actor call : ℕ) (part : StepPart)
    → option_and_then (λ (each : PlainActorPart). slice_get each.steps call) (slice_get actors actor) ≡ Some part
    → list_any (nat_eq (place_named part.answer)) (places_named actors) ≡ true
named_among [] actor call part at = absurd (none-some part at)
named_among (each ∷ actors) zero call part at = any_left (nat_eq (place_named part.answer)) (places_by each.steps) (places_named actors) (named_by each.steps call part at)
named_among (each ∷ actors) (suc actor) call part at =
    any_right (nat_eq (place_named part.answer)) (places_by each.steps) (places_named actors) (named_among actors actor call part at)

-- the place of each record is named by an answer
each_named : (wish : Wish) (script : PlainScript) (journal : PlainJournal) (id : ℕ) (all : List PlainRecord) (n : ℕ) (entries : List PlainRecord)
    → AllByRecursion (λ entry. IsOfItsStep wish script journal id all entry.0 entry.1) (enumerate_from (n + 1) entries)
    → (q : ℕ) → n ≤ q → q < n + length entries → list_any (nat_eq q) (places_named journal.actors) ≡ true
each_named wish script journal id all n [] own q low high = absurd (omega arith)
each_named wish script journal id all n (entry ∷ entries) own q low high =
    elim (cases_lt n q) [
      | inl later ↦ each_named wish script journal id all (n + 1) entries own.1 q (omega arith) (omega arith)
      | inr here ↦
          let same : n + 1 - 1 ≡ q = omega arith in
          subst (λ place. list_any (nat_eq place) (places_named journal.actors) ≡ true) same
          (named_among journal.actors entry.actor entry.call (record { surface = id; answer = Admitted (n + 1) own.0.tries }) own.0.answer)
    ]

-- there are as many places as steps
places_count : (actors : List PlainActor) (parts : List PlainActorPart) → AllZip (λ actor part. AllZip Answers actor.steps part.steps) actors parts
    → length (places_named parts) ≡ step_count actors
places_count [] [] h = refl
places_count [] (part ∷ parts) h = absurd h
places_count (actor ∷ actors) [] h = absurd h
places_count (actor ∷ actors) (part ∷ parts) h =
    omega (
      arith,
      length-append (places_by part.steps) (places_named parts),
      length-map part.steps (λ step. place_named step.answer),
      all_zip_length Answers actor.steps part.steps h.0,
      places_count actors parts h.1,
    )

-- so a surface of a legal journal has no more records than its script has steps
pub records_le_steps : (wish : Wish) (script : PlainScript) (journal : PlainJournal) (first : Size) (part : PlainSurfacePart) → HasFormOf script journal
    → IsLegalOn wish script journal first part → length part.records ≤ step_count script.actors
records_le_steps wish script journal first part form legal =
    let places = places_named journal.actors in
    let enough : length part.records ≤ length places =
    le-length_from_below places (length part.records) (λ q low. each_named wish script journal part.id part.records 0 part.records legal.commits_stand_once.records q (omega arith) (omega (arith, low))) in
    omega (arith, enough, places_count script.actors journal.actors form.answers)
