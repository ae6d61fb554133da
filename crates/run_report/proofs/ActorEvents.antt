-- One event keeps its actor legal.
use Rattle.std.proofs.Common.{◌≡◌, ℕ, ◌+◌, ◌-◌, ◌≤◌, ◌<◌, true, List, [], ◌∷◌, ◌++◌, length, min, count_by, is_none, Option, Some, None, arith, refl, ap, ◌∙◌, subst, eq-eqb, length-append}
use Rattle.std.specs.List.{range_with_len}
use Rattle.shadow_frame.specs.declared.Size.{Size}
use Rattle.tree_revision.specs.Records.{PlainOp, PlainRecord}
use Rattle.tree_revision.specs.Script.{PlainAct, commit, PlainStep}
use Rattle.tree_revision.specs.Cancels.{cancel_of}
use Rattle.tree_revision.specs.Mountable.{mountable_of}
use Rattle.tree_revision.specs.declared.record.Cancel.{Cancel}
use Rattle.tree_revision.specs.declared.record.Answer.TheVariants.{Held, Admitted, Cancelled, Mounted, Empty}
use Rattle.run_report.specs.declared.journal.StepPart.{StepPart}
use Rattle.run_report.specs.Points.{point_before, number_held}
use Rattle.run_report.specs.Shorthands.{number_mounted, trying}
use Rattle.run_report.specs.Legal.{cancel_for_act}
use Rattle.run_report.specs.Machine.{ActorNow, answered}
use Rattle.tree_revision.specs.Wishes.{Wish}
use Rattle.run_report.specs.ActorLegal.{room_up_to, GoesThrough, HasLookedAt, HasTried, IsUnderWay, IsLegalSoFar}
use Rattle.run_report.proofs.Lists.{count_one_more}
use Rattle.run_report.proofs.Begins.{begins_self, begins_before}
use Rattle.run_report.proofs.Actors.{legal_trying, legal_answered}
use Rattle.run_report.proofs.Good.{room_grows, good_held, look_mountable, good_empty, good_mounted, good_cancelled, good_admitted}

-- a number that has no cause makes room for one more try
room_one_more : (wish : Wish) (first : Size) (id : ℕ) (entries : List PlainRecord) (earlier : List StepPart) (act : PlainAct) (at : ℕ)
    → point_before id entries earlier ≤ at → cancel_for_act wish first entries (number_held id earlier) act at ≡ None
    → room_up_to wish first id entries earlier act at + 1 ≤ room_up_to wish first id entries earlier act (at + 1)
room_one_more wish first id entries earlier act at low clear =
    let b : ℕ = point_before id entries earlier in
    let p = λ (q : ℕ). is_none (cancel_for_act wish first entries (number_held id earlier) act q) in
    let n : at - b + 1 ≡ at + 1 - b = omega arith in
    let here : p (b + (at - b)) ≡ true = let k : at ≡ b + (at - b) = omega arith in subst (λ q. p q ≡ true) k (ap is_none clear) in
    subst (λ m. count_by p (range_with_len b (at - b)) + 1 ≤ count_by p (range_with_len b m)) n (omega (arith, count_one_more p b (at - b) here))

-- an actor at a step on a surface with these records, legal so far
module _ {wish : Wish} (first : Size) (id : ℕ) (records : List PlainRecord) (floor number : ℕ) (steps : List PlainStep) (actor : ActorNow) (step : PlainStep) (rest : List PlainStep)
    (of : GoesThrough steps actor) (left : actor.left ≡ step ∷ rest) (h : IsLegalSoFar wish first id records floor number steps actor) where
  -- what was tried so far
  pub tried_so_far : step.surface ≡ id → (looked : Option ℕ) → actor.looked ≡ looked → HasTried wish first id records floor actor step.act looked
  tried_so_far on looked e =
      let under : IsUnderWay wish first id records floor actor (step ∷ rest) = subst (IsUnderWay wish first id records floor actor) left h.under_way in
      subst (HasTried wish first id records floor actor step.act) e (under (eq-eqb step.surface id on))

  -- a hold
  pub legal_held : (reached : ℕ) → IsLegalSoFar wish first id records reached number steps (answered id (Held (length records)) actor)
  legal_held reached =
      legal_answered first id records number steps actor step rest of left h.answers records reached (Held (length records)) (begins_self records)
      (λ entries m. omega arith) (omega arith) (good_held first id records number steps actor step h.answers)

  -- a mount that found nothing new
  pub legal_empty : (reached base : ℕ) → mountable_of records ≡ base → number_mounted id actor.answers ≡ base
      → IsLegalSoFar wish first id records reached number steps (answered id (Empty base) actor)
  legal_empty reached base is mounted =
      legal_answered first id records number steps actor step rest of left h.answers records reached (Empty base) (begins_self records)
      (λ entries m. (look_mountable first id records number steps actor step h.answers base is entries m).1) h.answers.holds
      (good_empty first id records number steps actor step h.answers base is mounted)

  -- a mount that found something new
  pub legal_mounted : (reached base : ℕ) → IsLegalSoFar wish first id records reached number steps (answered id (Mounted base (mountable_of records)) actor)
  legal_mounted reached base =
      legal_answered first id records number steps actor step rest of left h.answers records reached (Mounted base (mountable_of records)) (begins_self records)
      (λ entries m. (look_mountable first id records number steps actor step h.answers (mountable_of records) refl entries m).1) h.answers.holds
      (good_mounted first id records number steps actor step h.answers base)

  -- a look that finds a cause
  pub legal_cancelled : (reached : ℕ) (op : PlainOp) (cause : Cancel) → step.surface ≡ id → step.act ≡ commit op → floor ≤ length records → actor.looked ≡ None
      → cancel_of first (wish records (number_held id actor.answers) op) records (number_held id actor.answers) ≡ Some cause
      → IsLegalSoFar wish first id records reached number steps (answered id (Cancelled (length records) (actor.tries + 1) cause) actor)
  legal_cancelled reached op cause on act fresh looked is =
      legal_answered first id records number steps actor step rest of left h.answers records reached (Cancelled (length records) (actor.tries + 1) cause) (begins_self records)
      (λ entries m. omega arith) h.answers.holds
      (good_cancelled first id records number steps actor step h.answers op cause floor act fresh (tried_so_far on None looked) is)

  -- a look that finds none
  pub legal_looked : (reached : ℕ) (op : PlainOp) → step.surface ≡ id → step.act ≡ commit op → floor ≤ length records → actor.looked ≡ None
      → cancel_of first (wish records (number_held id actor.answers) op) records (number_held id actor.answers) ≡ None
      → IsLegalSoFar wish first id records reached number steps (trying (actor.tries + 1) (Some (length records)) actor)
  legal_looked reached op on act fresh looked is =
      let tried = tried_so_far on None looked in
      legal_trying first id records number steps actor step rest of left h.answers reached (actor.tries + 1) (Some (length records)) (λ e. record {
        tried = omega arith;
        within = omega arith;
        after = h.answers.point;
        room = λ entries m. omega (
          arith,
          tried entries m,
          room_grows wish first id entries actor.answers step.act (min floor (length records + 1)) (length records) (omega (arith, fresh)),
        );
        clear = λ entries m.
            ap (λ a. cancel_for_act wish first entries (number_held id actor.answers) a (length records)) act
            ∙ ap (λ l. cancel_of first (wish l (number_held id actor.answers) op) l (number_held id actor.answers)) m.same ∙ is;
      })

  -- what an offer looked at, at the end of the records
  pub looked_at_end : (at : ℕ) → step.surface ≡ id → actor.looked ≡ Some at → at ≡ length records → HasLookedAt wish first id records actor step.act (length records)
  looked_at_end at on looked e = subst (HasLookedAt wish first id records actor step.act) e (tried_so_far on (Some at) looked)

  -- an offer that is admitted: the record has the actor's name
  pub legal_admitted : (reached at : ℕ) (entry : PlainRecord) → entry.actor ≡ number → entry.call ≡ length actor.answers → step.surface ≡ id → actor.looked ≡ Some at → at ≡ length records
      → IsLegalSoFar wish first id (records ++ entry ∷ []) reached number steps (answered id (Admitted (length records + 1) actor.tries) actor)
  legal_admitted reached at entry by call on looked e =
      let grown : List PlainRecord = records ++ entry ∷ [] in
      let long : length records + 1 ≡ length grown = omega (arith, length-append records (entry ∷ [])) in
      legal_answered first id records number steps actor step rest of left h.answers grown reached (Admitted (length records + 1) actor.tries) (begins_before records (entry ∷ []))
      (λ entries m. omega (arith, long)) (omega (arith, long))
      (good_admitted first id records number steps actor step h.answers entry (λ i. record { actor = by i; call = call i }) (looked_at_end at on looked e))

  -- an offer that comes too late: something above what it looked at was reached
  pub legal_late : (reached at : ℕ) → step.surface ≡ id → actor.looked ≡ Some at → at < reached
      → IsLegalSoFar wish first id records reached number steps (trying actor.tries None actor)
  legal_late reached at on looked above =
      let tried = tried_so_far on (Some at) looked in
      let low : at + 1 ≤ min reached (length records + 1) = omega (arith, above, tried.within) in
      legal_trying first id records number steps actor step rest of left h.answers reached actor.tries None (λ e entries m.
      omega (
        arith,
        tried.room entries m,
        room_one_more wish first id entries actor.answers step.act at (tried.after entries m) (tried.clear entries m),
        room_grows wish first id entries actor.answers step.act (at + 1) (min reached (length records + 1)) low,
      ))
