-- What an actor keeps on a surface, after one more answer or try of its own, and where the history grows.
use Rattle.std.proofs.Common.{◌≡◌, ℕ, ◌+◌, ◌≤◌, true, false, cond, Bool, List, [], ◌∷◌, ◌++◌, length, min, nat_eq, Option, Some, None, arith, refl, ap, sym, ◌∙◌, subst, append_assoc}
use Rattle.std.specs.List.{AllByRecursion}
use Rattle.std.proofs.lemmas.Bool.{both_ways}
use Rattle.shadow_frame.specs.declared.Size.{Size}
use Rattle.tree_revision.specs.Records.{PlainRecord}
use Rattle.tree_revision.specs.Ports.{BeginsWith}
use Rattle.tree_revision.specs.Script.{PlainAct, PlainStep}
use Rattle.tree_revision.specs.declared.record.Answer.{Answer}
use Rattle.run_report.specs.declared.journal.StepPart.{StepPart}
use Rattle.run_report.specs.Points.{point_left, point_before, held_after, number_held}
use Rattle.run_report.specs.Legal.{Answers, TakenStep}
use Rattle.run_report.specs.Machine.{ActorNow, answered}
use Rattle.run_report.specs.Shorthands.{later, trying}
use Rattle.tree_revision.specs.Wishes.{Wish}
use Rattle.run_report.specs.ActorLegal.{taken_by, GoesThrough, IsLegalStep, AreLegalAnswers, HasTried, IsUnderWay, IsLegalSoFar}
use Rattle.run_report.proofs.Lists.{all_append}
use Rattle.run_report.proofs.Pairs.{all_zip_push}
use Rattle.run_report.proofs.Begins.{begins_both}
use Rattle.run_report.proofs.Looks.{point_before-push, point_before-other, number_held-push, number_held-other, taken_step, taken_by-push}
use Rattle.run_report.proofs.Good.{room_grows}

-- an actor that has answered one more step goes on through its steps
pub through_answered : (steps : List PlainStep) (actor : ActorNow) (step : PlainStep) (rest : List PlainStep) (surface : ℕ) (answer : Answer)
    → GoesThrough steps actor → actor.left ≡ step ∷ rest → Answers step (record { surface = surface; answer = answer })
    → GoesThrough steps (answered surface answer actor)
through_answered steps actor step rest surface answer of left is = record {
  done = of.done ++ step ∷ [];
  whole = of.whole ∙ ap (λ l. of.done ++ l) left ∙ sym (append_assoc of.done (step ∷ []) rest) ∙ ap (λ l. (of.done ++ step ∷ []) ++ l) (sym (ap later left));
  answers = all_zip_push Answers of.done actor.answers step (record { surface = surface; answer = answer }) of.answers is;
}

-- an actor that tries has the same answers and steps
pub through_trying : (steps : List PlainStep) (actor : ActorNow) (tries : ℕ) (looked : Option ℕ) → GoesThrough steps actor → GoesThrough steps (trying tries looked actor)
through_trying steps actor tries looked of = record { done = of.done; whole = of.whole; answers = of.answers }

-- what holds of one thing where a test says so
one_where : {A : Type 0} (P : A → Type 0) (b : Bool) (x : A) → (b ≡ true → P x) → AllByRecursion P (cond b (x ∷ []) [])
one_where P true x h = (h refl, tt)
one_where P false x h = tt

-- one more step that was taken, where it is on the surface
pub taken_more : (P : TakenStep → Type 0) (id number : ℕ) (steps : List PlainStep) (actor : ActorNow) (step : PlainStep) (rest : List PlainStep) (part : StepPart)
    → GoesThrough steps actor → actor.left ≡ step ∷ rest
    → AllByRecursion P (taken_by number steps actor.answers id) → (nat_eq step.surface id ≡ true → P (taken_step number actor.answers step part.answer))
    → AllByRecursion P (taken_by number steps (actor.answers ++ part ∷ []) id)
taken_more P id number steps actor step rest part of left all own =
    let taken : TakenStep = taken_step number actor.answers step part.answer in
    subst (AllByRecursion P) (sym (taken_by-push number steps actor step rest part id of left))
    (all_append P (taken_by number steps actor.answers id) (cond (nat_eq step.surface id) (taken ∷ []) []) all (one_where P (nat_eq step.surface id) taken own))

-- the history grows, and with it what was reached
module _ (wish : Wish) (first : Size) (id : ℕ) (records longer : List PlainRecord) (grows : BeginsWith longer records) where
  -- what was tried stays
  tried_over_more : (floor reached : ℕ) (actor : ActorNow) (act : PlainAct) (looked : Option ℕ) → floor ≤ reached
      → HasTried wish first id records floor actor act looked → HasTried wish first id longer reached actor act looked
  tried_over_more floor reached actor act None up h =
      λ entries m. omega (
        arith,
        h entries (begins_both entries longer records m grows),
        room_grows wish first id entries actor.answers act (min floor (length records + 1)) (min reached (length longer + 1)) (omega (arith, up, grows.within)),
      )
  tried_over_more floor reached actor act (Some at) up h = record {
    tried = h.tried;
    within = omega (arith, h.within, grows.within);
    after = λ entries m. h.after entries (begins_both entries longer records m grows);
    room = λ entries m. h.room entries (begins_both entries longer records m grows);
    clear = λ entries m. h.clear entries (begins_both entries longer records m grows);
  }

  -- so does the step that is under way
  under_way_over_more : (floor reached : ℕ) (actor : ActorNow) (left : List PlainStep) → floor ≤ reached
      → IsUnderWay wish first id records floor actor left → IsUnderWay wish first id longer reached actor left
  under_way_over_more floor reached actor [] up h = tt
  under_way_over_more floor reached actor (step ∷ steps) up h = λ on. tried_over_more floor reached actor step.act actor.looked up (h on)

-- and answers stay legal
module _ {wish : Wish} (first : Size) (id : ℕ) (records longer : List PlainRecord) (grows : BeginsWith longer records) where
  -- answers
  pub answers_over_more : (number : ℕ) (steps : List PlainStep) (answers : List StepPart)
      → AreLegalAnswers wish first id records number steps answers → AreLegalAnswers wish first id longer number steps answers
  answers_over_more number steps answers h = record {
    taken = λ entries m. h.taken entries (begins_both entries longer records m grows);
    point = λ entries m. omega (arith, h.point entries (begins_both entries longer records m grows), grows.within);
    holds = omega (arith, h.holds, grows.within);
  }

  -- so an actor stays legal
  pub legal_over_more : (floor reached number : ℕ) (steps : List PlainStep) (actor : ActorNow) → floor ≤ reached
      → IsLegalSoFar wish first id records floor number steps actor → IsLegalSoFar wish first id longer reached number steps actor
  legal_over_more floor reached number steps actor up h = record {
    answers = answers_over_more number steps actor.answers h.answers;
    under_way = under_way_over_more wish first id records longer grows floor reached actor actor.left up h.under_way;
  }

-- a step that has not begun
pub under_way_fresh : (wish : Wish) (first : Size) (id : ℕ) (records : List PlainRecord) (floor : ℕ) (actor : ActorNow) (left : List PlainStep)
    → actor.tries ≡ 0 → actor.looked ≡ None → IsUnderWay wish first id records floor actor left
under_way_fresh wish first id records floor actor [] none fresh = tt
under_way_fresh wish first id records floor actor (step ∷ steps) none fresh =
    λ on. subst (HasTried wish first id records floor actor step.act) (sym fresh) (λ entries m. omega (arith, none))

-- an actor at a step
module _ {wish : Wish} (first : Size) (id : ℕ) (records : List PlainRecord) (number : ℕ) (steps : List PlainStep) (actor : ActorNow) (step : PlainStep) (rest : List PlainStep)
    (of : GoesThrough steps actor) (left : actor.left ≡ step ∷ rest) (h : AreLegalAnswers wish first id records number steps actor.answers) where
  -- while it tries it stays legal
  pub legal_trying : (floor tries : ℕ) (looked : Option ℕ)
      → (nat_eq step.surface id ≡ true → HasTried wish first id records floor (trying tries looked actor) step.act looked)
      → IsLegalSoFar wish first id records floor number steps (trying tries looked actor)
  legal_trying floor tries looked tried = record {
    answers = h;
    under_way = subst (λ l. IsUnderWay wish first id records floor (trying tries looked actor) l) (sym left) tried;
  }

  -- an answer on another surface leaves it legal
  pub legal_elsewhere : (floor surface : ℕ) (answer : Answer) → step.surface ≡ surface → nat_eq step.surface id ≡ false
      → IsLegalSoFar wish first id records floor number steps (answered surface answer actor)
  legal_elsewhere floor surface answer on off =
      let part : StepPart = record { surface = surface; answer = answer } in
      let away : nat_eq surface id ≡ false = subst (λ s. nat_eq s id ≡ false) on off in
      record {
        answers = record {
          taken = λ entries m. taken_more (IsLegalStep wish first id entries) id number steps actor step rest part of left (h.taken entries m)
              (λ t. absurd (both_ways (nat_eq step.surface id) off t));
          point = λ entries m. subst (λ n. n ≤ length records) (sym (point_before-other id entries actor.answers part away)) (h.point entries m);
          holds = subst (λ n. n ≤ length records) (sym (number_held-other id actor.answers part away)) h.holds;
        };
        under_way = under_way_fresh wish first id records floor (answered surface answer actor) (later actor.left) refl refl;
      }

  -- an answer on the surface, whose history may have grown, leaves it legal where the step is
  pub legal_answered : (grown : List PlainRecord) (floor : ℕ) (answer : Answer) → BeginsWith grown records
      → ((entries : List PlainRecord) → BeginsWith entries grown → point_left entries (point_before id entries actor.answers) answer ≤ length grown)
      → held_after answer (number_held id actor.answers) ≤ length grown
      → ((entries : List PlainRecord) → BeginsWith entries grown → IsLegalStep wish first id entries (taken_step number actor.answers step answer))
      → IsLegalSoFar wish first id grown floor number steps (answered id answer actor)
  legal_answered grown floor answer grow point holds good =
      let part : StepPart = record { surface = id; answer = answer } in
      record {
        answers = record {
          taken = λ entries m. taken_more (IsLegalStep wish first id entries) id number steps actor step rest part of left
              (h.taken entries (begins_both entries grown records m grow)) (λ t. good entries m);
          point = λ entries m. subst (λ n. n ≤ length grown) (sym (point_before-push id entries actor.answers part refl)) (point entries m);
          holds = subst (λ n. n ≤ length grown) (sym (number_held-push id actor.answers part refl)) holds;
        };
        under_way = under_way_fresh wish first id grown floor (answered id answer actor) (later actor.left) refl refl;
      }
