-- A turn keeps what a run keeps.
use Rattle.std.proofs.Common.{◌≡◌, ℕ, ◌+◌, ◌≤◌, Bool, true, false, if◌then◌else◌, List, length, nat_eq, count_by, slice_set, Option, Some, None, arith, refl, sym, subst}
use Rattle.std.proofs.lemmas.Bool.{eqb-true, eqb-false}
use Rattle.tree_revision.specs.Records.{PlainOp}
use Rattle.tree_revision.specs.Script.{PlainAct, commit, hold, mount, PlainStep, PlainActor, PlainScript}
use Rattle.tree_revision.specs.InRange.{IsActInRange}
use Rattle.tree_revision.specs.Sound.{mounts_on}
use Rattle.tree_revision.specs.Cancels.{cancel_of}
use Rattle.tree_revision.specs.Mountable.{mountable_of}
use Rattle.tree_revision.specs.declared.record.Cancel.{Cancel}
use Rattle.tree_revision.specs.declared.record.Answer.{Answer}
use Rattle.tree_revision.specs.declared.record.Answer.TheVariants.{Held, Admitted, Cancelled, Mounted, Empty}
use Rattle.run_report.specs.Points.{number_held}
use Rattle.run_report.specs.Legal.{IsAnswerTo}
use Rattle.run_report.specs.Machine.{SurfaceNow, ActorNow, Moment, answered, looked_with, after_commit, after_hooked_event, moment}
use Rattle.tree_revision.specs.Wishes.{Wish, KeepsRange}
use Rattle.run_report.specs.Shorthands.{trying, recorded, mounted_at}
use Rattle.run_report.specs.ActorLegal.{HasLookedAt}
use Rattle.run_report.proofs.Kept.{IsHookedSurface, IsActorOf}
use Rattle.run_report.proofs.Actors.{through_answered, through_trying}
use Rattle.run_report.proofs.ActorEvents.{tried_so_far}
use Rattle.run_report.proofs.Surfaces.{IsAtStep, own_actor, own_on, trying_kept, trying_elsewhere, elsewhere_kept}
use Rattle.run_report.proofs.Events.{hold_kept, empty_kept, cancelled_kept, looked_kept, late_kept, admitted_kept, mounted_kept}

-- an event keeps its surface, the other surfaces, and its actor
pub record IsEventKept (wish : Wish) (script : PlainScript) (actors : List ActorNow) (number : ℕ) (script_actor : PlainActor) (step : PlainStep) (now : SurfaceNow) (after : Moment) : Type 0 where
  pub id : after.surface.id ≡ now.id
  pub first : after.surface.first ≡ now.first
  pub here : IsHookedSurface wish script (slice_set actors number after.actor) after.surface
  pub elsewhere : (other : SurfaceNow) → IsHookedSurface wish script actors other → nat_eq step.surface other.id ≡ false → IsHookedSurface wish script (slice_set actors number after.actor) other
  pub actor : IsActorOf script_actor after.actor

module _ {wish : Wish} (script : PlainScript) (actors : List ActorNow) (number : ℕ) (script_actor : PlainActor) (actor : ActorNow) (step : PlainStep) (rest : List PlainStep)
    (t : IsAtStep script actors number script_actor actor step rest) (now : SurfaceNow) (h : IsHookedSurface wish script actors now) (on : step.surface ≡ now.id) where
  -- the actor is one of the script
  own : IsActorOf script_actor actor
  own = own_actor script actors number script_actor actor step rest t

  -- what it looked at
  looked_so_far : (at : ℕ) → actor.looked ≡ Some at → HasLookedAt wish now.first now.id now.records actor step.act at
  looked_so_far at looked =
      tried_so_far now.first now.id now.records (length now.records) number script_actor.steps actor step rest own.through t.left
      (own_on script actors number script_actor actor step rest t now h) on (Some at) looked

  -- an event that answers
  pub answer_kept : (answer : Answer) (surface : SurfaceNow) → surface.id ≡ now.id → surface.first ≡ now.first → IsAnswerTo step.act answer
      → IsHookedSurface wish script (slice_set actors number (answered now.id answer actor)) surface
      → IsEventKept wish script actors number script_actor step now (moment surface (answered now.id answer actor))
  answer_kept answer surface id first is here = record {
    id = id;
    first = first;
    here = here;
    elsewhere = λ other k off. elsewhere_kept script actors number script_actor actor step rest t other now.id answer k on off;
    actor = record { name = own.name; through = through_answered script_actor.steps actor step rest now.id answer own.through t.left (record { surface = sym on; answer = is }) };
  }

  -- an event of a try
  pub try_kept : (tries : ℕ) (looked : Option ℕ) → IsHookedSurface wish script (slice_set actors number (trying tries looked actor)) now
      → IsEventKept wish script actors number script_actor step now (moment now (trying tries looked actor))
  try_kept tries looked here = record {
    id = refl;
    first = refl;
    here = here;
    elsewhere = λ other k off. trying_kept script actors number script_actor actor step rest t other tries looked k
        (trying_elsewhere script actors number script_actor actor step rest t other tries looked k off);
    actor = record { name = own.name; through = through_trying script_actor.steps actor tries looked own.through };
  }

  -- a look
  pub look_by : (op : PlainOp) (cause : Option Cancel) → step.act ≡ commit op → actor.looked ≡ None
      → cancel_of now.first (wish now.records (number_held now.id actor.answers) op) now.records (number_held now.id actor.answers) ≡ cause
      → IsEventKept wish script actors number script_actor step now (moment now (looked_with cause now actor))
  look_by op None act looked is =
      try_kept (actor.tries + 1) (Some (length now.records)) (looked_kept script actors number script_actor actor step rest t now op h on act looked is)
  look_by op (Some cause) act looked is =
      answer_kept (Cancelled (length now.records) (actor.tries + 1) cause) now refl refl (subst (λ a. IsAnswerTo a (Cancelled (length now.records) (actor.tries + 1) cause)) (sym act) tt)
      (cancelled_kept script actors number script_actor actor step rest t now op cause h on act looked is)

  -- an offer
  pub offer_by : KeepsRange wish → (op : PlainOp) (at : ℕ) (is : Bool) → step.act ≡ commit op → IsActInRange step.act → actor.looked ≡ Some at → nat_eq at (length now.records) ≡ is
      → IsEventKept wish script actors number script_actor step now
      (if is
      then
      moment (recorded (record { actor = number; call = length actor.answers; held = number_held now.id actor.answers; op = wish now.records (number_held now.id actor.answers) op }) now)
      (answered now.id (Admitted (length now.records + 1) actor.tries) actor)
      else moment now (trying actor.tries None actor))
  offer_by keeps op at true act fits looked e =
      answer_kept (Admitted (length now.records + 1) actor.tries)
      (recorded (record { actor = number; call = length actor.answers; held = number_held now.id actor.answers; op = wish now.records (number_held now.id actor.answers) op }) now)
      refl refl (subst (λ a. IsAnswerTo a (Admitted (length now.records + 1) actor.tries)) (sym act) tt)
      (admitted_kept script actors number script_actor actor step rest t keeps now op at h act on (subst IsActInRange act fits) looked (eqb-true at (length now.records) e))
  offer_by keeps op at false act fits looked e =
      let tried = looked_so_far at looked in
      try_kept actor.tries None
      (late_kept script actors number script_actor actor step rest t now at h on looked (omega (arith, tried.within, eqb-false at (length now.records) e)))

  -- an event of a commit
  pub commit_by : KeepsRange wish → (op : PlainOp) (looked : Option ℕ) → step.act ≡ commit op → IsActInRange step.act → actor.looked ≡ looked
      → IsEventKept wish script actors number script_actor step now (after_commit number (wish now.records (number_held now.id actor.answers) op) looked now actor)
  commit_by keeps op None act fits looked =
      look_by op (cancel_of now.first (wish now.records (number_held now.id actor.answers) op) now.records (number_held now.id actor.answers)) act looked refl
  commit_by keeps op (Some at) act fits looked = offer_by keeps op at (nat_eq at (length now.records)) act fits looked refl

  -- a mount
  pub mount_by : (is : Bool) → step.act ≡ mount → count_by (mounts_on now.id) script.actors ≤ 1 → nat_eq (mountable_of now.records) now.base ≡ is
      → IsEventKept wish script actors number script_actor step now
      (if is then moment now (answered now.id (Empty now.base) actor)
      else moment (mounted_at (mountable_of now.records) now) (answered now.id (Mounted now.base (mountable_of now.records)) actor))
  mount_by true act one e =
      answer_kept (Empty now.base) now refl refl (subst (λ a. IsAnswerTo a (Empty now.base)) (sym act) tt)
      (empty_kept script actors number script_actor actor step rest t now h act on (eqb-true (mountable_of now.records) now.base e))
  mount_by false act one e =
      answer_kept (Mounted now.base (mountable_of now.records)) (mounted_at (mountable_of now.records) now) refl refl
      (subst (λ a. IsAnswerTo a (Mounted now.base (mountable_of now.records))) (sym act) tt)
      (mounted_kept script actors number script_actor actor step rest t now h one act on e)

  -- each event
  pub event_by : KeepsRange wish → (act : PlainAct) → step.act ≡ act → IsActInRange step.act → count_by (mounts_on now.id) script.actors ≤ 1
      → IsEventKept wish script actors number script_actor step now (after_hooked_event wish number act now actor)
  event_by keeps (commit op) e fits one = commit_by keeps op actor.looked e fits refl
  event_by keeps hold e fits one =
      answer_kept (Held (length now.records)) now refl refl (subst (λ a. IsAnswerTo a (Held (length now.records))) (sym e) tt)
      (hold_kept script actors number script_actor actor step rest t now h)
  event_by keeps mount e fits one = mount_by (nat_eq (mountable_of now.records) now.base) e one refl
