-- Each event ends a step as is promised.
use Rattle.std.proofs.Common.{◌≡◌, ℕ, ◌+◌, ◌-◌, ◌≤◌, List, [], ◌∷◌, ◌++◌, length, option_map, Some, None, arith, refl, ap, sym, ◌∙◌, subst, append_assoc, min, is_none}
use Rattle.run_report.specs.declared.journal.StepPart.{StepPart}
use Rattle.shadow_frame.specs.declared.Size.{Size}
use Rattle.tree_revision.specs.Records.{PlainOp, PlainRecord}
use Rattle.tree_revision.specs.Ports.{BeginsWith}
use Rattle.tree_revision.specs.Script.{PlainAct, commit, PlainStep}
use Rattle.tree_revision.specs.Cancels.{cancel_of}
use Rattle.tree_revision.specs.Mountable.{mountable_of}
use Rattle.tree_revision.specs.declared.record.Cancel.{Cancel}
use Rattle.tree_revision.specs.declared.record.Answer.TheVariants.{Held, Admitted, Cancelled, Mounted, Empty}
use Rattle.run_report.specs.Points.{first_mountable, point_before, number_held}
use Rattle.run_report.specs.Shorthands.{number_mounted}
use Rattle.run_report.specs.Legal.{cancel_for_act, name_of, record_at}
use Rattle.run_report.specs.Machine.{ActorNow}
use Rattle.tree_revision.specs.Wishes.{Wish}
use Rattle.run_report.specs.ActorLegal.{room_up_to, IsLegalStep, AreLegalAnswers, HasLookedAt, HasTried}
use Rattle.run_report.proofs.Lists.{count_grows}
use Rattle.run_report.proofs.Begins.{begins_push, begins_more}
use Rattle.run_report.proofs.Looks.{first_mountable-within, record_at-next, taken_step}

-- there is no less room up to a greater number
pub room_grows : (wish : Wish) (first : Size) (id : ℕ) (entries : List PlainRecord) (earlier : List StepPart) (act : PlainAct) (m n : ℕ) → m ≤ n
    → room_up_to wish first id entries earlier act m ≤ room_up_to wish first id entries earlier act n
room_grows wish first id entries earlier act m n h =
    count_grows (λ q. is_none (cancel_for_act wish first entries (number_held id earlier) act q)) (point_before id entries earlier)
    (m - point_before id entries earlier) (n - point_before id entries earlier) (omega arith)

-- an actor on a surface with these records, before the answer
module _ {wish : Wish} (first : Size) (id : ℕ) (records : List PlainRecord) (number : ℕ) (steps : List PlainStep) (actor : ActorNow) (step : PlainStep)
    (h : AreLegalAnswers wish first id records number steps actor.answers) where
  -- a hold
  pub good_held : (entries : List PlainRecord) → BeginsWith entries records → IsLegalStep wish first id entries (taken_step number actor.answers step (Held (length records)))
  good_held entries m = record {
    own_record = tt;
    cause = tt;
    looks = record { after = h.point entries m; within = m.within };
    empty = tt;
    room = tt;
  }

  -- a look at what may be mounted
  pub look_mountable : (to : ℕ) → mountable_of records ≡ to → (entries : List PlainRecord) → BeginsWith entries records
      → (point_before id entries actor.answers ≤ first_mountable entries (point_before id entries actor.answers) to)
      × (first_mountable entries (point_before id entries actor.answers) to ≤ length records)
  look_mountable to is entries m =
      first_mountable-within entries (point_before id entries actor.answers) to (length records) (h.point entries m) (m.within)
      (ap mountable_of (m.same) ∙ is)

  -- a mount that found nothing new
  pub good_empty : (base : ℕ) → mountable_of records ≡ base → number_mounted id actor.answers ≡ base
      → (entries : List PlainRecord) → BeginsWith entries records → IsLegalStep wish first id entries (taken_step number actor.answers step (Empty base))
  good_empty base is own entries m =
      let look = look_mountable base is entries m in
      record {
        own_record = tt;
        cause = tt;
        looks = record { after = look.0; within = omega (arith, look.1, m.within) };
        empty = sym own;
        room = tt;
      }

  -- a mount that found something new
  pub good_mounted : (base : ℕ) → (entries : List PlainRecord) → BeginsWith entries records
      → IsLegalStep wish first id entries (taken_step number actor.answers step (Mounted base (mountable_of records)))
  good_mounted base entries m =
      let look = look_mountable (mountable_of records) refl entries m in
      record {
        own_record = tt;
        cause = tt;
        looks = record { after = look.0; within = omega (arith, look.1, m.within) };
        empty = tt;
        room = tt;
      }

  -- a commit that is cancelled
  pub good_cancelled : (op : PlainOp) (cause : Cancel) (floor : ℕ) → step.act ≡ commit op → floor ≤ length records → HasTried wish first id records floor actor step.act None
      → cancel_of first (wish records (number_held id actor.answers) op) records (number_held id actor.answers) ≡ Some cause
      → (entries : List PlainRecord) → BeginsWith entries records → IsLegalStep wish first id entries (taken_step number actor.answers step (Cancelled (length records) (actor.tries + 1) cause))
  good_cancelled op cause floor act fresh tried is entries m =
      let room = tried entries m in
      let grows = room_grows wish first id entries actor.answers step.act (min floor (length records + 1)) (length records) (omega (arith, fresh)) in
      record {
        own_record = tt;
        cause =
            ap (λ a. cancel_for_act wish first entries (number_held id actor.answers) a (length records)) act
            ∙ ap (λ l. cancel_of first (wish l (number_held id actor.answers) op) l (number_held id actor.answers)) (m.same) ∙ is;
        looks = record { after = h.point entries m; within = m.within };
        empty = tt;
        room = (omega arith, omega (arith, room, grows));
      }

  -- a commit that is admitted
  pub good_admitted : (entry : PlainRecord) → name_of entry ≡ (taken_step number actor.answers step (Held 0)).name
      → HasLookedAt wish first id records actor step.act (length records)
      → (entries : List PlainRecord) → BeginsWith entries (records ++ entry ∷ [])
      → IsLegalStep wish first id entries (taken_step number actor.answers step (Admitted (length records + 1) actor.tries))
  good_admitted entry name looked entries m =
      let old : BeginsWith entries records = begins_push entries records entry m in
      let more = begins_more entries (records ++ entry ∷ []) m in
      let n : length records ≡ length records + 1 - 1 = omega arith in
      let room : actor.tries ≤ room_up_to wish first id entries actor.answers step.act (length records + 1 - 1) + 1 =
      subst (λ k. actor.tries ≤ room_up_to wish first id entries actor.answers step.act k + 1) n (looked.room entries old) in
      record {
        own_record =
            ap (λ l. option_map name_of (record_at l (length records + 1))) (more.1 ∙ append_assoc records (entry ∷ []) more.0)
            ∙ ap (option_map name_of) (record_at-next records entry more.0) ∙ ap Some name;
        cause = tt;
        looks = record { after = omega (arith, h.point entries old); within = omega (arith, old.within) };
        empty = tt;
        room = (looked.tried, room);
      }
