-- What one event names: its looks, and the record of an admitted commit.
use Rattle.std.proofs.Common.{◌≡◌, ℕ, ◌+◌, ◌-◌, ◌≤◌, Bool, true, false, cond, List, [], ◌∷◌, ◌++◌, length, take, drop, nat_eq, slice_get, Option, Some, None, arith, refl, ap, sym, ◌∙◌, subst, append-nil, eq-eqb, take-take}
use Rattle.std.specs.List.{AllByRecursion, flat_map, enumerate_from}
use Rattle.std.proofs.lemmas.List.Sums.{sum_by_push}
use Rattle.shadow_frame.specs.declared.Size.{Size}
use Rattle.tree_revision.specs.Records.{PlainOp, PlainRecord}
use Rattle.tree_revision.specs.Ports.{BeginsWith}
use Rattle.tree_revision.specs.Script.{PlainAct, commit, hold, mount, PlainStep}
use Rattle.tree_revision.specs.Cancels.{cancel_of}
use Rattle.tree_revision.specs.Mountable.{mountable_of}
use Rattle.tree_revision.specs.declared.record.Cancel.{Cancel}
use Rattle.tree_revision.specs.declared.record.Answer.{Answer}
use Rattle.tree_revision.specs.declared.record.Answer.TheVariants.{Held, Admitted, Cancelled, Mounted, Empty}
use Rattle.run_report.specs.declared.journal.StepName.{StepName}
use Rattle.run_report.specs.declared.journal.StepPart.{StepPart}
use Rattle.run_report.specs.Points.{look_point, point_before, number_held}
use Rattle.run_report.specs.Mounts.{passage_of, passages_by}
use Rattle.run_report.specs.Shorthands.{later, trying, recorded, mounted_at}
use Rattle.tree_revision.specs.Wishes.{Wish}
use Rattle.run_report.specs.Legal.{TakenStep}
use Rattle.run_report.specs.Machine.{SurfaceNow, ActorNow, Moment, moment, answered, looked_with, after_commit, after_hooked_event}
use Rattle.run_report.specs.ActorLegal.{taken_by, GoesThrough, looks_of, looks_named, tries_of, looks_under_way, looks_so_far, looks_at, IsLegalStep, AreLegalAnswers, record_named, admitted_records, NamesItsEvent, NamesTheSame}
use Rattle.run_report.proofs.Begins.{begins_self}
use Rattle.run_report.proofs.Looks.{number_held-other, taken_step}
use Rattle.run_report.proofs.AdmittedRecords.{admitted_records-push, named_next}
use Rattle.run_report.proofs.Passages.{passages_by-push}
use Rattle.run_report.proofs.EventLegal.{first_left}

-- a step that has not begun has not looked
none_under_way : (id : ℕ) (left : List PlainStep) → looks_under_way id left 0 ≡ 0
none_under_way id [] = refl
none_under_way id (step ∷ left) = go (nat_eq step.surface id) step.act
  where
    go : (on : Bool) (act : PlainAct) → cond on (tries_of act 0) 0 ≡ 0
    go false act = refl
    go true (commit op) = refl
    go true hold = refl
    go true mount = refl

-- nothing comes after the whole
drop_all : (records : List PlainRecord) → drop (length records) records ≡ []
drop_all [] = refl
drop_all (entry ∷ records) = drop_all records

-- after some records come the others
drop_first : (records more : List PlainRecord) → drop (length records) (records ++ more) ≡ more
drop_first [] more = refl
drop_first (entry ∷ records) more = drop_first records more

-- an event of an actor at a step on that surface
module _ (wish : Wish) (number : ℕ) (steps : List PlainStep) (step : PlainStep) (surface : SurfaceNow) (actor : ActorNow)
    (through : GoesThrough steps actor) (at : slice_get actor.left 0 ≡ Some step) (on : step.surface ≡ surface.id) where
  rest : List PlainStep
  rest = (first_left actor.left step at).0

  left : actor.left ≡ step ∷ rest
  unfolding rest
  left = (first_left actor.left step at).1

  -- how often the step at hand has looked
  under_way : looks_under_way surface.id actor.left actor.tries ≡ tries_of step.act actor.tries
  under_way = ap (λ l. looks_under_way surface.id l actor.tries) left ∙ ap (λ b. cond b (tries_of step.act actor.tries) 0) (eq-eqb step.surface surface.id on)

  -- an answer's looks
  answer_looks : (answer : Answer) (more : ℕ) → looks_of answer ≡ tries_of step.act actor.tries + more
      → looks_so_far surface.id (answered surface.id answer actor) ≡ looks_so_far surface.id actor + more
  answer_looks answer more is =
      let f = λ (part : StepPart). cond (nat_eq part.surface surface.id) (looks_of part.answer) 0 in
      let part : StepPart = record { surface = surface.id; answer = answer } in
      let new : looks_named surface.id (actor.answers ++ part ∷ []) ≡ looks_named surface.id actor.answers + looks_of answer =
      sum_by_push f actor.answers part ∙ ap (λ b. looks_named surface.id actor.answers + cond b (looks_of answer) 0) (eq-eqb surface.id surface.id refl) in
      omega (arith, new, under_way, is, none_under_way surface.id (later actor.left))

  -- an answer that admits nothing names no record
  quiet_records : (entries : List PlainRecord) (answer : Answer) → record_named wish surface.id entries (taken_step number actor.answers step answer) step.act answer ≡ []
      → admitted_records wish surface.id entries number steps (answered surface.id answer actor).answers ≡ admitted_records wish surface.id entries number steps actor.answers ++ []
  quiet_records entries answer quiet =
      admitted_records-push wish surface.id entries number steps actor step rest (record { surface = surface.id; answer = answer }) through left
      ∙ ap (λ l. admitted_records wish surface.id entries number steps actor.answers ++ l)
      (ap (λ b. cond b (record_named wish surface.id entries (taken_step number actor.answers step answer) step.act answer) []) (eq-eqb step.surface surface.id on) ∙ quiet)

  -- where no record was added, none is numbered
  nothing_new : enumerate_from (length surface.records + 1) (drop (length surface.records) surface.records) ≡ []
  nothing_new = ap (enumerate_from (length surface.records + 1)) (drop_all surface.records)

  -- an answer that admits nothing
  answer_names_event : (answer : Answer) (now : SurfaceNow) → now.records ≡ surface.records → looks_of answer ≡ tries_of step.act actor.tries + looks_at step.act actor.looked
      → record_named wish surface.id now.records (taken_step number actor.answers step answer) step.act answer ≡ []
      → NamesItsEvent wish number steps step surface actor (moment now (answered surface.id answer actor))
  answer_names_event answer now same is quiet = record {
    looks = answer_looks answer (looks_at step.act actor.looked) is;
    records =
        quiet_records now.records answer quiet
        ∙ ap (λ l. admitted_records wish surface.id now.records number steps actor.answers ++ l)
        (sym (ap (λ l. enumerate_from (length surface.records + 1) (drop (length surface.records) l)) same ∙ nothing_new));
  }

  -- a try
  try_names_event : (tries : ℕ) (looked : Option ℕ) (op : PlainOp) → step.act ≡ commit op → tries ≡ actor.tries + looks_at step.act actor.looked
      → NamesItsEvent wish number steps step surface actor (moment surface (trying tries looked actor))
  try_names_event tries looked op act is =
      let now : looks_under_way surface.id actor.left tries ≡ tries =
      ap (λ l. looks_under_way surface.id l tries) left ∙ ap (λ b. cond b (tries_of step.act tries) 0) (eq-eqb step.surface surface.id on) ∙ ap (λ a. tries_of a tries) act in
      let was : looks_under_way surface.id actor.left actor.tries ≡ actor.tries = under_way ∙ ap (λ a. tries_of a actor.tries) act in
      record {
        looks = omega (arith, now, was, is);
        records =
            sym (append-nil (admitted_records wish surface.id surface.records number steps actor.answers))
            ∙ ap (λ l. admitted_records wish surface.id surface.records number steps actor.answers ++ l) (sym nothing_new);
      }

  -- a look
  look_names_event : (op : PlainOp) (cause : Option Cancel) → step.act ≡ commit op → actor.looked ≡ None
      → NamesItsEvent wish number steps step surface actor (moment surface (looked_with cause surface actor))
  look_names_event op None act looked =
      try_names_event (actor.tries + 1) (Some (length surface.records)) op act (ap (λ n. actor.tries + n) (sym (ap (λ a. looks_at a actor.looked) act ∙ ap (looks_at (commit op)) looked)))
  look_names_event op (Some cause) act looked =
      answer_names_event (Cancelled (length surface.records) (actor.tries + 1) cause) surface refl
      (ap (λ a. tries_of a actor.tries + 1) (sym act) ∙ ap (λ n. tries_of step.act actor.tries + n) (sym (ap (λ a. looks_at a actor.looked) act ∙ ap (looks_at (commit op)) looked)))
      (ap (λ a. record_named wish surface.id surface.records (taken_step number actor.answers step (Cancelled (length surface.records) (actor.tries + 1) cause)) a
      (Cancelled (length surface.records) (actor.tries + 1) cause)) act)

  -- an offer
  offer_names_event : (op : PlainOp) (seen : ℕ) (is : Bool) → step.act ≡ commit op → actor.looked ≡ Some seen
      → NamesItsEvent wish number steps step surface actor (cond is
      (moment (recorded (record { actor = number; call = length actor.answers; held = number_held surface.id actor.answers; op = wish surface.records (number_held surface.id actor.answers) op }) surface)
      (answered surface.id (Admitted (length surface.records + 1) actor.tries) actor))
      (moment surface (trying actor.tries None actor)))
  offer_names_event op seen true act looked =
      let entry : PlainRecord =
      record { actor = number; call = length actor.answers; held = number_held surface.id actor.answers; op = wish surface.records (number_held surface.id actor.answers) op } in
      let grown : List PlainRecord = surface.records ++ entry ∷ [] in
      let none : looks_at step.act actor.looked ≡ 0 = ap (λ a. looks_at a actor.looked) act ∙ ap (looks_at (commit op)) looked in
      let tried : tries_of step.act actor.tries ≡ actor.tries = ap (λ a. tries_of a actor.tries) act in
      record {
        looks = answer_looks (Admitted (length surface.records + 1) actor.tries) (looks_at step.act actor.looked) (omega (arith, none, tried));
        records =
            named_next wish surface.id surface.records number steps actor step rest op actor.tries entry refl through left act (eq-eqb step.surface surface.id on) grown (begins_self grown)
            ∙ ap (λ l. admitted_records wish surface.id grown number steps actor.answers ++ l)
            (sym (ap (enumerate_from (length surface.records + 1)) (drop_first surface.records (entry ∷ []))));
      }
  offer_names_event op seen false act looked =
      let none : looks_at step.act actor.looked ≡ 0 = ap (λ a. looks_at a actor.looked) act ∙ ap (looks_at (commit op)) looked in
      try_names_event actor.tries None op act (omega (arith, none))

  -- an event of a step that is no commit
  plain_looks : step.act ≡ hold → 1 ≡ tries_of step.act actor.tries + looks_at step.act actor.looked
  plain_looks e = sym (ap (λ a. tries_of a actor.tries + looks_at a actor.looked) e)

  mount_looks : step.act ≡ mount → 1 ≡ tries_of step.act actor.tries + looks_at step.act actor.looked
  mount_looks e = sym (ap (λ a. tries_of a actor.tries + looks_at a actor.looked) e)

  -- each event
  pub event_names : (act : PlainAct) → step.act ≡ act → NamesItsEvent wish number steps step surface actor (after_hooked_event wish number act surface actor)
  event_names (commit op) e = by actor.looked refl
    where
      by : (looked : Option ℕ) → actor.looked ≡ looked
          → NamesItsEvent wish number steps step surface actor (after_commit number (wish surface.records (number_held surface.id actor.answers) op) looked surface actor)
      by None looked =
          look_names_event op (cancel_of surface.first (wish surface.records (number_held surface.id actor.answers) op) surface.records (number_held surface.id actor.answers)) e looked
      by (Some seen) looked = offer_names_event op seen (nat_eq seen (length surface.records)) e looked
  event_names hold e =
      answer_names_event (Held (length surface.records)) surface refl (plain_looks e)
      (ap (λ a. record_named wish surface.id surface.records (taken_step number actor.answers step (Held (length surface.records))) a (Held (length surface.records))) e)
  event_names mount e = by (nat_eq (mountable_of surface.records) surface.base)
    where
      by : (is : Bool) → NamesItsEvent wish number steps step surface actor (cond is (moment surface (answered surface.id (Empty surface.base) actor))
          (moment (mounted_at (mountable_of surface.records) surface) (answered surface.id (Mounted surface.base (mountable_of surface.records)) actor)))
      by true =
          answer_names_event (Empty surface.base) surface refl (mount_looks e)
          (ap (λ a. record_named wish surface.id surface.records (taken_step number actor.answers step (Empty surface.base)) a (Empty surface.base)) e)
      by false =
          answer_names_event (Mounted surface.base (mountable_of surface.records)) (mounted_at (mountable_of surface.records) surface) refl (mount_looks e)
          (ap (λ a. record_named wish surface.id surface.records (taken_step number actor.answers step (Mounted surface.base (mountable_of surface.records))) a
          (Mounted surface.base (mountable_of surface.records))) e)

-- an event on another surface
module _ (wish : Wish) (id : ℕ) (entries : List PlainRecord) (number : ℕ) (steps : List PlainStep) (step : PlainStep) (surface : SurfaceNow) (actor : ActorNow)
    (through : GoesThrough steps actor) (at : slice_get actor.left 0 ≡ Some step) (on : step.surface ≡ surface.id) (off : nat_eq step.surface id ≡ false) where
  -- no looks of the step at hand count here
  nothing_under_way : (tries : ℕ) → looks_under_way id actor.left tries ≡ 0
  nothing_under_way tries = ap (λ l. looks_under_way id l tries) (first_left actor.left step at).1 ∙ ap (λ b. cond b (tries_of step.act tries) 0) off

  answer_same : (answer : Answer) → NamesTheSame wish id entries number steps actor (answered surface.id answer actor)
  answer_same answer =
      let left = first_left actor.left step at in
      let part : StepPart = record { surface = surface.id; answer = answer } in
      let name : StepName = record { actor = number; call = length actor.answers } in
      let away : nat_eq surface.id id ≡ false = subst (λ s. nat_eq s id ≡ false) on off in
      let looks : looks_named id (actor.answers ++ part ∷ []) ≡ looks_named id actor.answers =
      sum_by_push (λ part. cond (nat_eq part.surface id) (looks_of part.answer) 0) actor.answers part
      ∙ ap (λ b. looks_named id actor.answers + cond b (looks_of answer) 0) away ∙ omega arith in
      record {
        looks = omega (arith, looks, nothing_under_way actor.tries, none_under_way id (later actor.left));
        records =
            admitted_records-push wish id entries number steps actor step left.0 part through left.1
            ∙ ap (λ b. admitted_records wish id entries number steps actor.answers ++ cond b (record_named wish id entries (taken_step number actor.answers step answer) step.act answer) []) off
            ∙ append-nil (admitted_records wish id entries number steps actor.answers);
        passages =
            passages_by-push id number actor.answers part
            ∙ ap (λ b. passages_by id number actor.answers ++ cond b (passage_of name answer) []) away ∙ append-nil (passages_by id number actor.answers);
        held = number_held-other id actor.answers part away;
      }

  try_same : (tries : ℕ) (looked : Option ℕ) → NamesTheSame wish id entries number steps actor (trying tries looked actor)
  try_same tries looked = record {
    looks = omega (arith, nothing_under_way actor.tries, nothing_under_way tries);
    records = refl;
    passages = refl;
    held = refl;
  }

  look_same : (cause : Option Cancel) → NamesTheSame wish id entries number steps actor (looked_with cause surface actor)
  look_same None = try_same (actor.tries + 1) (Some (length surface.records))
  look_same (Some cause) = answer_same (Cancelled (length surface.records) (actor.tries + 1) cause)

  -- of two moments one
  either_same : (is : Bool) (a b : Moment) → NamesTheSame wish id entries number steps actor a.actor → NamesTheSame wish id entries number steps actor b.actor
      → NamesTheSame wish id entries number steps actor (cond is a b).actor
  either_same true a b p q = p
  either_same false a b p q = q

  commit_same : (op : PlainOp) (looked : Option ℕ) → NamesTheSame wish id entries number steps actor (after_commit number op looked surface actor).actor
  commit_same op None = look_same (cancel_of surface.first op surface.records (number_held surface.id actor.answers))
  commit_same op (Some seen) =
      either_same (nat_eq seen (length surface.records))
      (moment (recorded (record { actor = number; call = length actor.answers; held = number_held surface.id actor.answers; op = op }) surface)
      (answered surface.id (Admitted (length surface.records + 1) actor.tries) actor))
      (moment surface (trying actor.tries None actor)) (answer_same (Admitted (length surface.records + 1) actor.tries)) (try_same actor.tries None)

  pub event_same : (act : PlainAct) → NamesTheSame wish id entries number steps actor (after_hooked_event wish number act surface actor).actor
  event_same (commit op) = commit_same (wish surface.records (number_held surface.id actor.answers) op) actor.looked
  event_same hold = answer_same (Held (length surface.records))
  event_same mount =
      either_same (nat_eq (mountable_of surface.records) surface.base) (moment surface (answered surface.id (Empty surface.base) actor))
      (moment (mounted_at (mountable_of surface.records) surface) (answered surface.id (Mounted surface.base (mountable_of surface.records)) actor))
      (answer_same (Empty surface.base)) (answer_same (Mounted surface.base (mountable_of surface.records)))

-- a longer history leaves what legal answers name
module _ (wish : Wish) (first : Size) (id : ℕ) (records longer : List PlainRecord) (grows : BeginsWith longer records) where
  -- the first of the records
  same_first : (n : ℕ) → n ≤ length records → take n longer ≡ take n records
  same_first n low = sym (take-take n (length records) longer low) ∙ ap (take n) grows.same

  record_same : (taken : TakenStep) (before : ℕ) (act : PlainAct) (answer : Answer) → look_point records before answer ≤ length records
      → record_named wish id longer taken act answer ≡ record_named wish id records taken act answer
  record_same taken before (commit op) (Held at) low = refl
  record_same taken before (commit op) (Admitted at tries) low =
      let held : ℕ = number_held id taken.earlier in
      ap (λ l. (at, (record { actor = taken.name.actor; call = taken.name.call; held = held; op = wish l held op })) ∷ []) (same_first (at - 1) low)
  record_same taken before (commit op) (Cancelled at tries cause) low = refl
  record_same taken before (commit op) (Mounted base to) low = refl
  record_same taken before (commit op) (Empty at) low = refl
  record_same taken before hold answer low = refl
  record_same taken before mount answer low = refl

  each_same : (steps : List TakenStep) → AllByRecursion (IsLegalStep wish first id records) steps
      → flat_map (λ taken. record_named wish id longer taken taken.step.act taken.answer) steps ≡ flat_map (λ taken. record_named wish id records taken taken.step.act taken.answer) steps
  each_same [] h = refl
  each_same (taken ∷ steps) h = λ i.
      record_same taken (point_before id records taken.earlier) taken.step.act taken.answer h.0.looks.within i ++ each_same steps h.1 i

  pub records_over_more : (number : ℕ) (steps : List PlainStep) (answers : List StepPart) → AreLegalAnswers wish first id records number steps answers
      → admitted_records wish id longer number steps answers ≡ admitted_records wish id records number steps answers
  records_over_more number steps answers h = each_same (taken_by number steps answers id) (h.taken records (begins_self records))
