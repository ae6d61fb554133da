-- One event keeps what its actor keeps on its surface, and on the others.
use Rattle.std.proofs.Common.{◌≡◌, ℕ, ◌+◌, ◌≤◌, ◌<◌, Bool, true, false, cond, List, [], ◌∷◌, ◌++◌, length, map, nat_eq, slice_get, Option, Some, None, arith, refl, ap, sym, ◌∙◌, subst, eq-eqb}
use Rattle.std.specs.List.{fold, flat_map, enumerate_from}
use Rattle.std.proofs.lemmas.Bool.{both_ways, eqb-true, eqb-false}
use Rattle.std.proofs.lemmas.Option.{none-some, same_Some}
use Rattle.std.proofs.lemmas.List.Sums.{fold-append}
use Rattle.shadow_frame.specs.declared.Size.{Size}
use Rattle.tree_revision.specs.Records.{PlainOp, PlainRecord}
use Rattle.tree_revision.specs.Script.{PlainAct, commit, hold, mount, PlainStep}
use Rattle.tree_revision.specs.Cancels.{cancel_of}
use Rattle.tree_revision.specs.Lawful.{IsLawful}
use Rattle.tree_revision.specs.Mountable.{mountable_of}
use Rattle.tree_revision.proofs.Mountable.{mountable_of-rises, mountable_of-within}
use Rattle.tree_revision.specs.declared.record.Cancel.{Cancel}
use Rattle.tree_revision.specs.declared.record.Answer.{Answer}
use Rattle.tree_revision.specs.declared.record.Answer.TheVariants.{Held, Admitted, Cancelled, Mounted, Empty}
use Rattle.host_views.specs.Registry.{registry_of}
use Rattle.tree_revision.specs.Ports.{BeginsWith}
use Rattle.run_report.specs.Journal.{PlainMount}
use Rattle.run_report.specs.declared.journal.StepName.{StepName}
use Rattle.run_report.specs.declared.journal.StepPart.{StepPart}
use Rattle.run_report.specs.Points.{number_held, mounted_after}
use Rattle.run_report.specs.Mounts.{Passage, passage_of, passages_by, last_to, mount_along}
use Rattle.run_report.specs.Shorthands.{number_mounted, passage, passage_on, trying, recorded, mounted_at}
use Rattle.tree_revision.specs.Wishes.{Wish}
use Rattle.run_report.specs.Legal.{IsAnswerTo, FollowOn}
use Rattle.run_report.specs.Machine.{SurfaceNow, ActorNow, Moment, moment, answered, looked_with, after_commit, after_hooked_event}
use Rattle.run_report.specs.ActorLegal.{GoesThrough, PassagesFollowOn, MountsFollow, IsLegalSoFar, MayTakeEvent, IsLegalAfter}
use Rattle.run_report.proofs.Actors.{through_answered, through_trying, legal_trying, legal_elsewhere}
use Rattle.run_report.proofs.ActorEvents.{tried_so_far, legal_held, legal_empty, legal_mounted, legal_cancelled, legal_looked, legal_admitted, legal_late}
use Rattle.run_report.proofs.Passages.{follow_on_push, last_to-push, passages_by-push, passages_by-quiet}
use Rattle.run_report.proofs.Followed.{mounts_over_more, mounts_follow, nothing_shown}
use Rattle.run_report.proofs.Begins.{begins_more}

-- the first step that is left, and those after it
pub first_left : (left : List PlainStep) (step : PlainStep) → slice_get left 0 ≡ Some step → (rest : List PlainStep) × (left ≡ step ∷ rest)
first_left [] step e = absurd (none-some step e)
first_left (s ∷ rest) step e = (rest, ap (λ s. s ∷ rest) (same_Some s step e))

-- what an answer leaves mounted is where its passage leads
mounted_by : (id : ℕ) (name : StepName) (part : StepPart) (base : ℕ)
    → cond (nat_eq part.surface id) (mounted_after part.answer base) base ≡ fold (λ number step. step.to) base (passage_on id name part)
mounted_by id name part base = go (nat_eq part.surface id) part.answer
  where
    go : (on : Bool) (answer : Answer) → cond on (mounted_after answer base) base ≡ fold (λ number step. step.to) base (cond on (passage_of name answer) [])
    go false answer = refl
    go true (Held at) = refl
    go true (Admitted number tries) = refl
    go true (Cancelled at tries cause) = refl
    go true (Mounted was to) = refl
    go true (Empty at) = refl

-- what answers leave mounted is where the last of their passages leads
pub mounted_is_last : (id number : ℕ) (answers : List StepPart) → number_mounted id answers ≡ last_to (passages_by id number answers)
mounted_is_last id number answers = go 0 0 answers
  where
    go : (n base : ℕ) (parts : List StepPart) → fold (λ base part. cond (nat_eq part.surface id) (mounted_after part.answer base) base) base parts
        ≡ fold (λ number step. step.to) base (flat_map (λ entry. passage_on id (record { actor = number; call = entry.0 }) entry.1) (enumerate_from n parts))
    go n base [] = refl
    go n base (part ∷ parts) =
        let name : StepName = record { actor = number; call = n } in
        let later : List Passage = flat_map (λ entry. passage_on id (record { actor = number; call = entry.0 }) entry.1) (enumerate_from (n + 1) parts) in
        ap (λ b. fold (λ base part. cond (nat_eq part.surface id) (mounted_after part.answer base) base) b parts) (mounted_by id name part base)
        ∙ go (n + 1) (fold (λ number step. step.to) base (passage_on id name part)) parts
        ∙ sym (fold-append (λ number step. step.to) base (passage_on id name part) later)

-- an event that may be taken
module _ {wish : Wish} (floor reached number : ℕ) (steps : List PlainStep) (step : PlainStep) (surface : SurfaceNow) (actor : ActorNow)
    (m : MayTakeEvent wish floor number steps step surface actor) where
  rest : List PlainStep
  rest = (first_left actor.left step m.at).0

  left : actor.left ≡ step ∷ rest
  unfolding rest
  left = (first_left actor.left step m.at).1

  -- an event that answers
  answer_legal : (answer : Answer) (now : SurfaceNow) → IsAnswerTo step.act answer
      → IsLegalSoFar wish now.first now.id now.records reached number steps (answered surface.id answer actor)
      → IsLegalAfter wish reached number steps (moment now (answered surface.id answer actor))
  answer_legal answer now is legal = record {
    through = through_answered steps actor step rest surface.id answer m.through left (record { surface = sym m.on; answer = is });
    legal = legal;
  }

  -- an event of a try
  try_legal : (tries : ℕ) (looked : Option ℕ) → IsLegalSoFar wish surface.first surface.id surface.records reached number steps (trying tries looked actor)
      → IsLegalAfter wish reached number steps (moment surface (trying tries looked actor))
  try_legal tries looked legal = record { through = through_trying steps actor tries looked m.through; legal = legal }

  -- a look
  look_legal : (op : PlainOp) (cause : Option Cancel) → step.act ≡ commit op → actor.looked ≡ None
      → cancel_of surface.first (wish surface.records (number_held surface.id actor.answers) op) surface.records (number_held surface.id actor.answers) ≡ cause
      → IsLegalAfter wish reached number steps (moment surface (looked_with cause surface actor))
  look_legal op None act looked is =
      try_legal (actor.tries + 1) (Some (length surface.records))
      (legal_looked surface.first surface.id surface.records floor number steps actor step rest m.through left m.legal reached op m.on act (m.fresh looked) looked is)
  look_legal op (Some cause) act looked is =
      answer_legal (Cancelled (length surface.records) (actor.tries + 1) cause) surface
      (subst (λ a. IsAnswerTo a (Cancelled (length surface.records) (actor.tries + 1) cause)) (sym act) tt)
      (legal_cancelled surface.first surface.id surface.records floor number steps actor step rest m.through left m.legal reached op cause m.on act (m.fresh looked) looked is)

  -- an offer
  offer_legal : (op : PlainOp) (at : ℕ) (is : Bool) → length surface.records ≤ reached → step.act ≡ commit op → actor.looked ≡ Some at → nat_eq at (length surface.records) ≡ is
      → IsLegalAfter wish reached number steps (cond is
      (moment (recorded (record { actor = number; call = length actor.answers; held = number_held surface.id actor.answers; op = wish surface.records (number_held surface.id actor.answers) op }) surface)
      (answered surface.id (Admitted (length surface.records + 1) actor.tries) actor))
      (moment surface (trying actor.tries None actor)))
  offer_legal op at true up act looked e =
      let entry : PlainRecord =
      record { actor = number; call = length actor.answers; held = number_held surface.id actor.answers; op = wish surface.records (number_held surface.id actor.answers) op } in
      answer_legal (Admitted (length surface.records + 1) actor.tries) (recorded entry surface)
      (subst (λ a. IsAnswerTo a (Admitted (length surface.records + 1) actor.tries)) (sym act) tt)
      (legal_admitted surface.first surface.id surface.records floor number steps actor step rest m.through left m.legal reached at entry refl refl m.on looked
      (eqb-true at (length surface.records) e))
  offer_legal op at false up act looked e =
      let tried = tried_so_far surface.first surface.id surface.records floor number steps actor step rest m.through left m.legal m.on (Some at) looked in
      try_legal actor.tries None
      (legal_late surface.first surface.id surface.records floor number steps actor step rest m.through left m.legal reached at m.on looked
      (omega (arith, tried.within, eqb-false at (length surface.records) e, up)))

  -- a mount
  mount_legal : (is : Bool) → step.act ≡ mount → nat_eq (mountable_of surface.records) surface.base ≡ is
      → IsLegalAfter wish reached number steps (cond is (moment surface (answered surface.id (Empty surface.base) actor))
      (moment (mounted_at (mountable_of surface.records) surface) (answered surface.id (Mounted surface.base (mountable_of surface.records)) actor)))
  mount_legal true act e =
      answer_legal (Empty surface.base) surface (subst (λ a. IsAnswerTo a (Empty surface.base)) (sym act) tt)
      (legal_empty surface.first surface.id surface.records floor number steps actor step rest m.through left m.legal reached surface.base
      (eqb-true (mountable_of surface.records) surface.base e) (mounted_is_last surface.id number actor.answers ∙ sym (m.mounted act)))
  mount_legal false act e =
      answer_legal (Mounted surface.base (mountable_of surface.records)) (mounted_at (mountable_of surface.records) surface)
      (subst (λ a. IsAnswerTo a (Mounted surface.base (mountable_of surface.records))) (sym act) tt)
      (legal_mounted surface.first surface.id surface.records floor number steps actor step rest m.through left m.legal reached surface.base)

  -- each event
  pub event_legal : length surface.records ≤ reached → (act : PlainAct) → step.act ≡ act → IsLegalAfter wish reached number steps (after_hooked_event wish number act surface actor)
  event_legal up (commit op) e = commit_legal actor.looked refl
    where
      commit_legal : (looked : Option ℕ) → actor.looked ≡ looked
          → IsLegalAfter wish reached number steps (after_commit number (wish surface.records (number_held surface.id actor.answers) op) looked surface actor)
      commit_legal None looked =
          look_legal op (cancel_of surface.first (wish surface.records (number_held surface.id actor.answers) op) surface.records (number_held surface.id actor.answers)) e looked refl
      commit_legal (Some at) looked = offer_legal op at (nat_eq at (length surface.records)) up e looked refl
  event_legal up hold e =
      answer_legal (Held (length surface.records)) surface (subst (λ a. IsAnswerTo a (Held (length surface.records))) (sym e) tt)
      (legal_held surface.first surface.id surface.records floor number steps actor step rest m.through left m.legal reached)
  event_legal up mount e = mount_legal (nat_eq (mountable_of surface.records) surface.base) e refl

-- an offer that comes too late keeps its actor legal
pub late_offer_legal : (wish : Wish) (first : Size) (id : ℕ) (records : List PlainRecord) (floor reached number : ℕ) (steps : List PlainStep) (step : PlainStep) (actor : ActorNow) (at : ℕ)
    → GoesThrough steps actor → slice_get actor.left 0 ≡ Some step → step.surface ≡ id → actor.looked ≡ Some at → at < reached
    → IsLegalSoFar wish first id records floor number steps actor → IsLegalSoFar wish first id records reached number steps (trying actor.tries None actor)
late_offer_legal wish first id records floor reached number steps step actor at through there on looked above h =
    let left = first_left actor.left step there in
    legal_late first id records floor number steps actor step left.0 through left.1 h reached at on looked above

-- an event on another surface keeps its actor legal on this one
module _ {wish : Wish} (first : Size) (id : ℕ) (records : List PlainRecord) (floor number : ℕ) (steps : List PlainStep) (step : PlainStep) (surface : SurfaceNow) (actor : ActorNow)
    (through : GoesThrough steps actor) (at : slice_get actor.left 0 ≡ Some step) (on : step.surface ≡ surface.id) (off : nat_eq step.surface id ≡ false)
    (h : IsLegalSoFar wish first id records floor number steps actor) where
  answer_elsewhere : (answer : Answer) → IsLegalSoFar wish first id records floor number steps (answered surface.id answer actor)
  answer_elsewhere answer =
      let left = first_left actor.left step at in
      legal_elsewhere first id records number steps actor step left.0 through left.1 h.answers floor surface.id answer on off

  try_elsewhere : (tries : ℕ) (looked : Option ℕ) → IsLegalSoFar wish first id records floor number steps (trying tries looked actor)
  try_elsewhere tries looked =
      let left = first_left actor.left step at in
      legal_trying first id records number steps actor step left.0 through left.1 h.answers floor tries looked (λ e. absurd (both_ways (nat_eq step.surface id) off e))

  look_elsewhere : (cause : Option Cancel) → IsLegalSoFar wish first id records floor number steps (looked_with cause surface actor)
  look_elsewhere None = try_elsewhere (actor.tries + 1) (Some (length surface.records))
  look_elsewhere (Some cause) = answer_elsewhere (Cancelled (length surface.records) (actor.tries + 1) cause)

  -- of two moments one
  either_elsewhere : (is : Bool) (a b : Moment) → IsLegalSoFar wish first id records floor number steps a.actor → IsLegalSoFar wish first id records floor number steps b.actor
      → IsLegalSoFar wish first id records floor number steps (cond is a b).actor
  either_elsewhere true a b p q = p
  either_elsewhere false a b p q = q

  commit_elsewhere : (op : PlainOp) (looked : Option ℕ) → IsLegalSoFar wish first id records floor number steps (after_commit number op looked surface actor).actor
  commit_elsewhere op None = look_elsewhere (cancel_of surface.first op surface.records (number_held surface.id actor.answers))
  commit_elsewhere op (Some seen) =
      either_elsewhere (nat_eq seen (length surface.records))
      (moment (recorded (record { actor = number; call = length actor.answers; held = number_held surface.id actor.answers; op = op }) surface)
      (answered surface.id (Admitted (length surface.records + 1) actor.tries) actor))
      (moment surface (trying actor.tries None actor)) (answer_elsewhere (Admitted (length surface.records + 1) actor.tries)) (try_elsewhere actor.tries None)

  pub event_elsewhere : (act : PlainAct) → IsLegalSoFar wish first id records floor number steps (after_hooked_event wish number act surface actor).actor
  event_elsewhere (commit op) = commit_elsewhere (wish surface.records (number_held surface.id actor.answers) op) actor.looked
  event_elsewhere hold = answer_elsewhere (Held (length surface.records))
  event_elsewhere mount =
      either_elsewhere (nat_eq (mountable_of surface.records) surface.base) (moment surface (answered surface.id (Empty surface.base) actor))
      (moment (mounted_at (mountable_of surface.records) surface) (answered surface.id (Mounted surface.base (mountable_of surface.records)) actor))
      (answer_elsewhere (Empty surface.base)) (answer_elsewhere (Mounted surface.base (mountable_of surface.records)))

-- an event keeps its actor's passages
module _ (wish : Wish) (number : ℕ) (surface : SurfaceNow) (actor : ActorNow) (p : PassagesFollowOn surface.id surface.records number actor.answers) where
  -- an answer that names no passage
  quiet_follows : (grown : List PlainRecord) (answer : Answer) → mountable_of surface.records ≤ mountable_of grown
      → passage_of (record { actor = number; call = length actor.answers }) answer ≡ []
      → PassagesFollowOn surface.id grown number (actor.answers ++ (record { surface = surface.id; answer = answer }) ∷ [])
  quiet_follows grown answer up quiet =
      let same = passages_by-quiet surface.id number actor.answers answer quiet in
      record {
        forward = subst (FollowOn 0) (sym same) p.forward;
        within = subst (λ l. last_to l ≤ mountable_of grown) (sym same) (omega (arith, p.within, up));
      }

  -- a mount that found something new
  mounted_follows : (is : Bool) → surface.base ≡ last_to (passages_by surface.id number actor.answers) → nat_eq (mountable_of surface.records) surface.base ≡ is
      → PassagesFollowOn surface.id (cond is (moment surface (answered surface.id (Empty surface.base) actor))
      (moment (mounted_at (mountable_of surface.records) surface) (answered surface.id (Mounted surface.base (mountable_of surface.records)) actor))).surface.records number
      (cond is (moment surface (answered surface.id (Empty surface.base) actor))
      (moment (mounted_at (mountable_of surface.records) surface) (answered surface.id (Mounted surface.base (mountable_of surface.records)) actor))).actor.answers
  mounted_follows true at is = quiet_follows surface.records (Empty surface.base) (omega arith) refl
  mounted_follows false at is =
      let to : ℕ = mountable_of surface.records in
      let part : StepPart = record { surface = surface.id; answer = Mounted surface.base to } in
      let name : StepName = record { actor = number; call = length actor.answers } in
      let step_of : Passage = passage surface.base to (Some name) in
      let before : List Passage = passages_by surface.id number actor.answers in
      let more : passages_by surface.id number (actor.answers ++ part ∷ []) ≡ before ++ step_of ∷ [] =
      passages_by-push surface.id number actor.answers part ∙ ap (λ b. before ++ cond b (step_of ∷ []) []) (eq-eqb surface.id surface.id refl) in
      let up : surface.base < to = omega (arith, at, p.within, eqb-false to surface.base is) in
      record {
        forward = subst (FollowOn 0) (sym more) (follow_on_push 0 before step_of p.forward at up);
        within = subst (λ l. last_to l ≤ to) (sym more) (omega (arith, last_to-push before step_of));
      }

  -- a look
  look_follows : (cause : Option Cancel) → PassagesFollowOn surface.id surface.records number (looked_with cause surface actor).answers
  look_follows None = p
  look_follows (Some cause) = quiet_follows surface.records (Cancelled (length surface.records) (actor.tries + 1) cause) (omega arith) refl

  -- an event of a commit
  commit_follows : (op : PlainOp) (looked : Option ℕ)
      → PassagesFollowOn surface.id (after_commit number op looked surface actor).surface.records number (after_commit number op looked surface actor).actor.answers
  commit_follows op None = look_follows (cancel_of surface.first op surface.records (number_held surface.id actor.answers))
  commit_follows op (Some at) = offer (nat_eq at (length surface.records))
    where
      entry : PlainRecord
      entry = record { actor = number; call = length actor.answers; held = number_held surface.id actor.answers; op = op }

      offer : (is : Bool) → PassagesFollowOn surface.id
          (cond is (moment (recorded entry surface) (answered surface.id (Admitted (length surface.records + 1) actor.tries) actor)) (moment surface (trying actor.tries None actor))).surface.records number
          (cond is (moment (recorded entry surface) (answered surface.id (Admitted (length surface.records + 1) actor.tries) actor)) (moment surface (trying actor.tries None actor))).actor.answers
      offer true = quiet_follows (surface.records ++ entry ∷ []) (Admitted (length surface.records + 1) actor.tries) (omega (arith, mountable_of-rises surface.records (entry ∷ []))) refl
      offer false = p

  -- each event
  pub event_follows : (act : PlainAct) → (act ≡ mount → surface.base ≡ last_to (passages_by surface.id number actor.answers))
      → PassagesFollowOn surface.id (after_hooked_event wish number act surface actor).surface.records number (after_hooked_event wish number act surface actor).actor.answers
  event_follows (commit op) at = commit_follows (wish surface.records (number_held surface.id actor.answers) op) actor.looked
  event_follows hold at = quiet_follows surface.records (Held (length surface.records)) (omega arith) refl
  event_follows mount at = mounted_follows (nat_eq (mountable_of surface.records) surface.base) (at refl) refl

-- over a lawful history, mounts along an actor's passages follow them
pub mounts_along_follow : (first : Size) (id : ℕ) (entries : List PlainRecord) (number : ℕ) (answers : List StepPart) → IsLawful first entries → PassagesFollowOn id entries number answers
    → MountsFollow first id entries number answers (map (mount_along first entries) (passages_by id number answers))
mounts_along_follow first id entries number answers lawful p = record {
  passages = p;
  along = refl;
  views = mounts_follow first entries lawful 0 (passages_by id number answers) (registry_of []) p.forward (nothing_shown first entries lawful);
}

-- over a longer lawful history they still do
pub mounts_stay : (first : Size) (id : ℕ) (records longer : List PlainRecord) (number : ℕ) (answers : List StepPart) (mounts : List PlainMount)
    → BeginsWith longer records → IsLawful first longer → MountsFollow first id records number answers mounts → MountsFollow first id longer number answers mounts
mounts_stay first id records longer number answers mounts grows lawful h =
    let more = begins_more longer records grows in
    let rises : mountable_of records ≤ mountable_of longer = omega (arith, mountable_of-rises records more.0, ap mountable_of more.1) in
    let p : PassagesFollowOn id longer number answers = record { forward = h.passages.forward; within = omega (arith, h.passages.within, rises) } in
    let along : mounts ≡ map (mount_along first longer) (passages_by id number answers) =
    h.along ∙ sym (mounts_over_more first records longer grows 0 (passages_by id number answers) h.passages.forward (omega (arith, h.passages.within, mountable_of-within records))) in
    subst (MountsFollow first id longer number answers) (sym along) (mounts_along_follow first id longer number answers lawful p)
