-- The ending turns take each actor to its end.
use Rattle.std.proofs.Common.{◌≡◌, ◌⊎◌, ℕ, zero, suc, ◌+◌, ◌*◌, ◌≤◌, ◌<◌, Bool, true, false, cond, List, [], ◌∷◌, ◌++◌, length, map, replicate, nat_eq, slice_get, slice_set, Option, Some, None, arith, refl, ap, sym, ◌∙◌, subst, length-append, eq-eqb, inl, inr}
use Rattle.std.specs.List.{IsDistinct, find, flat_map, enumerate_from}
use Rattle.std.proofs.lemmas.Bool.{cases_eq, eqb-true}
use Rattle.std.proofs.lemmas.Option.{none-some, same_Some}
use Rattle.std.proofs.lemmas.List.Sums.{fold-append}
use Rattle.tree_revision.specs.Records.{PlainOp}
use Rattle.tree_revision.specs.Script.{PlainAct, commit, hold, mount, PlainStep, PlainActor, PlainScript}
use Rattle.tree_revision.specs.Sound.{IsSoundScript}
use Rattle.tree_revision.specs.Cancels.{cancel_of}
use Rattle.tree_revision.specs.Mountable.{mountable_of}
use Rattle.tree_revision.specs.declared.record.Cancel.{Cancel}
use Rattle.tree_revision.specs.declared.record.Answer.TheVariants.{Admitted}
use Rattle.run_report.specs.Points.{number_held}
use Rattle.run_report.specs.Machine.{SurfaceNow, ActorNow, RunNow, Moment, answered, looked_with, after_commit, after_hooked_event, after_hooked_event_on, after_hooked_event_by, after_hooked_event_of, with_moment, after_hooked_turn, moment}
use Rattle.run_report.specs.Shorthands.{later, trying, recorded, after_hooked_turns}
use Rattle.tree_revision.specs.Wishes.{Wish, KeepsRange}
use Rattle.run_report.proofs.Lists.{nil_is_not_cons, slice_get-set_same, slice_get-set_other, all_weaker, all_found, map_leaves}
use Rattle.run_report.proofs.Kept.{IsHookedSurface, IsHookedRun}
use Rattle.run_report.proofs.Runs.{found_only, same_ids, own_surface, at_step, hooked_turn_kept, hooked_turns_kept}

-- how far a commit under way is: it has looked at the newest revision, it is to look, or it has looked at one that is behind
abbrev pub phase : Option ℕ → (count : ℕ) → ℕ
phase None count = 1
phase (Some at) count = cond (nat_eq at count) 2 0

-- it is two at most
pub phase_below : (looked : Option ℕ) (count : ℕ) → phase looked count ≤ 2
phase_below None count = omega arith
phase_below (Some at) count = go (nat_eq at count)
  where
    go : (b : Bool) → cond b 2 0 ≤ 2
    go true = omega arith
    go false = omega arith

-- an event ends the step, or brings its commit further
abbrev pub IsFurther : (now : SurfaceNow) (actor : ActorNow) → Moment → Type 0
IsFurther now actor after =
    (after.actor.left ≡ later actor.left)
    ⊎ ((after.surface ≡ now) × (after.actor.left ≡ actor.left) × (phase actor.looked (length now.records) + 1 ≤ phase after.actor.looked (length now.records)))

module _ (number : ℕ) (now : SurfaceNow) (actor : ActorNow) where
  -- a look does
  pub look_further : (cause : Option Cancel) → actor.looked ≡ None → IsFurther now actor (moment now (looked_with cause now actor))
  look_further None e =
      inr (refl, refl, omega (arith, ap (λ o. phase o (length now.records)) e, ap {B = ℕ} (λ b. cond b 2 0) (eq-eqb (length now.records) (length now.records) refl)))
  look_further (Some cause) e = inl refl

  -- so does an offer
  pub offer_further : (at : ℕ) (is : Bool) (admitted : Moment) → actor.looked ≡ Some at → nat_eq at (length now.records) ≡ is → admitted.actor.left ≡ later actor.left
      → IsFurther now actor (cond is admitted (moment now (trying actor.tries None actor)))
  offer_further at true admitted e is ends = inl ends
  offer_further at false admitted e is ends =
      inr (refl, refl, omega (arith, ap (λ o. phase o (length now.records)) e, ap {B = ℕ} (λ b. cond b 2 0) is))

  -- and so each event of a commit
  pub commit_further : (op : PlainOp) (looked : Option ℕ) → actor.looked ≡ looked → IsFurther now actor (after_commit number op looked now actor)
  commit_further op None e = look_further (cancel_of now.first op now.records (number_held now.id actor.answers)) e
  commit_further op (Some at) e =
      offer_further at (nat_eq at (length now.records))
      (moment (recorded (record { actor = number; call = length actor.answers; held = number_held now.id actor.answers; op = op }) now)
      (answered now.id (Admitted (length now.records + 1) actor.tries) actor)) e refl refl

  -- a mount does, whether it finds something new or not
  pub mount_further : (is : Bool) (a b : Moment) → a.actor.left ≡ later actor.left → b.actor.left ≡ later actor.left → IsFurther now actor (cond is a b)
  mount_further true a b h k = inl h
  mount_further false a b h k = inl k

  -- each event does
  pub event_further : (wish : Wish) (act : PlainAct) → IsFurther now actor (after_hooked_event wish number act now actor)
  event_further wish (commit op) = commit_further (wish now.records (number_held now.id actor.answers) op) actor.looked refl
  event_further wish hold = inl refl
  event_further wish mount = mount_further (nat_eq (mountable_of now.records) now.base) _ _ refl refl

-- that many turns of the actor alone take it to its end
abbrev pub AreEnough : (turns : ℕ) → List SurfaceNow → ActorNow → Type 0
AreEnough turns surfaces actor =
    (step : PlainStep) (rest : List PlainStep) (now : SurfaceNow) → actor.left ≡ step ∷ rest → find (λ s. nat_eq s.id step.surface) surfaces ≡ Some now
    → 3 * length actor.left ≤ turns + phase actor.looked (length now.records)

-- the actor of that number is at its end
abbrev pub IsEnded : RunNow → (number : ℕ) → Type 0
IsEnded run number = (actor : ActorNow) → slice_get run.actors number ≡ Some actor → actor.left ≡ []

module _ (wish : Wish) (keeps : KeepsRange wish) (script : PlainScript) (sound : IsSoundScript script) where
  -- one turn of an actor leaves one turn fewer
  pub moment_enough : (run : RunNow) → IsHookedRun wish script run → (number turns : ℕ) (actor : ActorNow) (step : PlainStep) (rest : List PlainStep) (now : SurfaceNow) (after : Moment)
      → slice_get run.actors number ≡ Some actor → actor.left ≡ step ∷ rest → find (λ s. nat_eq s.id step.surface) run.surfaces ≡ Some now
      → 3 * length actor.left ≤ suc turns + phase actor.looked (length now.records) → IsFurther now actor after
      → AreEnough turns (with_moment run number after).surfaces after.actor
  moment_enough run h number turns actor step rest now after at left found enough (inl e) =
      λ step' rest' now' left' found'.
      let a : length actor.left ≡ suc (length rest) = ap length left in
      let b : length after.actor.left ≡ length rest = ap length (e ∙ ap later left) in
      omega (arith, a, b, enough, phase_below actor.looked (length now.records))
  moment_enough run h number turns actor step rest now after at left found enough (inr (s, l, p)) =
      let on : now.id ≡ step.surface = eqb-true now.id step.surface (all_found (λ x. nat_eq x.id step.surface) (IsHookedSurface wish script run.actors) run.surfaces now h.kept found).1 in
      let only = found_only run.surfaces step.surface now (subst (IsDistinct nat_eq) (sym (same_ids script.surfaces run.surfaces h.surfaces)) sound.ids_differ) found in
      let same : map (λ x. cond (nat_eq x.id after.surface.id) after.surface x) run.surfaces ≡ run.surfaces =
      map_leaves (λ x. cond (nat_eq x.id after.surface.id) after.surface x) run.surfaces
      (all_weaker (λ x. nat_eq x.id step.surface ≡ true → x ≡ now) (λ x. cond (nat_eq x.id after.surface.id) after.surface x ≡ x)
      (λ x is. leaves (nat_eq x.id after.surface.id) x refl
      (λ t. s ∙ sym (is (eq-eqb x.id step.surface (eqb-true x.id after.surface.id t ∙ ap (λ y. y.id) s ∙ on))))) run.surfaces only) in
      λ step' rest' now' left' found'.
      let k : step' ∷ rest' ≡ step ∷ rest = sym left' ∙ l ∙ left in
      let q : step' ≡ step = cc in
      let there : Some now ≡ Some now' =
      sym found ∙ ap (λ st. find (λ x. nat_eq x.id st.surface) run.surfaces) (sym q)
      ∙ sym (ap (find (λ x. nat_eq x.id step'.surface)) same) ∙ found' in
      let n : length now.records ≡ length now'.records = ap (λ x. length x.records) (same_Some now now' there) in
      let f : phase after.actor.looked (length now.records) ≡ phase after.actor.looked (length now'.records) = ap (phase after.actor.looked) n in
      omega (arith, ap length l, enough, p, f)
    where
      leaves : (b : Bool) (x : SurfaceNow) → nat_eq x.id after.surface.id ≡ b → (nat_eq x.id after.surface.id ≡ true → after.surface ≡ x) → cond b after.surface x ≡ x
      leaves true x e k = k e
      leaves false x e k = refl

  -- so on the surface that was found
  pub turned_on_enough : (run : RunNow) → IsHookedRun wish script run → (number turns : ℕ) (actor : ActorNow) (step : PlainStep) (rest : List PlainStep)
      → slice_get run.actors number ≡ Some actor → actor.left ≡ step ∷ rest → AreEnough (suc turns) run.surfaces actor
      → (found : Option SurfaceNow) → find (λ s. nat_eq s.id step.surface) run.surfaces ≡ found
      → (after : ActorNow) → slice_get (after_hooked_event_on wish run number actor step.act found).actors number ≡ Some after
      → AreEnough turns (after_hooked_event_on wish run number actor step.act found).surfaces after
  turned_on_enough run h number turns actor step rest at left enough None none after is =
      let own = at_step script sound run h number actor step rest at left in
      let there = own_surface script sound run h number own.0 actor step rest own.1 in
      absurd (none-some there.0 (sym none ∙ there.1))
  turned_on_enough run h number turns actor step rest at left enough (Some now) found after is =
      let m : Moment = after_hooked_event wish number step.act now actor in
      let same : m.actor ≡ after = same_Some m.actor after (sym (slice_get-set_same run.actors number m.actor actor at) ∙ is) in
      subst (AreEnough turns (with_moment run number m).surfaces) same
      (moment_enough run h number turns actor step rest now m at left found (enough step rest now left found) (event_further number now actor wish step.act))

  -- by an actor with these steps left
  pub turned_by_enough : (run : RunNow) → IsHookedRun wish script run → (number turns : ℕ) (actor : ActorNow) (left : List PlainStep)
      → slice_get run.actors number ≡ Some actor → actor.left ≡ left → AreEnough (suc turns) run.surfaces actor
      → (after : ActorNow) → slice_get (after_hooked_event_by wish run number actor left).actors number ≡ Some after
      → AreEnough turns (after_hooked_event_by wish run number actor left).surfaces after
  turned_by_enough run h number turns actor [] at left enough after is =
      λ step rest now left' found. nil_is_not_cons after.left step rest (ap (λ a. a.left) (same_Some after actor (sym is ∙ at)) ∙ left) left'
  turned_by_enough run h number turns actor (step ∷ rest) at left enough after is =
      turned_on_enough run h number turns actor step rest at left enough (find (λ s. nat_eq s.id step.surface) run.surfaces) refl after is

  -- by whatever stands at the number
  pub turned_enough : (run : RunNow) → IsHookedRun wish script run → (number turns : ℕ) (o : Option ActorNow) → slice_get run.actors number ≡ o
      → ((actor : ActorNow) → slice_get run.actors number ≡ Some actor → AreEnough (suc turns) run.surfaces actor)
      → (after : ActorNow) → slice_get (after_hooked_event_of wish run number o).actors number ≡ Some after → AreEnough turns (after_hooked_event_of wish run number o).surfaces after
  turned_enough run h number turns None none enough after is = absurd (none-some after (sym none ∙ is))
  turned_enough run h number turns (Some actor) at enough after is = turned_by_enough run h number turns actor actor.left at refl (enough actor at) after is

  -- enough turns of an actor take it to its end
  pub enough_end : (turns : ℕ) (run : RunNow) → IsHookedRun wish script run → (number : ℕ)
      → ((actor : ActorNow) → slice_get run.actors number ≡ Some actor → AreEnough turns run.surfaces actor)
      → IsEnded (after_hooked_turns wish run (replicate turns number)) number
  enough_end zero run h number enough = λ actor at. none_left actor at actor.left refl
    where
      none_left : (actor : ActorNow) → slice_get run.actors number ≡ Some actor → (left : List PlainStep) → actor.left ≡ left → left ≡ []
      none_left actor at [] e = refl
      none_left actor at (step ∷ rest) e =
          let own = at_step script sound run h number actor step rest at e in
          let there = own_surface script sound run h number own.0 actor step rest own.1 in
          let few = enough actor at step rest there.0 e there.1 in
          let one : length actor.left ≡ suc (length rest) = ap length e in
          absurd (omega (arith, few, one, phase_below actor.looked (length there.0.records)))
  enough_end (suc turns) run h number enough =
      enough_end turns (after_hooked_turn wish run number) (hooked_turn_kept script sound wish keeps run h number) number
      (turned_enough run h number turns (slice_get run.actors number) refl enough)

  -- an actor at its end stays there
  pub ended_stays : (run : RunNow) (j number : ℕ) → IsEnded run j → IsEnded (after_hooked_turn wish run number) j
  ended_stays run j number ended = by_actor (slice_get run.actors number) refl
    where
      by_moment : (actor : ActorNow) (step : PlainStep) (rest : List PlainStep) → slice_get run.actors number ≡ Some actor → actor.left ≡ step ∷ rest
          → (after : ActorNow) (now : ActorNow) → slice_get (slice_set run.actors number after) j ≡ Some now → now.left ≡ []
      by_moment actor step rest at left after now is =
          elim (cases_eq j number) [
            | inl e ↦ nil_is_not_cons actor.left step rest (ended actor (ap (slice_get run.actors) e ∙ at)) left
            | inr d ↦ ended now (sym (slice_get-set_other run.actors number j after d) ∙ is)
          ]

      by_surface : (actor : ActorNow) (step : PlainStep) (rest : List PlainStep) → slice_get run.actors number ≡ Some actor → actor.left ≡ step ∷ rest
          → (found : Option SurfaceNow) → IsEnded (after_hooked_event_on wish run number actor step.act found) j
      by_surface actor step rest at left None = ended
      by_surface actor step rest at left (Some now) = by_moment actor step rest at left (after_hooked_event wish number step.act now actor).actor

      by_left : (actor : ActorNow) (left : List PlainStep) → slice_get run.actors number ≡ Some actor → actor.left ≡ left → IsEnded (after_hooked_event_by wish run number actor left) j
      by_left actor [] at left = ended
      by_left actor (step ∷ rest) at left = by_surface actor step rest at left (find (λ s. nat_eq s.id step.surface) run.surfaces)

      by_actor : (o : Option ActorNow) → slice_get run.actors number ≡ o → IsEnded (after_hooked_event_of wish run number o) j
      by_actor None e = ended
      by_actor (Some actor) e = by_left actor actor.left e refl

  -- through any turns
  pub ended_through : (run : RunNow) (j : ℕ) (turns : List ℕ) → IsEnded run j → IsEnded (after_hooked_turns wish run turns) j
  ended_through run j [] ended = ended
  ended_through run j (number ∷ turns) ended = ended_through (after_hooked_turn wish run number) j turns (ended_stays run j number ended)

  -- three turns a step are enough for an actor of a run
  pub steps_enough : (run : RunNow) → IsHookedRun wish script run → (number : ℕ) (script_actor : PlainActor) → slice_get script.actors number ≡ Some script_actor
      → (actor : ActorNow) → slice_get run.actors number ≡ Some actor → AreEnough (3 * length script_actor.steps) run.surfaces actor
  steps_enough run h number script_actor own actor at =
      let of = h.actors number script_actor actor own at in
      let n : length script_actor.steps ≡ length of.through.done + length actor.left = ap length of.through.whole ∙ length-append of.through.done actor.left in
      λ step rest now left found. omega (arith, n)

  -- the ending turns take each actor to its end
  pub ending_ends : (actors : List PlainActor) (n : ℕ) (run : RunNow) → IsHookedRun wish script run
      → ((j k : ℕ) (a : PlainActor) → k ≡ n + j → slice_get actors j ≡ Some a → slice_get script.actors k ≡ Some a)
      → (j k : ℕ) → k ≡ n + j → j < length actors
      → IsEnded (after_hooked_turns wish run (flat_map (λ entry. replicate (3 * length entry.1.steps) entry.0) (enumerate_from n actors))) k
  ending_ends [] n run h are j k e below = absurd (omega (arith, below))
  ending_ends (a ∷ actors) n run h are j k e below =
      let own : List ℕ = replicate (3 * length a.steps) n in
      let rest : List ℕ = flat_map (λ entry. replicate (3 * length entry.1.steps) entry.0) (enumerate_from (n + 1) actors) in
      let here : slice_get script.actors n ≡ Some a = are 0 n a (omega arith) refl in
      let whole : after_hooked_turns wish run (own ++ rest) ≡ after_hooked_turns wish (after_hooked_turns wish run own) rest = fold-append (after_hooked_turn wish) run own rest in
      subst (λ r. IsEnded r k) (sym whole)
      (by (after_hooked_turns wish (after_hooked_turns wish run own) rest) j k e below (ended_through (after_hooked_turns wish run own) n rest (enough_end (3 * length a.steps) run h n (steps_enough run h n a here)))
      (λ i m f less. ending_ends actors (n + 1) (after_hooked_turns wish run own) (hooked_turns_kept script sound wish keeps run h own)
      (λ i' m' b g t. are (suc i') m' b (omega (arith, g)) t) i m f less))
    where
      by : (r : RunNow) (i m : ℕ) → m ≡ n + i → i < suc (length actors) → IsEnded r n
          → ((i' m' : ℕ) → m' ≡ n + 1 + i' → i' < length actors → IsEnded r m') → IsEnded r m
      by r zero m f less first others = let z : n ≡ m = omega (arith, f) in subst (IsEnded r) z first
      by r (suc i) m f less first others = others i m (omega (arith, f)) (omega (arith, less))
