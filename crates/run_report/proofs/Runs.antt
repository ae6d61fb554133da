-- A run keeps what it keeps, from its first turn on.
use Rattle.std.proofs.Common.{◌≡◌, ℕ, ◌≤◌, true, false, cond, ◌||◌, List, [], ◌∷◌, length, map, nat_eq, count_by, All, slice_get, slice_set, Option, Some, None, arith, refl, ap, sym, ◌∙◌, subst, length-set, eq-eqb, ne_eqb, inl, inr}
use Rattle.std.specs.List.{AllByRecursion, AllZip, find, list_any}
use Rattle.std.specs.List.{IsDistinct}
use Rattle.std.proofs.lemmas.Bool.{both_ways, cases_Bool, eqb-true, eqb-false}
use Rattle.std.proofs.lemmas.Option.{same_Some, slice_get_within}
use Rattle.std.proofs.lemmas.List.Elements.{recursion_from_All}
use Rattle.tree_revision.specs.Script.{PlainStep, PlainActor, PlainSurface, PlainScript}
use Rattle.tree_revision.specs.InRange.{IsStepInRange}
use Rattle.tree_revision.specs.Sound.{ids_of, mounts_on, HasOneMounter, IsSoundScript}
use Rattle.run_report.specs.Machine.{SurfaceNow, ActorNow, RunNow, Moment, after_hooked_event, after_hooked_event_on, after_hooked_event_by, after_hooked_event_of, with_moment, after_hooked_turn}
use Rattle.run_report.specs.Shorthands.{after_hooked_turns}
use Rattle.tree_revision.specs.Wishes.{Wish, as_written, KeepsRange}
use Rattle.run_report.proofs.Lists.{item_within, all_at, all_unmap, slice_get_at, all_weaker, all_map, all_found}
use Rattle.run_report.proofs.Pairs.{each_set, all_zip_become}
use Rattle.run_report.proofs.Kept.{IsHookedSurface, IsActorOf, IsSurfaceOf, IsHookedRun, IsRunOf}
use Rattle.run_report.proofs.Surfaces.{IsAtStep, own_actor, own_steps}
use Rattle.run_report.proofs.Turns.{IsEventKept, event_by}

-- an item that was found by its number is the only one with it
pub found_only : (xs : List SurfaceNow) (id : ℕ) (x : SurfaceNow) → IsDistinct nat_eq (map (λ s. s.id) xs) → find (λ s. nat_eq s.id id) xs ≡ Some x
    → AllByRecursion (λ s. nat_eq s.id id ≡ true → s ≡ x) xs
unfolding IsDistinct
found_only [] id x d e = tt
found_only (y ∷ xs) id x d e =
    elim (cases_Bool (nat_eq y.id id)) [
      | inl t ↦ (
        λ u. same_Some y x (sym (ap (λ b. cond b (Some y) (find (λ s. nat_eq s.id id) xs)) t) ∙ e),
        all_weaker (λ s. nat_eq y.id s.id ≡ false) (λ s. nat_eq s.id id ≡ true → s ≡ x)
            (λ s off u. absurd (both_ways (nat_eq y.id s.id) off (eq-eqb y.id s.id (eqb-true y.id id t ∙ sym (eqb-true s.id id u))))) xs
            (all_unmap (λ k. nat_eq y.id k ≡ false) (λ s. s.id) xs d.0),
      )
      | inr f ↦
          (λ u. absurd (both_ways (nat_eq y.id id) f u), found_only xs id x d.1 (sym (ap (λ b. cond b (Some y) (find (λ s. nat_eq s.id id) xs)) f) ∙ e))
    ]

-- where a number is there, its item is found
pub found_some : (xs : List SurfaceNow) (id : ℕ) → list_any (λ k. nat_eq k id) (map (λ s. s.id) xs) ≡ true → (x : SurfaceNow) × (find (λ s. nat_eq s.id id) xs ≡ Some x)
found_some [] id h = absurd (both_ways false refl h)
found_some (y ∷ xs) id h =
    elim (cases_Bool (nat_eq y.id id)) [
      | inl t ↦ (y, ap (λ b. cond b (Some y) (find (λ s. nat_eq s.id id) xs)) t)
      | inr f ↦
          let rest = found_some xs id (sym (ap (λ b. b || list_any (λ k. nat_eq k id) (map (λ s. s.id) xs)) f) ∙ h) in
          (rest.0, ap (λ b. cond b (Some y) (find (λ s. nat_eq s.id id) xs)) f ∙ rest.1)
    ]

-- the surfaces of a run have the script's ids
pub same_ids : (surfaces : List PlainSurface) (xs : List SurfaceNow) → AllZip IsSurfaceOf surfaces xs → map (λ s. s.id) xs ≡ ids_of surfaces
same_ids [] [] h = refl
same_ids [] (x ∷ xs) h = absurd h
same_ids (s ∷ surfaces) [] h = absurd h
same_ids (s ∷ surfaces) (x ∷ xs) h = λ i. h.0.id i ∷ same_ids surfaces xs h.1 i

module _ (script : PlainScript) (sound : IsSoundScript script) where
  -- each surface of a run has one mounter
  pub one_mounter : (xs : List SurfaceNow) → AllZip IsSurfaceOf script.surfaces xs → AllByRecursion (λ s. count_by (mounts_on s.id) script.actors ≤ 1) xs
  one_mounter xs h =
      all_unmap (HasOneMounter script.actors) (λ s. s.id) xs
      (subst (AllByRecursion (HasOneMounter script.actors)) (sym (same_ids script.surfaces xs h))
      (recursion_from_All (HasOneMounter script.actors) (ids_of script.surfaces) sound.mounters))

  module _ {wish : Wish} (run : RunNow) (h : IsHookedRun wish script run) (number : ℕ) (script_actor : PlainActor) (actor : ActorNow) (step : PlainStep) (rest : List PlainStep)
      (t : IsAtStep script run.actors number script_actor actor step rest) where
    -- the step is in range
    pub own_in_range : IsStepInRange (ids_of script.surfaces) step
    own_in_range =
        let own = own_actor script run.actors number script_actor actor step rest t in
        let at : slice_get script_actor.steps (length own.through.done) ≡ Some step =
        ap (λ l. slice_get l (length own.through.done)) (own_steps script run.actors number script_actor actor step rest t) ∙ slice_get_at own.through.done step rest in
        all_at (IsStepInRange (ids_of script.surfaces)) script_actor.steps (length own.through.done) step
        (all_at (λ a. All (IsStepInRange (ids_of script.surfaces)) a.steps) script.actors number script_actor sound.steps t.script_at) at

    -- its surface is there
    pub own_surface : (now : SurfaceNow) × (find (λ s. nat_eq s.id step.surface) run.surfaces ≡ Some now)
    own_surface =
        found_some run.surfaces step.surface
        (ap (list_any (λ k. nat_eq k step.surface)) (same_ids script.surfaces run.surfaces h.surfaces) ∙ own_in_range.surface)

    module _ (now : SurfaceNow) (found : find (λ s. nat_eq s.id step.surface) run.surfaces ≡ Some now) where
      -- the step is on that surface
      pub is_on : step.surface ≡ now.id
      is_on = sym (eqb-true now.id step.surface (all_found (λ s. nat_eq s.id step.surface) (IsHookedSurface wish script run.actors) run.surfaces now h.kept found).1)

      -- the event there keeps what it is to keep
      pub event_kept : KeepsRange wish → IsEventKept wish script run.actors number script_actor step now (after_hooked_event wish number step.act now actor)
      event_kept keeps =
          event_by script run.actors number script_actor actor step rest t now
          (all_found (λ s. nat_eq s.id step.surface) (IsHookedSurface wish script run.actors) run.surfaces now h.kept found).0 is_on keeps step.act refl own_in_range.act
          (all_found (λ s. nat_eq s.id step.surface) (λ s. count_by (mounts_on s.id) script.actors ≤ 1) run.surfaces now (one_mounter run.surfaces h.surfaces) found).0

      -- the run is kept with the surface and the actor after the event
      pub moment_kept : (after : Moment) → IsEventKept wish script run.actors number script_actor step now after → IsHookedRun wish script (with_moment run number after)
      moment_kept after k = record {
        surfaces =
            all_zip_become IsSurfaceOf (λ s. nat_eq s.id step.surface ≡ true → s ≡ now) IsSurfaceOf (λ s. cond (nat_eq s.id after.surface.id) after.surface s)
            (λ a s of only.
            elim (cases_Bool (nat_eq s.id after.surface.id)) [
              | inl e ↦
                  let same : s ≡ now = only (eq-eqb s.id step.surface (eqb-true s.id after.surface.id e ∙ k.id ∙ sym is_on)) in
                  subst (λ b. IsSurfaceOf a (cond b after.surface s)) (sym e)
                  (record { id = k.id ∙ sym (ap (λ x. x.id) same) ∙ of.id; first = k.first ∙ sym (ap (λ x. x.first) same) ∙ of.first })
              | inr e ↦ subst (λ b. IsSurfaceOf a (cond b after.surface s)) (sym e) of
            ])
            script.surfaces run.surfaces h.surfaces
            (found_only run.surfaces step.surface now (subst (IsDistinct nat_eq) (sym (same_ids script.surfaces run.surfaces h.surfaces)) sound.ids_differ) found);
        count = length-set run.actors number after.actor ∙ h.count;
        actors = each_set (λ n a b. IsActorOf a b) (λ n a b. IsActorOf a b) script.actors run.actors number actor after.actor t.at h.actors
            (λ j x y d s p. p) (λ x s p. subst (λ a. IsActorOf a after.actor) (same_Some script_actor x (sym t.script_at ∙ s)) k.actor);
        kept = all_map (IsHookedSurface wish script (slice_set run.actors number after.actor)) (λ s. cond (nat_eq s.id after.surface.id) after.surface s) run.surfaces
            (all_weaker (IsHookedSurface wish script run.actors) (λ s. IsHookedSurface wish script (slice_set run.actors number after.actor) (cond (nat_eq s.id after.surface.id) after.surface s))
            (λ s was.
            elim (cases_Bool (nat_eq s.id after.surface.id)) [
              | inl e ↦ subst (λ b. IsHookedSurface wish script (slice_set run.actors number after.actor) (cond b after.surface s)) (sym e) k.here
              | inr e ↦
                  subst (λ b. IsHookedSurface wish script (slice_set run.actors number after.actor) (cond b after.surface s)) (sym e)
                  (k.elsewhere s was (ne_eqb step.surface s.id (λ q. eqb-false s.id after.surface.id e (sym q ∙ is_on ∙ sym k.id))))
            ])
            run.surfaces h.kept);
      }

  -- an actor of a run that has a step left is at it
  pub at_step : {wish : Wish} (run : RunNow) → IsHookedRun wish script run → (number : ℕ) (actor : ActorNow) (step : PlainStep) (rest : List PlainStep)
      → slice_get run.actors number ≡ Some actor → actor.left ≡ step ∷ rest
      → (script_actor : PlainActor) × IsAtStep script run.actors number script_actor actor step rest
  at_step run h number actor step rest at left =
      let own = item_within script.actors number (omega (arith, slice_get_within run.actors number actor at, h.count)) in
      (own.0, record { script_at = own.1; at = at; count = h.count; shape = h.actors; left = left })

  module _ (wish : Wish) (keeps : KeepsRange wish) where
    -- an event on what was found keeps the run
    pub event_on_kept : (run : RunNow) → IsHookedRun wish script run → (number : ℕ) (actor : ActorNow) (step : PlainStep) (rest : List PlainStep)
        → slice_get run.actors number ≡ Some actor → actor.left ≡ step ∷ rest
        → (found : Option SurfaceNow) → find (λ s. nat_eq s.id step.surface) run.surfaces ≡ found
        → IsHookedRun wish script (after_hooked_event_on wish run number actor step.act found)
    event_on_kept run h number actor step rest at left None e = h
    event_on_kept run h number actor step rest at left (Some now) e =
        let own = at_step run h number actor step rest at left in
        moment_kept run h number own.0 actor step rest own.1 now e (after_hooked_event wish number step.act now actor)
        (event_kept run h number own.0 actor step rest own.1 now e keeps)

    -- so by an actor with these steps left
    pub event_by_kept : (run : RunNow) → IsHookedRun wish script run → (number : ℕ) (actor : ActorNow) (left : List PlainStep)
        → slice_get run.actors number ≡ Some actor → actor.left ≡ left → IsHookedRun wish script (after_hooked_event_by wish run number actor left)
    event_by_kept run h number actor [] at e = h
    event_by_kept run h number actor (step ∷ rest) at e =
        event_on_kept run h number actor step rest at e (find (λ s. nat_eq s.id step.surface) run.surfaces) refl

    -- and by whatever stands at the number
    pub event_of_kept : (run : RunNow) → IsHookedRun wish script run → (number : ℕ) (actor : Option ActorNow) → slice_get run.actors number ≡ actor
        → IsHookedRun wish script (after_hooked_event_of wish run number actor)
    event_of_kept run h number None e = h
    event_of_kept run h number (Some actor) e = event_by_kept run h number actor actor.left e refl

    -- a turn keeps what a run keeps
    pub hooked_turn_kept : (run : RunNow) → IsHookedRun wish script run → (number : ℕ) → IsHookedRun wish script (after_hooked_turn wish run number)
    hooked_turn_kept run h number = event_of_kept run h number (slice_get run.actors number) refl

    -- so do more turns
    pub hooked_turns_kept : (run : RunNow) → IsHookedRun wish script run → (turns : List ℕ) → IsHookedRun wish script (after_hooked_turns wish run turns)
    hooked_turns_kept run h [] = h
    hooked_turns_kept run h (number ∷ turns) = hooked_turns_kept (after_hooked_turn wish run number) (hooked_turn_kept run h number) turns

  -- turns in which each commit asks for the change that its step has
  pub turns_kept : (run : RunNow) → IsRunOf script run → (turns : List ℕ) → IsRunOf script (after_hooked_turns as_written run turns)
  turns_kept = hooked_turns_kept as_written (λ entries held op fits. fits)
