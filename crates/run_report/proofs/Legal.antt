-- The journal of a run at its end is legal.
use Rattle.std.proofs.Common.{◌≡◌, ℕ, ◌≤◌, [], ◌++◌, map, count_by, slice_get, Some, arith, refl, ap, sym, ◌∙◌, subst, append-nil, inl, inr}
use Rattle.std.specs.List.{AllZip}
use Rattle.std.proofs.lemmas.Bool.{cases_Bool}
use Rattle.std.proofs.lemmas.Option.{same_Some, slice_get_within}
use Rattle.tree_revision.specs.Script.{PlainActor, PlainScript}
use Rattle.tree_revision.specs.Sound.{mounts_on, IsSoundScript}
use Rattle.tree_revision.specs.Mountable.{mountable_of}
use Rattle.run_report.specs.Mounts.{passages_by, last_to}
use Rattle.tree_revision.specs.Wishes.{Wish}
use Rattle.run_report.specs.Shorthands.{passages_named}
use Rattle.run_report.specs.Legal.{Answers, HasFormOf, FollowOn, IsHookLegal}
use Rattle.run_report.specs.Machine.{SurfaceNow, ActorNow, RunNow, actor_part_of, surface_part_of, journal_at_end}
use Rattle.run_report.specs.ActorLegal.{PassagesFollowOn, IsLegalActorOn, IsPutTogether}
use Rattle.run_report.proofs.Lists.{item_within, all_true, all_both, one_passes}
use Rattle.run_report.proofs.Pairs.{all_zip_each, all_zip_become, same_maps}
use Rattle.run_report.proofs.Begins.{begins_self}
use Rattle.run_report.proofs.Kept.{parts_of, IsHookedSurface, IsActorOf, IsSurfaceOf, IsHookedRun}
use Rattle.run_report.proofs.Passages.{no_passages_by, part_at, passages_lone}
use Rattle.run_report.proofs.Runs.{one_mounter}
use Rattle.run_report.proofs.Together.{parts_legal}
use Rattle.run_report.proofs.Ending.{IsEnded}

module _ (wish : Wish) (script : PlainScript) (sound : IsSoundScript script) (run : RunNow) (h : IsHookedRun wish script run) where
  -- an actor's passages on a surface follow on
  own_passages : (now : SurfaceNow) → IsHookedSurface wish script run.actors now → count_by (mounts_on now.id) script.actors ≤ 1
      → (number : ℕ) (plan : PlainActor) (actor : ActorNow) → slice_get script.actors number ≡ Some plan → slice_get run.actors number ≡ Some actor
      → PassagesFollowOn now.id now.records number actor.answers
  own_passages now k one number plan actor planned at =
      elim (cases_Bool (mounts_on now.id plan)) [
        | inl mounts ↦
            let lone : passages_named now.id (parts_of run.actors) ≡ passages_by now.id number actor.answers =
            passages_lone now.id run.actors number actor at (λ j other d there.
            let its = item_within script.actors j (omega (arith, slice_get_within run.actors j other there, h.count)) in
            no_passages_by now.id j its.0 other (h.actors j its.0 other its.1 there)
            (one_passes (mounts_on now.id) script.actors number j plan its.0 one planned mounts d its.1)) in
            record {
              forward = subst (FollowOn 0) lone k.forward;
              within = omega (arith, ap last_to lone, k.last, k.base);
            }
        | inr none ↦
            let nothing : passages_by now.id number actor.answers ≡ [] = no_passages_by now.id number plan actor (h.actors number plan actor planned at) none in
            record {
              forward = subst (FollowOn 0) (sym nothing) tt;
              within = subst (λ l. last_to l ≤ mountable_of now.records) (sym nothing) (omega arith);
            }
      ]

  -- a surface is put together of what its actors keep
  put_together : (now : SurfaceNow) → IsHookedSurface wish script run.actors now → count_by (mounts_on now.id) script.actors ≤ 1
      → IsPutTogether wish script (parts_of run.actors) now.first (surface_part_of (parts_of run.actors) now)
  put_together now k one = record {
    lawful = k.lawful;
    named = k.named now.records (begins_self now.records);
    each = λ number plan own planned there.
        let its = item_within run.actors number (omega (arith, slice_get_within script.actors number plan planned, h.count)) in
        let is : actor_part_of its.0 ≡ own = same_Some (actor_part_of its.0) own (sym (part_at run.actors number its.0 its.1) ∙ there) in
        subst (IsLegalActorOn wish now.first (surface_part_of (parts_of run.actors) now) number plan) is (record {
          answers = (k.actors_on number plan its.0 planned its.1).answers;
          passages = own_passages now k one number plan its.0 planned its.1;
        });
    mounts = refl;
    last = refl;
  }

  module _ (ended : (number : ℕ) → IsEnded run number) where
    -- a journal of a run at its end has the script's form
    pub form_at_end : HasFormOf script (journal_at_end run)
    form_at_end =
        let actors : AllZip (λ a b. IsActorOf a b × (b.left ≡ [])) script.actors run.actors =
        all_zip_each (λ a b. IsActorOf a b × (b.left ≡ [])) script.actors run.actors h.count (λ i a b s t. (h.actors i a b s t, ended i b t)) in
        record {
          surfaces = same_maps (λ s. s.id) (λ p. p.id) script.surfaces (map (surface_part_of (parts_of run.actors)) run.surfaces)
              (all_zip_become IsSurfaceOf (λ now. Unit {0}) (λ s p. p.id ≡ s.id) (surface_part_of (parts_of run.actors)) (λ s now of u. of.id) script.surfaces run.surfaces h.surfaces (all_true (λ now. Unit {0}) (λ now. tt) run.surfaces));
          names = same_maps (λ a. a.name) (λ p. p.name) script.actors (parts_of run.actors)
              (all_zip_become (λ a b. IsActorOf a b × (b.left ≡ [])) (λ b. Unit {0}) (λ a p. p.name ≡ a.name) actor_part_of (λ a b of u. of.0.name) script.actors run.actors actors (all_true (λ b. Unit {0}) (λ b. tt) run.actors));
          answers = all_zip_become (λ a b. IsActorOf a b × (b.left ≡ [])) (λ b. Unit {0}) (λ a p. AllZip Answers a.steps p.steps) actor_part_of
              (λ a b of u. subst (λ l. AllZip Answers l b.answers)
              (sym (of.0.through.whole ∙ ap (λ l. of.0.through.done ++ l) of.1 ∙ append-nil of.0.through.done)) of.0.through.answers)
              script.actors run.actors actors (all_true (λ b. Unit {0}) (λ b. tt) run.actors);
        }

    -- it is legal
    pub legal_at_end : IsHookLegal wish script (journal_at_end run)
    legal_at_end = parts_legal wish script sound (journal_at_end run) form_at_end
        (all_zip_become IsSurfaceOf (λ now. IsHookedSurface wish script run.actors now × (count_by (mounts_on now.id) script.actors ≤ 1))
        (λ s part. IsPutTogether wish script (parts_of run.actors) s.size part) (surface_part_of (parts_of run.actors))
        (λ s now of k. subst (λ size. IsPutTogether wish script (parts_of run.actors) size (surface_part_of (parts_of run.actors) now)) of.first (put_together now k.0 k.1))
        script.surfaces run.surfaces h.surfaces
        (all_both (IsHookedSurface wish script run.actors) (λ now. count_by (mounts_on now.id) script.actors ≤ 1) run.surfaces h.kept (one_mounter script sound run.surfaces h.surfaces)))
