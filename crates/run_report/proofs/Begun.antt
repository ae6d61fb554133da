-- A run before its first turn keeps what a run keeps.
use Rattle.std.proofs.Common.{◌≡◌, ℕ, List, [], map, nat_eq, slice_get, option_map, Option, Some, None, arith, refl, ap, sym, ◌∙◌, subst, filter}
use Rattle.std.specs.List.{AllByRecursion}
use Rattle.std.proofs.lemmas.Option.{same_Some, slice_get-map}
use Rattle.std.proofs.lemmas.List.{length-map}
use Rattle.shadow_frame.specs.declared.Size.{Size}
use Rattle.tree_revision.specs.Records.{PlainRecord}
use Rattle.tree_revision.specs.Script.{PlainActor, PlainSurface, PlainScript}
use Rattle.run_report.specs.Journal.{PlainActorPart}
use Rattle.run_report.specs.Mounts.{passages_by, last_to}
use Rattle.run_report.specs.Shorthands.{passages_named, surface_at_start, begun}
use Rattle.run_report.specs.Legal.{FollowOn}
use Rattle.run_report.specs.Machine.{actor_part_of, run_of}
use Rattle.tree_revision.specs.Wishes.{Wish, as_written}
use Rattle.run_report.proofs.Lists.{numbered_none, all_true, all_map}
use Rattle.run_report.proofs.Pairs.{each_begun, all_zip_begun}
use Rattle.run_report.proofs.Looks.{taken_after-none}
use Rattle.run_report.specs.ActorLegal.{IsLegalStep, IsLegalSoFar}
use Rattle.run_report.proofs.Kept.{parts_of, IsHookedSurface, IsActorOf, IsSurfaceOf, IsHookedRun, IsRunOf}
use Rattle.run_report.proofs.Actors.{under_way_fresh}

-- an actor that has not begun is legal
pub legal_begun : (wish : Wish) (first : Size) (id : ℕ) (records : List PlainRecord) (floor number : ℕ) (actor : PlainActor) → IsLegalSoFar wish first id records floor number actor.steps (begun actor)
legal_begun wish first id records floor number actor = record {
  answers = record {
    taken = λ entries m. subst (λ l. AllByRecursion (IsLegalStep wish first id entries) (filter (λ taken. nat_eq taken.step.surface id) l)) (sym (taken_after-none number [] actor.steps)) tt;
    point = λ entries m. omega arith;
    holds = omega arith;
  };
  under_way = under_way_fresh wish first id records floor (begun actor) actor.steps refl refl;
}

-- no passage is named
pub passages_begun : (id : ℕ) (actors : List PlainActor) → passages_named id (parts_of (map begun actors)) ≡ []
passages_begun id actors =
    numbered_none (λ entry. passages_by id entry.0 entry.1.steps) 0 (parts_of (map begun actors)) (λ j m part e at. none j m part at)
  where
    is : (j : ℕ) (a : Option PlainActor) (part : PlainActorPart) → option_map actor_part_of (option_map begun a) ≡ Some part → part.steps ≡ []
    is j None part e = absurd (cc)
    is j (Some a) part e = ap (λ p. p.steps) (sym (same_Some (actor_part_of (begun a)) part e))

    none : (j m : ℕ) (part : PlainActorPart) → slice_get (parts_of (map begun actors)) j ≡ Some part → passages_by id m part.steps ≡ []
    none j m part at =
        ap (passages_by id m)
        (is j (slice_get actors j) part (sym (slice_get-map actor_part_of (map begun actors) j ∙ ap (option_map actor_part_of) (slice_get-map begun actors j)) ∙ at))

-- so does a surface
pub surface_begun : (wish : Wish) (script : PlainScript) (surface : PlainSurface) → IsHookedSurface wish script (map begun script.actors) (surface_at_start surface)
surface_begun wish script surface = record {
  lawful = tt;
  base = omega arith;
  forward = subst (FollowOn 0) (sym (passages_begun surface.id script.actors)) tt;
  last = ap last_to (passages_begun surface.id script.actors);
  named = λ entries m. tt;
  actors_on = each_begun (λ n a b. IsLegalSoFar wish surface.size surface.id [] 0 n a.steps b) begun script.actors (λ i a. legal_begun wish surface.size surface.id [] 0 i a);
  mounters = each_begun _ begun script.actors (λ i a m. refl);
}

-- and so does the run
pub hooked_run_begun : (wish : Wish) (script : PlainScript) → IsHookedRun wish script (run_of script)
hooked_run_begun wish script = record {
  surfaces = all_zip_begun IsSurfaceOf surface_at_start script.surfaces (λ s. record { id = refl; first = refl });
  count = length-map script.actors begun;
  actors = each_begun (λ n a b. IsActorOf a b) begun script.actors (λ i a. record { name = refl; through = record { done = []; whole = refl; answers = tt } });
  kept = all_map (IsHookedSurface wish script (map begun script.actors)) surface_at_start script.surfaces
      (all_true (λ s. IsHookedSurface wish script (map begun script.actors) (surface_at_start s)) (surface_begun wish script) script.surfaces);
}

pub run_begun : (script : PlainScript) → IsRunOf script (run_of script)
run_begun = hooked_run_begun as_written
