-- The spines of a run on threads and their passes, a surface further; and that the workers may work with them.
use Rattle.std.proofs.Common.{◌≡◌, ℕ, List, [], ◌∷◌, ◌++◌, ◌+◌, length, map, arith, refl, ap, sym, ◌∙◌, subst, append-nil, take_at}
use Rattle.std.specs.Prelude.{None, nat_eq}
use Rattle.std.specs.List.{AllZip, IsDistinct}
use Rattle.std.specs.Map.{keys_of, lookup}
use Rattle.std.proofs.lemmas.List.{map-append, nil_from_length}
use Rattle.tree_revision.specs.Settled.{KeptRevision}
use Rattle.tree_revision.specs.Script.{PlainActor, PlainSurface, PlainScript}
use Rattle.tree_revision.specs.Sound.{ids_of}
use Rattle.commit_spine.specs.declared.spine_parts.Spine.{Spine}
use Rattle.commit_spine.specs.Passes.{KeptByPass, fresh_pass}
use Rattle.commit_spine.specs.SpinePasses.{PassValue}
use Rattle.commit_spine.specs.Calls.{IsPassOf}
use Rattle.run_report.proofs.Pairs.{all_zip_push, all_zip_at}
use Rattle.run_report.specs.Shorthands.{begun}
use Rattle.run_engine.specs.Run.{commits_left}
use Rattle.run_engine.specs.Opening.{IsOpening, AreOpenings}
use Rattle.run_engine.specs.Workers.{MayWork}
use Rattle.run_engine.specs.Spines.{AreSpinesAtStart, kept_at_start}
use Rattle.run_engine.proofs.Finishing.{at_yielded}
use Rattle.run_engine.proofs.Openings.{zip_from, ids_are, is_new, keys_map}

-- the opening that comes next is one of a surface
pub opening_next : (surfaces : List PlainSurface) (before rest more : List (ℕ × KeptRevision)) (entry : ℕ × KeptRevision) → AreOpenings surfaces (before ++ rest) → rest ≡ entry ∷ more
    → entry.1.newest.number ≡ 0
opening_next surfaces before rest more entry openings next =
    (zip_from IsOpening surfaces (before ++ rest) (length before) entry openings (at_yielded (before ++ rest) before rest more entry refl next)).2.stands.newest.number

-- its id is new
pub id_is_new : {A : Type 0} (surfaces : List PlainSurface) (before rest more : List (ℕ × KeptRevision)) (entry : ℕ × KeptRevision) (entries : List (ℕ × A))
    → IsDistinct nat_eq (ids_of surfaces) → AreOpenings surfaces (before ++ rest) → rest ≡ entry ∷ more → keys_of entries ≡ keys_of before → lookup (nat_eq entry.0) entries ≡ None
id_is_new surfaces before rest more entry entries distinct openings next same =
    is_new (before ++ rest) entries (length before) entry (subst (IsDistinct nat_eq) (sym (ids_are surfaces (before ++ rest) openings)) distinct)
    (at_yielded (before ++ rest) before rest more entry refl next) (same ∙ ap keys_of (sym (take_at before rest (length before) refl)))

-- the ids so far, and one more
pub keys_push : {A B : Type 0} (before : List (ℕ × A)) (entry : ℕ × A) (entries all : List (ℕ × B)) (item : B) → all ≡ entries ++ (entry.0, item) ∷ [] → keys_of entries ≡ keys_of before
    → keys_of all ≡ keys_of (before ++ entry ∷ [])
keys_push before entry entries all item all_are same =
    ap keys_of all_are ∙ keys_map (entries ++ (entry.0, item) ∷ []) ∙ map-append (λ e. e.0) entries ((entry.0, item) ∷ [])
    ∙ ap (λ l. l ++ entry.0 ∷ []) (sym (keys_map entries) ∙ same ∙ keys_map before)
    ∙ sym (keys_map (before ++ entry ∷ []) ∙ map-append (λ e. e.0) before (entry ∷ []))

-- spines and passes so far, and one more
pub of_spines_next : (spines all_spines : List (ℕ × Spine)) (passes all_passes : List (ℕ × PassValue)) (id : ℕ) (spine : Spine) (pass : PassValue)
    → all_spines ≡ spines ++ (id, spine) ∷ [] → all_passes ≡ passes ++ (id, pass) ∷ [] → IsPassOf spine pass
    → AllZip (λ (spine : ℕ × Spine) (pass : ℕ × PassValue). IsPassOf spine.1 pass.1) spines passes
    → AllZip (λ (spine : ℕ × Spine) (pass : ℕ × PassValue). IsPassOf spine.1 pass.1) all_spines all_passes
of_spines_next spines all_spines passes all_passes id spine pass spines_are passes_are of_spine so_far =
    let Of = λ (spine : ℕ × Spine) (pass : ℕ × PassValue). IsPassOf spine.1 pass.1 in
    subst (λ l. AllZip Of l all_passes) (sym spines_are) (subst (λ l. AllZip Of (spines ++ (id, spine) ∷ []) l) (sym passes_are)
    (all_zip_push Of spines passes (id, spine) (id, pass) so_far of_spine))

-- what the pass keeps that a spine starts with
pub kept_begun : (actors : List PlainActor) (entry : ℕ × KeptRevision) (pass : PassValue) (room seats : ℕ)
    → pass.kept ≡ fresh_pass (record { first = entry.1.newest.size; room = room; seats = seats }) seats room → room ≡ commits_left entry.0 (map begun actors) → seats ≡ length actors + 1
    → pass.kept ≡ kept_at_start actors entry.0 entry.1.newest.size
kept_begun actors entry pass room seats fresh room_is seats_are =
    fresh ∙ (λ i. fresh_pass (record { first = entry.1.newest.size; room = room_is i; seats = seats_are i }) (seats_are i) (room_is i))

-- what each pass keeps so far, and one more
pub kept_next : (actors : List PlainActor) (before : List (ℕ × KeptRevision)) (entry : ℕ × KeptRevision) (passes all : List (ℕ × PassValue)) (pass : PassValue) → all ≡ passes ++ (entry.0, pass) ∷ []
    → pass.kept ≡ kept_at_start actors entry.0 entry.1.newest.size
    → AllZip (λ (entry : ℕ × KeptRevision) (pass : ℕ × PassValue). pass.1.kept ≡ kept_at_start actors entry.0 entry.1.newest.size) before passes
    → AllZip (λ (entry : ℕ × KeptRevision) (pass : ℕ × PassValue). pass.1.kept ≡ kept_at_start actors entry.0 entry.1.newest.size) (before ++ entry ∷ []) all
kept_next actors before entry passes all pass all_are own so_far =
    let Kept = λ (entry : ℕ × KeptRevision) (pass : ℕ × PassValue). pass.1.kept ≡ kept_at_start actors entry.0 entry.1.newest.size in
    subst (AllZip Kept (before ++ entry ∷ [])) (sym all_are) (all_zip_push Kept before passes entry (entry.0, pass) so_far own)

-- what each pass keeps, by its surface
kept_by_surface : (actors : List PlainActor) (surfaces : List PlainSurface) (first : List (ℕ × KeptRevision)) (passes : List (ℕ × PassValue)) → AreOpenings surfaces first
    → AllZip (λ (entry : ℕ × KeptRevision) (pass : ℕ × PassValue). pass.1.kept ≡ kept_at_start actors entry.0 entry.1.newest.size) first passes
    → AllZip (λ (surface : PlainSurface) (pass : ℕ × PassValue). pass.1.kept ≡ kept_at_start actors surface.id surface.size) surfaces passes
kept_by_surface actors [] [] [] openings kept = tt
kept_by_surface actors [] [] (pass ∷ passes) openings kept = absurd kept
kept_by_surface actors [] (entry ∷ first) passes openings kept = absurd openings
kept_by_surface actors (surface ∷ surfaces) [] passes openings kept = absurd openings
kept_by_surface actors (surface ∷ surfaces) (entry ∷ first) [] openings kept = absurd kept
kept_by_surface actors (surface ∷ surfaces) (entry ∷ first) (pass ∷ passes) openings kept = (
  kept.0 ∙ (λ i. kept_at_start actors (openings.0.id i) (openings.0.stands.newest.size i)),
  kept_by_surface actors surfaces first passes openings.1 kept.1,
)

-- after the last surface they are all
pub all_opened : (script : PlainScript) (before rest : List (ℕ × KeptRevision)) (spines : List (ℕ × Spine)) (passes : List (ℕ × PassValue)) → length rest ≡ 0
    → AreOpenings script.surfaces (before ++ rest) → keys_of spines ≡ keys_of before → keys_of passes ≡ keys_of before
    → AllZip (λ (spine : ℕ × Spine) (pass : ℕ × PassValue). IsPassOf spine.1 pass.1) spines passes
    → AllZip (λ (entry : ℕ × KeptRevision) (pass : ℕ × PassValue). pass.1.kept ≡ kept_at_start script.actors entry.0 entry.1.newest.size) before passes
    → AreSpinesAtStart script spines passes
all_opened script before rest spines passes none openings spine_keys pass_keys of_spines kept =
    let all : AreOpenings script.surfaces before = subst (AreOpenings script.surfaces) (ap (λ l. before ++ l) (nil_from_length rest none) ∙ append-nil before) openings in
    record {
      spine_ids = spine_keys ∙ ids_are script.surfaces before all;
      pass_ids = pass_keys ∙ ids_are script.surfaces before all;
      of_spines = of_spines;
      kept = kept_by_surface script.actors script.surfaces before passes all kept;
    }

-- the workers of a script may work with them
pub may_work : (script : PlainScript) (spines : List (ℕ × Spine)) (passes : List (ℕ × PassValue)) → AreSpinesAtStart script spines passes → MayWork script spines passes
may_work script spines passes start = record {
  spine_ids = start.spine_ids;
  pass_ids = start.pass_ids;
  each = λ place surface spine pass at to there.
      let kept : pass.1.kept ≡ kept_at_start script.actors surface.id surface.size =
      all_zip_at (λ (surface : PlainSurface) (pass : ℕ × PassValue). pass.1.kept ≡ kept_at_start script.actors surface.id surface.size) script.surfaces passes place surface pass start.kept at there in
      record {
        of_spine = all_zip_at (λ (spine : ℕ × Spine) (pass : ℕ × PassValue). IsPassOf spine.1 pass.1) spines passes place spine pass start.of_spines to there;
        first = ap (λ (k : KeptByPass). k.mark.first) kept;
        seen = ap (λ (k : KeptByPass). k.seen) kept;
        own = ap (λ (k : KeptByPass). k.own) kept;
        shares = omega (arith, ap (λ (k : KeptByPass). k.shares) kept);
        permits = omega (arith, ap (λ (k : KeptByPass). k.permits) kept);
      };
}
