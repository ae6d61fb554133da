-- The ends of the surfaces of a run on threads, a surface further; and that they may be closed.
use Rattle.std.proofs.Common.{◌≡◌, ℕ, zero, suc, ◌+◌, ◌<◌, ◌≤◌, List, [], ◌∷◌, ◌++◌, length, drop, map, slice_get, arith, ap, sym, ◌∙◌, subst, length-append}
use Rattle.std.specs.Prelude.{Some}
use Rattle.std.proofs.lemmas.Option.{same_Some, slice_get_within}
use Rattle.std.proofs.lemmas.List.{length-map}
use Rattle.shadow_frame.specs.declared.Size.{Size}
use Rattle.tree_revision.specs.Lawful.{IsLawful}
use Rattle.tree_revision.specs.Records.{PlainRecord}
use Rattle.tree_revision.specs.Script.{PlainSurface, PlainScript}
use Rattle.tree_revision.specs.Ports.{BeginsWith}
use Rattle.mount_coordinator.specs.Mounted.{PlainCoordinator, IsBaseIn}
use Rattle.mount_coordinator.specs.Answers.{MayFinish}
use Rattle.run_report.specs.declared.journal.MountPart.{MountPart}
use Rattle.run_report.specs.declared.journal.SurfacePart.{SurfacePart}
use Rattle.run_report.specs.Journal.{plain_mount, plain_surface_part}
use Rattle.run_report.specs.Mounts.{Passage, last_to, mount_along}
use Rattle.run_report.proofs.Begins.{begins_more}
use Rattle.run_report.proofs.Lists.{item_within}
use Rattle.run_report.proofs.Pairs.{all_zip_at, all_zip_length}
use Rattle.commit_spine.specs.declared.spine_parts.Spine.{Spine}
use Rattle.commit_spine.specs.declared.store.Store.{Store}
use Rattle.commit_spine.specs.declared.mark.SpineMark.{SpineMark}
use Rattle.commit_spine.specs.Passes.{KeptByPass, times_own}
use Rattle.commit_spine.specs.SpineRule.{AllStandIn}
use Rattle.commit_spine.specs.SpinePasses.{PassValue}
use Rattle.commit_spine.specs.StepTells.{IsEndOf}
use Rattle.commit_spine.specs.Calls.{IsPassOf}
use Rattle.commit_core.specs.Plain.{plain_records}
use Rattle.run_actor.specs.Actors.{RunningActor}
use Rattle.run_engine.specs.Ends.{IsClosedPart, part_over}
use Rattle.run_engine.specs.Workers.{HaveWorked}
use Rattle.run_engine.specs.Spines.{AreSpinesAtStart, MayClose, MayCloseAll, IsPartAtEnd, kept_at_start}
use Rattle.run_engine.proofs.Changes.{mounted_more}
use Rattle.run_engine.proofs.Finishing.{at_yielded}
use Rattle.run_engine.proofs.Gathered.{keys_length}
use Rattle.run_engine.proofs.Loops.{push_cases}

-- a part is that of the surface of that place at its end
abbrev pub EndsAt : List (ℕ × Spine) → List (ℕ × PassValue) → List PlainCoordinator → List (List MountPart) → (place : ℕ) → SurfacePart → Type 0
EndsAt spines passes mounted lists place part =
    (spine : ℕ × Spine) (pass : ℕ × PassValue) (coordinator : PlainCoordinator) (mounts : List MountPart) → slice_get spines place ≡ Some spine → slice_get passes place ≡ Some pass
    → slice_get mounted place ≡ Some coordinator → slice_get lists place ≡ Some mounts → IsPartAtEnd spine.0 pass.1 coordinator mounts (plain_surface_part part)

-- what is left of a list, an item further
pub dropped_next : {A : Type 0} (xs rest more : List A) (n : ℕ) (x : A) → rest ≡ drop n xs → rest ≡ x ∷ more → (slice_get xs n ≡ Some x) × (more ≡ drop (n + 1) xs)
dropped_next {A} xs rest more n x is next = from xs n (sym is ∙ next)
  where
    from : (ys : List A) (m : ℕ) → drop m ys ≡ x ∷ more → (slice_get ys m ≡ Some x) × (more ≡ drop (m + 1) ys)
    from [] zero e = absurd (omega (arith, ap length e))
    from [] (suc m) e = absurd (omega (arith, ap length e))
    from (y ∷ ys) zero e = (ap (λ l. slice_get l 0) e, sym (ap (drop 1) e))
    from (y ∷ ys) (suc m) e =
        let rest = from ys m e in
        let k : suc (m + 1) ≡ suc m + 1 = omega arith in
        (rest.0, rest.1 ∙ ap (λ n. drop n (y ∷ ys)) k)

-- the base stands for the first of the whole history, too
base_over : (spine : Spine) (pass : PassValue) (mounted : PlainCoordinator) (history : List PlainRecord) → MayClose spine pass mounted → BeginsWith history pass.kept.seen
    → IsBaseIn pass.kept.mark.first history mounted.base
base_over spine pass mounted history may begins =
    let more = begins_more history pass.kept.seen begins in
    subst (λ l. IsBaseIn pass.kept.mark.first l mounted.base) (sym more.1) (mounted_more pass.kept.mark.first pass.kept.seen more.0 mounted.base may.stands)

-- a closed spine's history may be finished
pub may_finish : (spine : Spine) (pass : PassValue) (mounted : PlainCoordinator) (store : Store) → MayClose spine pass mounted → IsEndOf pass.kept (Some store) → MayFinish mounted store.front
may_finish spine pass mounted store may end = record {
  first = pass.kept.mark.first;
  entries = end.history;
  stands = end.store.front;
  mounted = base_over spine pass mounted end.history may end.seen;
}

-- and its part is that of the surface at its end
pub part_at_end : (id : ℕ) (spine : Spine) (pass : PassValue) (mounted : PlainCoordinator) (store : Store) (mounts : List MountPart) (part : SurfacePart) → MayClose spine pass mounted
    → IsEndOf pass.kept (Some store) → IsClosedPart id (plain_records store.records.items) store.front mounted.base mounts part → IsPartAtEnd id pass mounted mounts (plain_surface_part part)
part_at_end id spine pass mounted store mounts part may end is =
    let first : Size = pass.kept.mark.first in
    let closed : IsClosedPart id end.history store.front mounted.base mounts part = subst (λ l. IsClosedPart id l store.front mounted.base mounts part) end.store.records is in
    let whole : end.history ≡ (plain_surface_part part).records = sym closed.records_are in
    record {
      id_is = is.id_is;
      lawful = subst (IsLawful first) whole end.store.front.lawful;
      seen = subst (λ l. BeginsWith l pass.kept.seen) whole end.seen;
      own = subst (λ l. AllStandIn l pass.kept.own) whole end.own;
      once = subst (λ (l : List PlainRecord). (number : ℕ) → 1 ≤ number → number ≤ length l → times_own number pass.kept.own ≡ 1) whole end.once;
      along = subst (λ (l : List PlainRecord). (passages : List Passage) → last_to passages ≡ mounted.base.number → map plain_mount mounts ≡ map (mount_along first l) passages
          → plain_surface_part part ≡ part_over id first l passages) whole
          (λ passages last along. closed.along first passages end.store.front (base_over spine pass mounted end.history may end.seen) last along);
    }

-- what may be closed at the place that comes next
pub may_close_next : (spines : List (ℕ × Spine)) (passes : List (ℕ × PassValue)) (mounted : List PlainCoordinator) (before rest more : List (ℕ × Spine)) (id : ℕ) (spine : Spine)
    (passes_left passes_more : List (ℕ × PassValue)) (key : ℕ) (pass : PassValue) (mounted_left mounted_more : List PlainCoordinator) (coordinator : PlainCoordinator)
    → MayCloseAll spines passes mounted → spines ≡ before ++ rest → rest ≡ (id, spine) ∷ more → passes_left ≡ drop (length before) passes → passes_left ≡ (key, pass) ∷ passes_more
    → mounted_left ≡ drop (length before) mounted → mounted_left ≡ coordinator ∷ mounted_more → MayClose spine pass coordinator
may_close_next spines passes mounted before rest more id spine passes_left passes_more key pass mounted_left mounted_more coordinator may all next passes_are pass_next mounted_are mounted_next =
    may.each (length before) (id, spine) (key, pass) coordinator (at_yielded spines before rest more (id, spine) all next)
    (dropped_next passes passes_left passes_more (length before) (key, pass) passes_are pass_next).0
    (dropped_next mounted mounted_left mounted_more (length before) coordinator mounted_are mounted_next).0

-- what is left of a list behind one item more
pub left_next : {A B : Type 0} (xs rest more : List A) (x : A) (before : List B) (item : B) → rest ≡ drop (length before) xs → rest ≡ x ∷ more → more ≡ drop (length (before ++ item ∷ [])) xs
left_next xs rest more x before item is next =
    let longer : length before + 1 ≡ length (before ++ item ∷ []) = omega (arith, length-append before (item ∷ [])) in
    (dropped_next xs rest more (length before) x is next).1 ∙ ap (λ n. drop n xs) longer

-- the ends so far, and one more
pub ends_next : (spines : List (ℕ × Spine)) (passes : List (ℕ × PassValue)) (mounted : List PlainCoordinator) (lists : List (List MountPart)) (parts all : List SurfacePart) (part : SurfacePart) (n : ℕ)
    (spine : ℕ × Spine) (pass : ℕ × PassValue) (coordinator : PlainCoordinator) (mounts : List MountPart) → all ≡ parts ++ part ∷ [] → length parts ≡ n
    → slice_get spines n ≡ Some spine → slice_get passes n ≡ Some pass → slice_get mounted n ≡ Some coordinator → slice_get lists n ≡ Some mounts
    → IsPartAtEnd spine.0 pass.1 coordinator mounts (plain_surface_part part)
    → ((place : ℕ) (part : SurfacePart) → slice_get parts place ≡ Some part → EndsAt spines passes mounted lists place part)
    → (place : ℕ) (part : SurfacePart) → slice_get all place ≡ Some part → EndsAt spines passes mounted lists place part
ends_next spines passes mounted lists parts all part n spine pass coordinator mounts all_are count at to on with own so_far place other there =
    let k : 0 + length parts ≡ n = omega (arith, count) in
    let here : 0 + place ≡ place = omega arith in
    subst (λ n. EndsAt spines passes mounted lists n other) here
    (push_cases (EndsAt spines passes mounted lists) parts 0 part
    (λ j a e. let m : j ≡ 0 + j = omega arith in subst (λ n. EndsAt spines passes mounted lists n a) m (so_far j a e))
    (subst (λ k. EndsAt spines passes mounted lists k part) (sym k)
    (λ s p c m s_at p_at c_at m_at.
    subst (λ m. IsPartAtEnd s.0 p.1 c m (plain_surface_part part)) (same_Some mounts m (sym with ∙ m_at))
    (subst (λ c. IsPartAtEnd s.0 p.1 c mounts (plain_surface_part part)) (same_Some coordinator c (sym on ∙ c_at))
    (subst (λ (p : ℕ × PassValue). IsPartAtEnd s.0 p.1 coordinator mounts (plain_surface_part part)) (same_Some pass p (sym to ∙ p_at))
    (subst (λ (s : ℕ × Spine). IsPartAtEnd s.0 pass.1 coordinator mounts (plain_surface_part part)) (same_Some spine s (sym at ∙ s_at)) own)))))
    place other (subst (λ l. slice_get l place ≡ Some other) all_are there))

-- what the workers leave may be closed
pub may_close : (script : PlainScript) (spines : List (ℕ × Spine)) (was is : List (ℕ × PassValue)) (actors : List RunningActor) (mounted : List PlainCoordinator)
    → AreSpinesAtStart script spines was → HaveWorked script was is actors mounted → MayCloseAll spines is mounted
may_close script spines was is actors mounted start worked =
    let surface_count : length spines ≡ length script.surfaces = sym (keys_length spines) ∙ ap length start.spine_ids ∙ length-map script.surfaces (λ surface. surface.id) in
    let pass_count : length is ≡ length script.surfaces = sym (keys_length is) ∙ ap length (worked.pass_ids ∙ start.pass_ids) ∙ length-map script.surfaces (λ surface. surface.id) in
    let Kept = λ (surface : PlainSurface) (pass : ℕ × PassValue). pass.1.kept ≡ kept_at_start script.actors surface.id surface.size in
    record {
      pass_count = pass_count ∙ sym surface_count;
      mounted_count = worked.mount_count ∙ sym surface_count;
      each = λ place spine pass coordinator at to on.
          let below : place < length script.surfaces = omega (arith, slice_get_within spines place spine at, surface_count) in
          let surface = item_within script.surfaces place below in
          let old = item_within was place (omega (arith, below, all_zip_length Kept script.surfaces was start.kept)) in
          let kept : old.0.1.kept ≡ kept_at_start script.actors surface.0.id surface.0.size = all_zip_at Kept script.surfaces was place surface.0 old.0 start.kept surface.1 old.1 in
          let own = worked.surfaces place surface.0 old.0 pass coordinator surface.1 old.1 to on in
          record {
            of_spine = own.spine ∙ all_zip_at (λ (spine : ℕ × Spine) (pass : ℕ × PassValue). IsPassOf spine.1 pass.1) spines was place spine old.0 start.of_spines at old.1;
            shares = omega (arith, own.shares, ap (λ (k : KeptByPass). k.shares) kept, ap (λ (k : KeptByPass). k.mark.seats) kept, ap (λ (m : SpineMark). m.seats) own.mark);
            stands = subst (λ size. IsBaseIn size pass.1.kept.seen coordinator.base) (sym (ap (λ (m : SpineMark). m.first) own.mark ∙ ap (λ (k : KeptByPass). k.mark.first) kept)) own.stands;
          };
    }
