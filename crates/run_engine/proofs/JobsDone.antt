-- The workers of a script begin, and what they leave.
use Rattle.std.proofs.Common.{◌≡◌, ℕ, suc, ◌+◌, ◌≤◌, true, ◌||◌, List, [], ◌∷◌, length, map, slice_get, arith, refl, ap, sym, subst, ◌∙◌, eqb-true, inl, inr}
use Rattle.std.specs.Prelude.{Some, nat_eq, All, Contains}
use Rattle.std.specs.Option.{option_map}
use Rattle.std.specs.List.{IsDistinct, AllZip, list_any}
use Rattle.std.specs.Map.{keys_of}
use Rattle.std.proofs.lemmas.Bool.{cases_Bool, true≢false}
use Rattle.std.proofs.lemmas.Option.{none-some, same_Some, slice_get-map}
use Rattle.std.proofs.lemmas.List.{length-map}
use Rattle.tree_revision.specs.InRange.{IsStepInRange}
use Rattle.tree_revision.specs.Records.{PlainRecord}
use Rattle.tree_revision.specs.Script.{PlainActor, PlainScript, PlainStep, PlainSurface}
use Rattle.tree_revision.specs.Settled.{KeptRevision}
use Rattle.tree_revision.specs.Sound.{HasOneMounter, IsSoundScript, ids_of}
use Rattle.mount_coordinator.specs.Mounted.{PlainCoordinator}
use Rattle.run_report.specs.Shorthands.{begun}
use Rattle.run_report.proofs.Lists.{all_at}
use Rattle.run_report.proofs.Pairs.{all_zip_at, all_zip_length}
use Rattle.commit_spine.specs.declared.spine_parts.Spine.{Spine}
use Rattle.commit_spine.specs.SpinePasses.{PassValue}
use Rattle.commit_spine.specs.SpinePorts.{spine_told}
use Rattle.run_actor.specs.Actors.{RunningActor}
use Rattle.run_actor.specs.Actions.{begun_actor}
use Rattle.run_actor.specs.Runs.{HasRun, HasRunOn, IsBegun, MayBegin}
use Rattle.run_engine.specs.declared.jobs.Job.{Job}
use Rattle.run_engine.specs.Opening.{AreOpenings, IsOpening}
use Rattle.run_engine.specs.Run.{commits_left}
use Rattle.run_engine.specs.Workers.{HasFinished, HaveWorked, HaveWorkedOn, MayWork}
use Rattle.run_engine.specs.Jobs.{AreDone, AreHandedBack, AreJobsAtStart, AreOfSpines, AreRun, HasGathered, HasRunJob, IsDone, IsJobAtStart, IsMountFor, IsUnmounted, MayGather, MayGiveAll, MayRun, MayRunEach, after_own_passes, own_pass}
use Rattle.run_engine.proofs.JobsBegin.{first_base, job_begins, job_leaves, same_spine}
use Rattle.run_engine.proofs.Gathered.{keys_length}
use Rattle.run_engine.proofs.JobsGather.{there_too}
use Rattle.run_engine.proofs.Openings.{ids_are, keys_at}

-- entries with the ids of surfaces: as many, and each with its surface's id
ids_count : {A : Type 0} (surfaces : List PlainSurface) (entries : List (ℕ × A)) → keys_of entries ≡ ids_of surfaces → length entries ≡ length surfaces
ids_count surfaces entries same = sym (keys_length entries) ∙ ap length same ∙ length-map surfaces (λ s. s.id)

id_at : {A : Type 0} (surfaces : List PlainSurface) (entries : List (ℕ × A)) (place : ℕ) (surface : PlainSurface) (entry : ℕ × A) → keys_of entries ≡ ids_of surfaces
    → slice_get surfaces place ≡ Some surface → slice_get entries place ≡ Some entry → entry.0 ≡ surface.id
id_at surfaces entries place surface entry same at to =
    same_Some entry.0 surface.id (sym (keys_at entries place entry to) ∙ ap (λ l. slice_get l place) same ∙ slice_get-map (λ s. s.id) surfaces place ∙ ap (option_map (λ s. s.id)) at)

-- an id that is among the keys has an entry
place_of_id : {A : Type 0} (entries : List (ℕ × A)) (id : ℕ) → list_any (λ k. nat_eq k id) (keys_of entries) ≡ true → (place : ℕ) × (value : A) × (slice_get entries place ≡ Some (id, value))
place_of_id [] id there = absurd (true≢false (sym there))
place_of_id (entry ∷ entries) id there =
    elim (cases_Bool (nat_eq entry.0 id)) [
      | inl same ↦ (0, entry.1, ap (λ k. Some (k, entry.1)) (eqb-true entry.0 id same))
      | inr off ↦
          let rest = place_of_id entries id (sym (ap (λ b. b || list_any (λ k. nat_eq k id) (keys_of entries)) off) ∙ there) in
          (suc rest.0, rest.1, rest.2)
    ]

-- what stands at a place of what is made of each
pub made_at : {A B : Type 0} (f : A → B) (xs : List A) (i : ℕ) (x : A) (y : B) → slice_get xs i ≡ Some x → slice_get (map f xs) i ≡ Some y → y ≡ f x
made_at f xs i x y at to = same_Some y (f x) (sym to ∙ slice_get-map f xs i ∙ ap (option_map f) at)

-- keys stay where each entry keeps its own
keys_kept : {A : Type 0} (f : ℕ × A → ℕ × A) (entries : List (ℕ × A)) → ((e : ℕ × A) → (f e).0 ≡ e.0) → keys_of (map f entries) ≡ keys_of entries
keys_kept f [] same = refl
keys_kept f (e ∷ entries) same = λ i. same e i ∷ keys_kept f entries same i

-- what was gathered of a surface is what the workers leave there
worked_on : {script : PlainScript} → (surface : PlainSurface) (given : ℕ × PassValue) (new : PassValue) (actors : List RunningActor) (mounted : PlainCoordinator) → given.0 ≡ surface.id
    → length script.actors + 1 ≤ given.1.kept.shares → commits_left surface.id (map begun script.actors) ≤ given.1.kept.permits
    → HasGathered surface script.actors actors (after_own_passes script.actors given).1 new mounted → HaveWorkedOn script surface given.1 new mounted actors
worked_on {script} surface given new actors mounted id shares permits gathered =
    let same : commits_left given.0 (map begun script.actors) ≡ commits_left surface.id (map begun script.actors) = ap (λ n. commits_left n (map begun script.actors)) id in
    record {
      spine = gathered.spine;
      mark = gathered.mark;
      shares = omega (arith, gathered.shares, shares);
      looks = gathered.looks;
      own = gathered.own;
      permits = omega (arith, gathered.permits, permits, same);
      each = gathered.each;
      base = gathered.base;
      stands = gathered.stands;
    }

module _ (script : PlainScript) (sound : IsSoundScript script) (spines : List (ℕ × Spine)) (passes : List (ℕ × PassValue)) (may : MayWork script spines passes) where
  spine_count : length spines ≡ length script.surfaces
  spine_count = ids_count script.surfaces spines may.spine_ids

  pass_count : length passes ≡ length script.surfaces
  pass_count = ids_count script.surfaces passes may.pass_ids

  -- each pass may be split among the actors
  pub may_give_all : MayGiveAll script.actors spines passes
  may_give_all = record {
    count = spine_count ∙ sym pass_count;
    each = λ place spine pass s p.
        let surface = there_too passes script.surfaces place pass p (sym pass_count) in
        let split = may.each place surface.0 spine pass surface.1 s p in
        let id = id_at script.surfaces passes place surface.0 pass may.pass_ids surface.1 p in
        (split.of_spine, split.shares, omega (arith, split.permits, ap (λ n. commits_left n (map begun script.actors)) id));
  }

  module _ (first : List (ℕ × KeptRevision)) (openings : AreOpenings script.surfaces first) where
    first_ids : IsDistinct nat_eq (keys_of first)
    first_ids = subst (IsDistinct nat_eq) (sym (ids_are script.surfaces first openings)) sound.ids_differ

    first_count : length first ≡ length script.surfaces
    first_count = all_zip_length IsOpening script.surfaces first openings

    -- each step is on one of the surfaces
    known : (number : ℕ) (plan : PlainActor) → slice_get script.actors number ≡ Some plan → (step : PlainStep) → Contains plan.steps step
        → (place : ℕ) × (spine : Spine) × (slice_get spines place ≡ Some (step.surface, spine))
    known number plan at step there =
        let steps = all_at (λ (actor : PlainActor). All (IsStepInRange (ids_of script.surfaces)) actor.steps) script.actors number plan sound.steps at in
        let one = subst (IsStepInRange (ids_of script.surfaces)) there.2 (steps there.0 step there.1) in
        place_of_id spines step.surface (ap (list_any (λ k. nat_eq k step.surface)) may.spine_ids ∙ one.surface)

    module _ (number : ℕ) (plan : PlainActor) (plan_at : slice_get script.actors number ≡ Some plan) (job : Job) (start : IsJobAtStart first passes number plan job) where
      job_passes : length job.passes.items ≡ length script.surfaces
      job_passes = ap length start.passes_are ∙ length-map passes (own_pass plan.steps) ∙ pass_count

      job_mounts : length job.mounts.items ≡ length script.surfaces
      job_mounts = all_zip_length (IsMountFor plan) first job.mounts.items start.mounts ∙ first_count

      own_at : (place : ℕ) (given : ℕ × PassValue) (pass : PassValue) → slice_get passes place ≡ Some given → slice_get job.passes.items place ≡ Some pass → pass ≡ own_pass plan.steps given
      own_at place given pass g p = made_at (own_pass plan.steps) passes place given pass g (sym (ap (λ l. slice_get l place) start.passes_are) ∙ p)

      of_spines : AreOfSpines spines job.passes.items
      of_spines = record {
        count = job_passes ∙ sym spine_count;
        each = λ place spine pass s p.
            let surface = there_too spines script.surfaces place spine s (sym spine_count) in
            let given = there_too spines passes place spine s (pass_count ∙ sym spine_count) in
            ap (λ (v : PassValue). v.spine) (own_at place given.0 pass given.1 p) ∙ (may.each place surface.0 spine given.0 surface.1 s given.1).of_spine;
      }

      -- a worker may run the job
      pub may_run : MayRun spines job
      may_run = record {
        ids = subst (IsDistinct nat_eq) (sym may.spine_ids) sound.ids_differ;
        begun_actor = subst IsBegun (sym start.actor) (record { answers = refl; mounts = refl; commit = refl });
        passes = of_spines;
        mounts = job_mounts ∙ sym spine_count;
        known = λ step there. known number plan plan_at step (subst (λ (a : RunningActor). Contains a.left step) start.actor there);
        each = λ place spine pass mount s p m.
            let surface = there_too spines script.surfaces place spine s (sym spine_count) in
            let given = there_too spines passes place spine s (pass_count ∙ sym spine_count) in
            let entry = there_too spines first place spine s (first_count ∙ sym spine_count) in
            let split = may.each place surface.0 spine given.0 surface.1 s given.1 in
            let opening = all_zip_at IsOpening script.surfaces first place surface.0 entry.0 openings surface.1 entry.1 in
            let begins = job_begins surface.0 number plan first place entry.0 given.0 first_ids entry.1 opening.id opening.stands
            (id_at script.surfaces passes place surface.0 given.0 may.pass_ids surface.1 given.1) split.first split.seen mount
            (all_zip_at (IsMountFor plan) first job.mounts.items place entry.0 mount start.mounts entry.1 m) in
            subst (λ (a : RunningActor). MayBegin spine.0 (spine_told pass) mount a) (sym start.actor)
            (subst (λ (v : PassValue). MayBegin spine.0 (spine_told v) mount (begun_actor number plan first)) (sym (own_at place given.0 pass given.1 p))
            (subst (λ n. MayBegin n (spine_told (own_pass plan.steps given.0)) mount (begun_actor number plan first))
            (sym (id_at script.surfaces spines place surface.0 spine may.spine_ids surface.1 s)) begins));
      }

      module _ (after : Job) (ran : HasRunJob spines job after) where
        run : HasRun (begun_actor number plan first) after.actor
        run = subst (λ (a : RunningActor). HasRun a after.actor) start.actor ran.run

        -- its passes are still those of the spines
        pub still_of_spines : AreOfSpines spines after.passes.items
        still_of_spines = record {
          count = ran.passes;
          each = λ place spine pass s p.
              let was = there_too spines job.passes.items place spine s of_spines.count in
              let before = there_too spines job.mounts.items place spine s (job_mounts ∙ sym spine_count) in
              let is = there_too spines after.mounts.items place spine s ran.mounts in
              same_spine was.0 pass (ran.each place spine was.0 pass before.0 is.0 s was.1 p before.1 is.1).lasts.mark ∙ of_spines.each place spine was.0 s was.1;
        }

        pub still_mounts : length after.mounts.items ≡ length script.surfaces
        still_mounts = ran.mounts ∙ spine_count

        -- and it is done
        pub is_done : IsDone script.surfaces number plan after
        is_done = record {
          ended = record { number_is = run.number; name = run.name; left = run.left; answers = run.answers };
          passes = ran.passes ∙ spine_count;
          mounts = ran.mounts ∙ spine_count;
          each = λ place surface pass mount at p m.
              let spine = there_too script.surfaces spines place surface at spine_count in
              let given = there_too script.surfaces passes place surface at pass_count in
              let entry = there_too script.surfaces first place surface at first_count in
              let was = there_too script.surfaces job.passes.items place surface at job_passes in
              let before = there_too script.surfaces job.mounts.items place surface at job_mounts in
              let split = may.each place surface spine.0 given.0 at spine.1 given.1 in
              let opening = all_zip_at IsOpening script.surfaces first place surface entry.0 openings at entry.1 in
              let on = ran.each place spine.0 was.0 pass before.0 mount spine.1 was.1 p before.1 m in
              job_leaves surface number plan first place entry.0 given.0 first_ids entry.1 opening.id opening.stands
              (id_at script.surfaces passes place surface given.0 may.pass_ids at given.1) split.first split.seen after.actor pass before.0 mount
              (all_zip_at (IsMountFor plan) first job.mounts.items place entry.0 before.0 start.mounts entry.1 before.1) run
              (subst (λ (a : RunningActor). HasRunOn surface.id (spine_told (own_pass plan.steps given.0)) (spine_told pass) before.0 mount a after.actor) start.actor
              (subst (λ (v : PassValue). HasRunOn surface.id (spine_told v) (spine_told pass) before.0 mount job.actor after.actor) (own_at place given.0 was.0 given.1 was.1)
              (subst (λ n. HasRunOn n (spine_told was.0) (spine_told pass) before.0 mount job.actor after.actor)
              (id_at script.surfaces spines place surface spine.0 may.spine_ids at spine.1) on)));
        }

    module _ (jobs : List Job) (starts : AreJobsAtStart first passes script.actors jobs) where
      -- workers may run all jobs
      pub may_run_each : MayRunEach spines jobs
      may_run_each number job at =
          let plan = there_too jobs script.actors number job at (sym starts.count) in
          may_run number plan.0 plan.1 job (starts.each number plan.0 job plan.1 at)

      module _ (after : List Job) (ran : AreRun spines jobs after) (mounts : List PlainCoordinator) (unmounted : AllZip (λ entry. IsUnmounted entry.1) first mounts) where
        mount_count : length mounts ≡ length script.surfaces
        mount_count = all_zip_length (λ (entry : ℕ × KeptRevision). IsUnmounted entry.1) first mounts unmounted ∙ first_count

        -- the pass that was given stands where its rest does
        given_at : (place : ℕ) (surface : PlainSurface) (rest : ℕ × PassValue) → slice_get script.surfaces place ≡ Some surface → slice_get (map (after_own_passes script.actors) passes) place ≡ Some rest
            → (given : ℕ × PassValue) × (slice_get passes place ≡ Some given) × (rest ≡ after_own_passes script.actors given)
        given_at place surface rest at r =
            let given = there_too script.surfaces passes place surface at pass_count in
            (given.0, given.1, made_at (after_own_passes script.actors) passes place given.0 rest given.1 r)

        -- the jobs may be taken apart
        pub may_gather : MayGather spines (map (after_own_passes script.actors) passes) after mounts
        may_gather = record {
          count = length-map passes (after_own_passes script.actors) ∙ pass_count ∙ sym spine_count;
          kept = λ place spine rest s r.
              let surface = there_too spines script.surfaces place spine s (sym spine_count) in
              let given = given_at place surface.0 rest surface.1 r in
              ap (λ (e : ℕ × PassValue). e.1.spine) given.2 ∙ (may.each place surface.0 spine given.0 surface.1 s given.1).of_spine;
          own_passes = λ number job at.
              let was = there_too after jobs number job at (sym ran.count) in
              let plan = there_too jobs script.actors number was.0 was.1 (sym starts.count) in
              still_of_spines number plan.0 plan.1 was.0 (starts.each number plan.0 was.0 plan.1 was.1) job (ran.each number was.0 job was.1 at);
          own_mounts = λ number job at.
              let was = there_too after jobs number job at (sym ran.count) in
              let plan = there_too jobs script.actors number was.0 was.1 (sym starts.count) in
              still_mounts number plan.0 plan.1 was.0 (starts.each number plan.0 was.0 plan.1 was.1) job (ran.each number was.0 job was.1 at) ∙ sym mount_count;
        }

        pub are_done : AreDone script.surfaces script.actors after
        are_done = record {
          count = ran.count ∙ starts.count;
          each = λ number plan job at to.
              let was = there_too after jobs number job to (sym ran.count) in
              is_done number plan at was.0 (starts.each number plan was.0 at was.1) job (ran.each number was.0 job was.1 to);
          mounters = λ place surface at.
              all_at (HasOneMounter script.actors) (ids_of script.surfaces) place surface.id sound.mounters
              (slice_get-map (λ s. s.id) script.surfaces place ∙ ap (option_map (λ s. s.id)) at);
        }

        -- before the first job, nothing was gathered
        pub none_gathered : AreHandedBack script.surfaces [] [] (map (after_own_passes script.actors) passes) (map (after_own_passes script.actors) passes) mounts
        none_gathered = record {
          ids = refl;
          passes = length-map passes (after_own_passes script.actors) ∙ pass_count;
          mount_count = mount_count;
          count = refl;
          each = λ place surface was is mounted at w i m.
              let same : was ≡ is = same_Some was is (sym w ∙ i) in
              let spine = there_too script.surfaces spines place surface at spine_count in
              let given = given_at place surface was at w in
              let split = may.each place surface spine.0 given.0 at spine.1 given.1 in
              let entry = there_too script.surfaces first place surface at first_count in
              let opening = all_zip_at IsOpening script.surfaces first place surface entry.0 openings at entry.1 in
              let own : was.1.kept.own ≡ [] = ap (λ (e : ℕ × PassValue). e.1.kept.own) given.2 ∙ split.own in
              let coordinator = all_zip_at (λ (entry : ℕ × KeptRevision). IsUnmounted entry.1) first mounts place entry.0 mounted unmounted entry.1 m in
              let base = first_base surface entry.0 opening.stands mounted coordinator was.1.kept.seen in
              subst (λ (e : ℕ × PassValue). HasGathered surface [] [] was.1 e.1 mounted) same
              (record {
                spine = refl;
                mark = refl;
                first = ap (λ (e : ℕ × PassValue). e.1.kept.mark.first) given.2 ∙ split.first;
                shares = omega arith;
                looks = omega arith;
                own = own;
                permits = omega (arith, ap (λ (l : List (ℕ × PlainRecord)). length l) own);
                each = λ number plan actor p a. absurd (none-some plan p);
                base = base.0;
                stands = base.1;
                none = λ _. refl;
              });
        }

        -- and after the last one the workers have worked
        pub have_worked : (new : List (ℕ × PassValue)) (actors : List RunningActor) (kept : List PlainCoordinator) → actors ≡ map (λ job. job.actor) after
            → AreHandedBack script.surfaces script.actors actors (map (after_own_passes script.actors) passes) new kept → HaveWorked script passes new actors kept
        have_worked new actors kept are gathered = record {
          pass_ids = gathered.ids ∙ keys_kept (after_own_passes script.actors) passes (λ e. refl);
          actor_count = gathered.count;
          mount_count = gathered.mount_count;
          ended = λ number plan actor at to.
              let job = there_too actors after number actor to (sym (ap length are ∙ length-map after (λ job. job.actor))) in
              subst (HasFinished number plan) (sym (made_at (λ job. job.actor) after number job.0 actor job.1 (sym (ap (λ l. slice_get l number) are) ∙ to)))
              (are_done.each number plan job.0 at job.1).ended;
          surfaces = λ place surface was is mounted at w i m.
              let spine = there_too script.surfaces spines place surface at spine_count in
              let split = may.each place surface spine.0 was at spine.1 w in
              let rest = there_too passes (map (after_own_passes script.actors) passes) place was w (length-map passes (after_own_passes script.actors)) in
              let same : rest.0 ≡ after_own_passes script.actors was = made_at (after_own_passes script.actors) passes place was rest.0 w rest.1 in
              worked_on surface was is.1 actors mounted (id_at script.surfaces passes place surface was may.pass_ids at w) split.shares split.permits
              (subst (λ (e : ℕ × PassValue). HasGathered surface script.actors actors e.1 is.1 mounted) same (gathered.each place surface rest.0 is mounted at rest.1 i m));
        }
