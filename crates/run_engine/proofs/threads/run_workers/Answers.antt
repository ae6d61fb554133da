use Rattle.std.proofs.Common.{◌≡◌, ◌<◌, ℕ, List, [], length, map, arith, ap, sym, subst, ◌∙◌}
use Rattle.std.specs.Prelude.{nat_eq, slice_index_or}
use Rattle.std.specs.List.{AllZip, IsDistinct}
use Rattle.tree_revision.specs.Settled.{KeptRevision}
use Rattle.tree_revision.specs.Sound.{ids_of}
use Rattle.script_read.specs.Plain.{plain_script, plain_surface, plain_actor}
use Rattle.script_read.specs.declared.script.ActorPlan.{ActorPlan}
use Rattle.script_read.specs.declared.script.SurfacePlan.{SurfacePlan}
use Rattle.commit_spine.specs.SpinePasses.{PassValue}
use Rattle.run_engine.specs.declared.jobs.Job.{Job}
use Rattle.run_engine.specs.Opening.{AreOpenings}
use Rattle.run_engine.specs.Workers.{HaveWorked}
use Rattle.run_engine.specs.Jobs.{AreDone, AreHandedBack, AreJobsAtStart, AreRun, IsUnmounted, MayGather, MayGiveAll, MayRunEach, after_own_passes}
use Rattle.run_engine.proofs.Openings.{ids_are, keys_map, numbers_are_zero}
use Rattle.run_engine.proofs.JobsGather.{actor_of}
use Rattle.run_engine.proofs.Places.{if_ok_both, written_back}
use Rattle.run_engine.proofs.JobsDone.{are_done, have_worked, may_gather, may_give_all, may_run_each, none_gathered}
use Rattle.run_engine.proofs.threads.run_workers.Goals as goal

pub coordinators_of-requires : goal.coordinators_of-requires
coordinators_of-requires g c k d below =
    subst (λ (l : List (ℕ × KeptRevision)). (k : ℕ) (d : ℕ × KeptRevision) → k < length l → (slice_index_or l k d).1.newest.number ≡ 0) (sym c.deref.ensures.value)
    (numbers_are_zero (map plain_surface c.as_slice.result.now) c.in_ok-first.first.items c.in_ok-first.ensures) k d below

pub jobs_of-requires-clause-ids : goal.jobs_of-requires-clause-ids
jobs_of-requires-clause-ids g c =
    subst (λ (l : List (ℕ × KeptRevision)). IsDistinct nat_eq (map (λ entry. entry.0) l)) (sym c.deref-2.ensures.value)
    (subst (IsDistinct nat_eq) (keys_map c.in_ok-first.first.items) (subst (IsDistinct nat_eq) (sym (ids_are (map plain_surface c.as_slice.result.now) c.in_ok-first.first.items c.in_ok-first.ensures
    ∙ ap (λ (l : List SurfacePlan). ids_of (map plain_surface l)) c.as_slice.ensures)) c.requires.sound.ids_differ))

pub jobs_of-requires-clause-first : goal.jobs_of-requires-clause-first
jobs_of-requires-clause-first g c k d below =
    subst (λ (l : List (ℕ × KeptRevision)). (k : ℕ) (d : ℕ × KeptRevision) → k < length l → (slice_index_or l k d).1.newest.number ≡ 0) (sym c.deref-2.ensures.value)
    (numbers_are_zero (map plain_surface c.as_slice.result.now) c.in_ok-first.first.items c.in_ok-first.ensures) k d below

pub jobs_of-requires-clause-may : goal.jobs_of-requires-clause-may
jobs_of-requires-clause-may g c =
    subst (λ (l : List ActorPlan). MayGiveAll (map plain_actor l) c.args.spines.now.entries c.args.passes.now.entries) (sym c.as_slice-plans.ensures)
    (may_give_all (plain_script c.args.script.now) c.requires.sound c.args.spines.now.entries c.args.passes.now.entries c.requires.passes)

pub run_jobs-requires : goal.run_jobs-requires
run_jobs-requires g c =
    let script = plain_script c.args.script.now in
    let passes = c.args.passes.now.entries in
    let first = c.in_ok-first.first.items in
    let openings : AreOpenings script.surfaces first = subst (λ (l : List SurfacePlan). AreOpenings (map plain_surface l) first) c.as_slice.ensures c.in_ok-first.ensures in
    let starts : AreJobsAtStart first passes script.actors c.in_ok-jobs.jobs.items =
    subst (λ (l : List (ℕ × KeptRevision)). AreJobsAtStart l passes script.actors c.in_ok-jobs.jobs.items) c.deref-2.ensures.value
    (subst (λ (l : List ActorPlan). AreJobsAtStart c.deref-2.result.now passes (map plain_actor l) c.in_ok-jobs.jobs.items) c.as_slice-plans.ensures c.in_ok-jobs.ensures.jobs) in (
      c.type_bounds.sync-R,
      (
        c.type_bounds.sync-G,
        subst (MayRunEach c.args.spines.now.entries) (sym c.deref_mut.ensures.value)
            (may_run_each script c.requires.sound c.args.spines.now.entries passes c.requires.passes first openings c.in_ok-jobs.jobs.items starts),
      ),
    )

pub gather-requires-clause-may : goal.gather-requires-clause-may
gather-requires-clause-may g c =
    let script = plain_script c.args.script.now in
    let passes = c.args.passes.now.entries in
    let first = c.in_ok-first.first.items in
    let openings : AreOpenings script.surfaces first = subst (λ (l : List SurfacePlan). AreOpenings (map plain_surface l) first) c.as_slice.ensures c.in_ok-first.ensures in
    let starts : AreJobsAtStart first passes script.actors c.in_ok-jobs.jobs.items =
    subst (λ (l : List (ℕ × KeptRevision)). AreJobsAtStart l passes script.actors c.in_ok-jobs.jobs.items) c.deref-2.ensures.value
    (subst (λ (l : List ActorPlan). AreJobsAtStart c.deref-2.result.now passes (map plain_actor l) c.in_ok-jobs.jobs.items) c.as_slice-plans.ensures c.in_ok-jobs.ensures.jobs) in
    let unmounted : AllZip (λ entry. IsUnmounted entry.1) first c.in_ok-mounts.mounts.items =
    subst (λ (l : List (ℕ × KeptRevision)). AllZip (λ entry. IsUnmounted entry.1) l c.in_ok-mounts.mounts.items) c.deref.ensures.value c.in_ok-mounts.ensures in
    let shared : c.jobs_of.new.passes.entries ≡ map (after_own_passes script.actors) passes =
    c.in_ok-jobs.ensures.passes ∙ ap (λ (l : List ActorPlan). map (after_own_passes (map plain_actor l)) passes) c.as_slice-plans.ensures in
    let ran : AreRun c.args.spines.now.entries c.in_ok-jobs.jobs.items c.run_jobs.new.jobs =
    subst (λ (l : List Job). AreRun c.args.spines.now.entries l c.run_jobs.new.jobs) c.deref_mut.ensures.value c.in_ok-run_jobs.ensures in
    let whole = written_back c.in_ok-jobs.jobs.items c.run_jobs.new.jobs c.in_ok-jobs.jobs.len ran.count (omega (arith, c.in_ok-jobs.jobs.ok.0)) in
    subst (λ (l : List Job). MayGather c.args.spines.now.entries c.jobs_of.new.passes.entries l c.in_ok-mounts.mounts.items) (sym whole)
    (subst (λ (l : List (ℕ × PassValue)). MayGather c.args.spines.now.entries l c.run_jobs.new.jobs c.in_ok-mounts.mounts.items) (sym shared)
    (may_gather script c.requires.sound c.args.spines.now.entries passes c.requires.passes first openings c.in_ok-jobs.jobs.items starts c.run_jobs.new.jobs ran
    c.in_ok-mounts.mounts.items unmounted))

pub returns : goal.returns
returns g c =
    let script = plain_script c.args.script.now in
    let spines = c.args.spines.now.entries in
    let passes = c.args.passes.now.entries in
    let first = c.in_ok-first.first.items in
    let jobs = c.in_ok-jobs.jobs.items in
    let after = c.run_jobs.new.jobs in
    let mounts = c.in_ok-mounts.mounts.items in
    let openings : AreOpenings script.surfaces first = subst (λ (l : List SurfacePlan). AreOpenings (map plain_surface l) first) c.as_slice.ensures c.in_ok-first.ensures in
    let starts : AreJobsAtStart first passes script.actors jobs =
    subst (λ (l : List (ℕ × KeptRevision)). AreJobsAtStart l passes script.actors jobs) c.deref-2.ensures.value
    (subst (λ (l : List ActorPlan). AreJobsAtStart c.deref-2.result.now passes (map plain_actor l) jobs) c.as_slice-plans.ensures c.in_ok-jobs.ensures.jobs) in
    let unmounted : AllZip (λ entry. IsUnmounted entry.1) first mounts =
    subst (λ (l : List (ℕ × KeptRevision)). AllZip (λ entry. IsUnmounted entry.1) l mounts) c.deref.ensures.value c.in_ok-mounts.ensures in
    let shared : c.jobs_of.new.passes.entries ≡ map (after_own_passes script.actors) passes =
    c.in_ok-jobs.ensures.passes ∙ ap (λ (l : List ActorPlan). map (after_own_passes (map plain_actor l)) passes) c.as_slice-plans.ensures in
    let ran : AreRun spines jobs after = subst (λ (l : List Job). AreRun spines l after) c.deref_mut.ensures.value c.in_ok-run_jobs.ensures in
    let whole = written_back jobs after c.in_ok-jobs.jobs.len ran.count (omega (arith, c.in_ok-jobs.jobs.ok.0)) in
    let done : AreDone script.surfaces script.actors after = are_done script c.requires.sound spines passes c.requires.passes first openings jobs starts after ran mounts unmounted in
    let none : AreHandedBack script.surfaces [] [] c.jobs_of.new.passes.entries c.jobs_of.new.passes.entries mounts =
    subst (λ (l : List (ℕ × PassValue)). AreHandedBack script.surfaces [] [] l l mounts) (sym shared)
    (none_gathered script c.requires.sound spines passes c.requires.passes first openings jobs starts after ran mounts unmounted) in
    record {
      worked = if_ok_both c.gather.result _ _ (λ worked. HaveWorked script passes c.gather.new.passes.entries worked.actors.items worked.mounts.items)
          (λ worked actors gathered. have_worked script c.requires.sound spines passes c.requires.passes first openings jobs starts after ran mounts unmounted
          c.gather.new.passes.entries worked.actors.items worked.mounts.items (actors ∙ ap (map actor_of) whole)
          (subst (λ (l : List (ℕ × PassValue)). AreHandedBack script.surfaces script.actors worked.actors.items l c.gather.new.passes.entries worked.mounts.items) shared
          (gathered script.surfaces script.actors (subst (AreDone script.surfaces script.actors) (sym whole) done) none)))
          c.gather.ensures.actors c.gather.ensures.gathered;
    }
