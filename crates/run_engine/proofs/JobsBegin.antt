-- A job of an actor before its first step may be run, and what is left of it.
use Rattle.std.proofs.Common.{◌≡◌, ℕ, suc, ◌+◌, ◌<◌, ◌≤◌, ◌&&◌, true, false, List, [], ◌∷◌, ◌++◌, length, map, take, get_or, arith, append-nil, refl, ap, sym, subst, ◌∙◌}
use Rattle.std.specs.Prelude.{Some, None, Option, count_by, nat_eq, slice_get, Contains}
use Rattle.std.specs.Option.{option_map}
use Rattle.std.specs.List.{AllZip, IsDistinct, list_any}
use Rattle.std.specs.Map.{keys_of}
use Rattle.std.proofs.lemmas.Bool.{true≢false, eq-eqb}
use Rattle.std.proofs.lemmas.Cmp.{nat_eq_equiv}
use Rattle.std.proofs.lemmas.List.Folds.{list_any_at}
use Rattle.std.proofs.lemmas.Map.Entries.{lookup_from_place}
use Rattle.std.proofs.lemmas.Option.{get_or_from_slice_get, slice_get-map, slice_get_within}
use base.Stored.{Gv, gnil, gnum, gcons}
use Rattle.atomic_table.specs.Seated.{table_id_coded}
use Rattle.tree_revision.specs.Script.{PlainActor, PlainStep, PlainSurface, mount}
use Rattle.shadow_frame.specs.declared.Size.{Size}
use Rattle.tree_revision.specs.Records.{PlainRecord}
use Rattle.tree_revision.specs.Settled.{KeptRevision, SettledRevision}
use Rattle.tree_revision.specs.Sound.{is_mount, mounts_on}
use Rattle.tree_revision.specs.Ports.{Told}
use Rattle.tree_revision.specs.Stands.{StandsFor}
use Rattle.mount_coordinator.specs.Mounted.{PlainCoordinator, IsBaseIn, IsBaseOf}
use Rattle.run_report.specs.ActorLegal.{AreLegalAnswers, MountsFollow}
use Rattle.tree_revision.specs.Wishes.{as_written}
use Rattle.run_report.specs.Mounts.{Passage, passages_by}
use Rattle.script_read.specs.Plain.{plain_act, plain_step}
use Rattle.script_read.specs.declared.script.Act.{Act}
use Rattle.script_read.specs.declared.script.Act.TheVariants.{Mount}
use Rattle.script_read.specs.declared.script.Step.{Step}
use Rattle.run_report.proofs.Pairs.{all_zip_push}
use Rattle.run_report.proofs.Passages.{no_passages}
use Rattle.commit_spine.specs.SpinePasses.{PassValue}
use Rattle.commit_spine.specs.SpinePorts.{spine_told}
use Rattle.run_actor.specs.Actors.{RunningActor}
use Rattle.run_actor.specs.Actions.{begun_actor}
use Rattle.run_actor.specs.Runs.{HasNothingMounted, HasRun, HasRunOn, LeavesMounted, MayBegin, commits_on, mounts_made_on}
use Rattle.run_engine.proofs.Loops.{at_item}
use Rattle.run_engine.proofs.Openings.{take_push}
use Rattle.run_engine.specs.Jobs.{HasLeft, IsMountFor, IsUnmounted, LeavesBase, own_pass}

-- the mark tells which spine it is, and how many shares
abbrev head_of : Gv → Gv
head_of gnil = gnil
head_of (gnum n) = gnil
head_of (gcons a b) = a

abbrev tail_count : Gv → ℕ
tail_count gnil = 0
tail_count (gnum n) = 0
tail_count (gcons a gnil) = 0
tail_count (gcons a (gnum n)) = n
tail_count (gcons a (gcons b c)) = 0

pub same_spine : (old new : PassValue) → (spine_told new).mark ≡ (spine_told old).mark → new.spine ≡ old.spine
same_spine old new e = table_id_coded.inj new.spine old.spine (ap head_of e)

pub same_shares : (old new : PassValue) → (spine_told new).mark ≡ (spine_told old).mark → new.kept.shares ≡ old.kept.shares
same_shares old new e = ap tail_count e

-- an actor with a mount step on a surface mounts it
mounts_by_step : (id : ℕ) (plan : PlainActor) → Contains plan.steps (record { surface = id; act = mount }) → mounts_on id plan ≡ true
mounts_by_step id plan there =
    let step : PlainStep = record { surface = id; act = mount } in
    list_any_at (λ step. is_mount step.act && nat_eq step.surface id) plan.steps there.0 step there.1
    (subst (λ (s : PlainStep). (is_mount s.act && nat_eq s.surface id) ≡ true) (sym there.2) (eq-eqb id id refl))

-- the first revision of a surface is the base of no records, over any history
pub first_base : (surface : PlainSurface) (entry : ℕ × KeptRevision) → StandsFor surface.size entry.1 [] → (coordinator : PlainCoordinator) → IsUnmounted entry.1 coordinator
    → (records : List PlainRecord) → (coordinator.base.number ≡ 0) × IsBaseIn surface.size records coordinator.base
first_base surface entry stands coordinator unmounted records =
    let zero_is : coordinator.base.number ≡ 0 = ap (λ (b : SettledRevision). b.number) unmounted.base ∙ stands.newest.number in
    let none : take coordinator.base.number records ≡ [] = ap (λ n. take n records) zero_is in
    (zero_is, subst (IsBaseOf surface.size coordinator.base) (sym none) (unmounted.stands surface.size [] stands))

-- on a surface an actor of that number has that port and that coordinator, before its first step
module _ (surface : PlainSurface) (number : ℕ) (plan : PlainActor) (first : List (ℕ × KeptRevision)) (place : ℕ) (entry : ℕ × KeptRevision) (told : Told)
    (ids : IsDistinct nat_eq (keys_of first)) (at : slice_get first place ≡ Some entry) (same : entry.0 ≡ surface.id) (stands : StandsFor surface.size entry.1 [])
    (size_is : told.first ≡ surface.size) (seen_is : told.seen ≡ []) (permits : count_by (commits_on surface.id) plan.steps ≤ told.permits) where
  -- where it mounts there, nothing was mounted so far
  nothing_mounted : (before : Option PlainCoordinator) → IsMountFor plan entry before → Contains plan.steps (record { surface = surface.id; act = mount }) → HasNothingMounted told before
  nothing_mounted None none there = absurd (true≢false (sym (mounts_by_step surface.id plan there) ∙ subst (λ n. mounts_on n plan ≡ false) same none))
  nothing_mounted (Some coordinator) mine there =
      let base = first_base surface entry stands coordinator mine.1 told.seen in
      record { may = subst (λ (f : Size). IsBaseIn f told.seen coordinator.base) (sym size_is) base.1; base = base.0 }

  pub may_begin : (before : Option PlainCoordinator) → IsMountFor plan entry before → MayBegin surface.id told before (begun_actor number plan first)
  may_begin before mine = record {
    reached = omega (arith, ap (λ (l : List PlainRecord). length l) seen_is);
    holding = record {
      revision = entry.1;
      held = lookup_from_place nat_eq_equiv first place surface.id entry.1 ids (at ∙ (λ i. Some (same i, entry.1)));
      within = omega arith;
      stands = subst (λ (f : Size). StandsFor f entry.1 []) (sym size_is) stands;
    };
    permits = permits;
    mount = nothing_mounted before mine;
  }

  -- what is mounted after it has run
  leaves_base : (ended : RunningActor) (after : Told) (before is : Option PlainCoordinator) (passages : List Passage) → HasRun (begun_actor number plan first) ended
      → passages ≡ passages_by surface.id number ended.answers → after.first ≡ surface.size → IsMountFor plan entry before → LeavesMounted after before is passages
      → LeavesBase surface after.seen plan passages is
  leaves_base ended after None is passages ran are size none leaves =
      let off : mounts_on surface.id plan ≡ false = subst (λ n. mounts_on n plan ≡ false) same none in
      let nil : passages ≡ [] = are ∙ no_passages surface.id number 0 plan.steps [] ended.answers ran.answers
      (subst (λ l. list_any (λ step. is_mount step.act && nat_eq step.surface surface.id) l ≡ false) (sym (append-nil plan.steps)) off) in
      let gone : is ≡ None = subst (LeavesMounted after None is) nil leaves in
      subst (LeavesBase surface after.seen plan passages) (sym gone) (off, nil)
  leaves_base ended after (Some coordinator) is [] ran are size mine leaves =
      let base = first_base surface entry stands coordinator mine.1 after.seen in
      subst (LeavesBase surface after.seen plan []) (sym leaves) (subst (λ n. mounts_on n plan ≡ true) same mine.0, base.0, base.1)
  leaves_base ended after (Some coordinator) is (step ∷ passages) ran are size mine leaves =
      subst (LeavesBase surface after.seen plan (step ∷ passages)) (sym leaves.1)
      (subst (λ n. mounts_on n plan ≡ true) same mine.0, leaves.2, subst (λ (f : Size). IsBaseIn f after.seen leaves.0.base) size leaves.3)

-- what an actor of that number leaves on a surface, of whose pass it had a share
module _ (surface : PlainSurface) (number : ℕ) (plan : PlainActor) (first : List (ℕ × KeptRevision)) (place : ℕ) (entry : ℕ × KeptRevision) (given : ℕ × PassValue)
    (ids : IsDistinct nat_eq (keys_of first)) (at : slice_get first place ≡ Some entry) (same : entry.0 ≡ surface.id) (stands : StandsFor surface.size entry.1 [])
    (given_id : given.0 ≡ surface.id) (size_is : given.1.kept.mark.first ≡ surface.size) (seen_is : given.1.kept.seen ≡ []) where
  enough : count_by (commits_on surface.id) plan.steps ≤ count_by (commits_on given.0) plan.steps
  enough = omega (arith, ap (λ n. count_by (commits_on n) plan.steps) given_id)

  pub job_begins : (before : Option PlainCoordinator) → IsMountFor plan entry before → MayBegin surface.id (spine_told (own_pass plan.steps given)) before (begun_actor number plan first)
  job_begins = may_begin surface number plan first place entry (spine_told (own_pass plan.steps given)) ids at same stands size_is seen_is enough

  pub job_leaves : (ended : RunningActor) (pass : PassValue) (before after : Option PlainCoordinator) → IsMountFor plan entry before → HasRun (begun_actor number plan first) ended
      → HasRunOn surface.id (spine_told (own_pass plan.steps given)) (spine_told pass) before after (begun_actor number plan first) ended
      → HasLeft surface number plan ended pass after
  job_leaves ended pass before after mine ran on =
      let size : pass.kept.mark.first ≡ surface.size = on.lasts.first ∙ size_is in
      record {
        shares = same_shares (own_pass plan.steps given) pass on.lasts.mark;
        looks = on.looks;
        own = on.own;
        permits = omega (arith, on.permits, ap (λ (l : List (ℕ × PlainRecord)). length l) on.own, ap (λ n. count_by (commits_on n) plan.steps) given_id);
        answers = subst (λ (f : Size). AreLegalAnswers as_written f surface.id pass.kept.seen number plan.steps ended.answers) size on.answers;
        mounts = subst (λ (f : Size). MountsFollow f surface.id pass.kept.seen number ended.answers (mounts_made_on surface.id ended.mounts)) size on.mounts;
        base = leaves_base surface number plan first place entry (spine_told (own_pass plan.steps given)) ids at same stands size_is seen_is enough ended (spine_told pass) before after
            (passages_by surface.id number ended.answers) ran refl size mine on.mounted;
      }

-- a step that mounts the surface of that id, among some steps
pub mount_found : (steps : List Step) (i : ℕ) (step : Step) (id : ℕ) → i < length steps → step ≡ get_or steps i step → step.act ≡ Mount → step.surface ≡ id
    → list_any (λ step. is_mount step.act && nat_eq step.surface id) (map plain_step steps) ≡ true
mount_found steps i step id below is act on =
    let p = λ (step : PlainStep). is_mount step.act && nat_eq step.surface id in
    let at : slice_get (map plain_step steps) i ≡ Some (plain_step step) = slice_get-map plain_step steps i ∙ ap (option_map plain_step) (at_item steps i step is below) in
    let here : p (plain_step step) ≡ true = ap (λ (a : Act). is_mount (plain_act a) && nat_eq step.surface id) act ∙ eq-eqb step.surface id on in
    list_any_at p (map plain_step steps) i (plain_step step) (slice_get_within (map plain_step steps) i (plain_step step) at)
    (subst (λ (s : PlainStep). p s ≡ true) (sym (get_or_from_slice_get (map plain_step steps) i (plain_step step) (plain_step step) at)) here)

-- lists of which the items agree so far, and one more of each
pub zip_next : {A B : Type 0} (R : A → B → Type 0) (xs : List A) (ys all : List B) (i : ℕ) (x : A) (y : B) → i < length xs → x ≡ get_or xs i x → all ≡ ys ++ y ∷ []
    → AllZip R (take i xs) ys → R x y → AllZip R (take (i + 1) xs) all
zip_next R xs ys all i x y below is grown before here =
    let s : i + 1 ≡ suc i = omega arith in
    subst (λ l. AllZip R l all) (sym (take_push xs i (i + 1) x s (at_item xs i x is below))) (subst (AllZip R (take i xs ++ x ∷ [])) (sym grown) (all_zip_push R (take i xs) ys x y before here))
