-- What is gathered of a surface, an actor further.
use Rattle.std.proofs.Common.{◌≡◌, ℕ, zero, suc, ◌+◌, ◌≤◌, ◌<◌, List, [], ◌∷◌, ◌++◌, length, take, drop, map, slice_get, arith, refl, ap, sym, subst, ◌∙◌, append_assoc, append-nil, length-append, take-append-drop}
use Rattle.std.specs.Prelude.{Some, None, Option, count_by, sum_by, cond, unwrap_or}
use Rattle.std.specs.List.{flat_map, enumerate_from}
use Rattle.std.specs.Map.{keys_of}
use Rattle.std.proofs.lemmas.Option.{none-some, same_Some, slice_get_within}
use Rattle.std.proofs.lemmas.List.{length-map, length-take, map-append, nil_from_length, take_all}
use Rattle.std.proofs.lemmas.List.Sums.{fold-append, sum_by-append}
use Rattle.counts.specs.Raised.{raised}
use Rattle.tree_revision.specs.Records.{PlainRecord}
use Rattle.tree_revision.specs.Script.{PlainActor, PlainSurface}
use Rattle.tree_revision.specs.Sound.{mounts_on}
use Rattle.tree_revision.specs.Lawful.{IsLawful}
use Rattle.tree_revision.specs.Ports.{BeginsWith}
use Rattle.mount_coordinator.specs.Mounted.{PlainCoordinator, IsBaseIn}
use Rattle.mount_coordinator.proofs.Mounting.{still_base}
use Rattle.run_report.specs.Mounts.{Passage, last_to, passages_by}
use Rattle.run_report.specs.Shorthands.{begun}
use Rattle.tree_revision.specs.Wishes.{as_written}
use Rattle.run_report.specs.ActorLegal.{AreLegalAnswers, looks_named}
use Rattle.run_report.proofs.Begins.{begins_both}
use Rattle.run_report.proofs.EventNames.{records_over_more}
use Rattle.run_report.proofs.EventLegal.{mounts_stay}
use Rattle.run_report.proofs.Lists.{enumerate_from-push, flat_map_push, item_within}
use Rattle.commit_spine.specs.declared.spine_parts.Spine.{Spine}
use Rattle.commit_spine.specs.Passes.{KeptByPass}
use Rattle.commit_spine.specs.SpinePasses.{PassValue}
use Rattle.run_actor.specs.Actors.{RunningActor}
use Rattle.run_actor.specs.Runs.{commits_on, mounts_made_on}
use Rattle.run_engine.specs.declared.jobs.Job.{Job}
use Rattle.run_engine.specs.Run.{commits_left}
use Rattle.run_engine.specs.Workers.{HasWorkedOn, records_by, records_from, passages_of}
use Rattle.run_engine.specs.Jobs.{AreDone, AreHandedBack, AreJoined, AreKept, HasGathered, HasLeft, IsJoin, LeavesBase, MayGather, MayJoin}
use Rattle.run_engine.proofs.Gathered.{keys_length}
use Rattle.run_engine.proofs.Openings.{commits_left-push, take_push}
use Rattle.run_engine.proofs.Places.{drop_head, drop_tail}

-- a count that rose from its start by one number and then by another
pub raised_both : (count one other : ℕ) → raised (raised count one) (raised 0 other) ≡ raised count (one + other)
raised_both count one other = omega arith

-- two lists of one length, with an item more of each
pub both_push : {A B : Type 0} (R : ℕ → A → B → Type 0) (xs : List A) (ys : List B) (x : A) (y : B) → length ys ≡ length xs
    → ((n : ℕ) (a : A) (b : B) → slice_get xs n ≡ Some a → slice_get ys n ≡ Some b → R n a b) → R (length xs) x y
    → (n : ℕ) (a : A) (b : B) → slice_get (xs ++ x ∷ []) n ≡ Some a → slice_get (ys ++ y ∷ []) n ≡ Some b → R n a b
both_push R [] [] x y e all own zero a b p q = subst (λ a. R 0 a b) (same_Some x a p) (subst (λ b. R 0 x b) (same_Some y b q) own)
both_push R [] [] x y e all own (suc n) a b p q = absurd (none-some a p)
both_push R [] (w ∷ ys) x y e all own n a b p q = absurd (omega (arith, e))
both_push R (z ∷ xs) [] x y e all own n a b p q = absurd (omega (arith, e))
both_push R (z ∷ xs) (w ∷ ys) x y e all own zero a b p q = all 0 a b p q
both_push R (z ∷ xs) (w ∷ ys) x y e all own (suc n) a b p q = both_push (λ n. R (suc n)) xs ys x y (omega (arith, e)) (λ n. all (suc n)) own n a b p q

-- answers stay legal over more records
pub legal_over_more : (surface : PlainSurface) (records longer : List PlainRecord) (number : ℕ) (plan : PlainActor) (actor : RunningActor) → BeginsWith longer records
    → AreLegalAnswers as_written surface.size surface.id records number plan.steps actor.answers
    → AreLegalAnswers as_written surface.size surface.id longer number plan.steps actor.answers
legal_over_more surface records longer number plan actor begins legal = record {
  taken = λ entries more. legal.taken entries (begins_both entries longer records more begins);
  point = λ entries more. let low = legal.point entries (begins_both entries longer records more begins) in let within = begins.within in omega (arith, low, within);
  holds = let within = begins.within in omega (arith, legal.holds, within);
}

-- so what an actor has worked on a surface
worked_over_more : (surface : PlainSurface) (records longer : List PlainRecord) (number : ℕ) (plan : PlainActor) (actor : RunningActor) → BeginsWith longer records
    → IsLawful surface.size longer → HasWorkedOn surface records number plan actor → HasWorkedOn surface longer number plan actor
worked_over_more surface records longer number plan actor begins lawful worked = record {
  answers = legal_over_more surface records longer number plan actor begins worked.answers;
  mounts = mounts_stay surface.size surface.id records longer number actor.answers (mounts_made_on surface.id actor.mounts) begins lawful worked.mounts;
}

-- the records that answers name, of one actor more
records_from-push : (id : ℕ) (entries : List PlainRecord) (number : ℕ) (plans : List PlainActor) (actors : List RunningActor) (plan : PlainActor) (actor : RunningActor) → length actors ≡ length plans
    → records_from id entries number (plans ++ plan ∷ []) (actors ++ actor ∷ []) ≡ records_from id entries number plans actors ++ records_by id entries (number + length plans) plan actor
records_from-push id entries number [] [] plan actor e =
    let k : number ≡ number + 0 = omega arith in
    append-nil (records_by id entries number plan actor) ∙ ap (λ n. records_by id entries n plan actor) k
records_from-push id entries number [] (a ∷ actors) plan actor e = absurd (omega (arith, e))
records_from-push id entries number (p ∷ plans) [] plan actor e = absurd (omega (arith, e))
records_from-push id entries number (p ∷ plans) (a ∷ actors) plan actor e =
    let k : number + 1 + length plans ≡ number + suc (length plans) = omega arith in
    ap (λ l. records_by id entries number p a ++ l) (records_from-push id entries (number + 1) plans actors plan actor (omega (arith, e)))
    ∙ sym (append_assoc (records_by id entries number p a) (records_from id entries (number + 1) plans actors) (records_by id entries (number + 1 + length plans) plan actor))
    ∙ ap (λ n. (records_by id entries number p a ++ records_from id entries (number + 1) plans actors) ++ records_by id entries n plan actor) k

-- they are the same over more records
records_from_more : (surface : PlainSurface) (records longer : List PlainRecord) (number : ℕ) (plans : List PlainActor) (actors : List RunningActor) → BeginsWith longer records
    → ((n : ℕ) (plan : PlainActor) (actor : RunningActor) → slice_get plans n ≡ Some plan → slice_get actors n ≡ Some actor
    → AreLegalAnswers as_written surface.size surface.id records (number + n) plan.steps actor.answers)
    → records_from surface.id longer number plans actors ≡ records_from surface.id records number plans actors
records_from_more surface records longer number [] [] begins legal = refl
records_from_more surface records longer number [] (a ∷ actors) begins legal = refl
records_from_more surface records longer number (p ∷ plans) [] begins legal = refl
records_from_more surface records longer number (p ∷ plans) (a ∷ actors) begins legal =
    let k : number + 0 ≡ number = omega arith in
    let own = subst (λ n. AreLegalAnswers as_written surface.size surface.id records n p.steps a.answers) k (legal 0 p a refl refl) in
    let one = records_over_more as_written surface.size surface.id records longer begins number p.steps a.answers own in
    let rest = records_from_more surface records longer (number + 1) plans actors begins
    (λ n plan actor at to. let m : number + suc n ≡ number + 1 + n = omega arith in subst (λ n. AreLegalAnswers as_written surface.size surface.id records n plan.steps actor.answers) m (legal (suc n) plan actor at to)) in
    λ i. one i ++ rest i

-- the passages that answers name, of one actor more
passages_of-push : (id : ℕ) (actors : List RunningActor) (actor : RunningActor) → passages_of id (actors ++ actor ∷ []) ≡ passages_of id actors ++ passages_by id (length actors) actor.answers
passages_of-push id actors actor =
    let f = λ (entry : ℕ × RunningActor). passages_by id entry.0 entry.1.answers in
    ap (flat_map f) (enumerate_from-push 0 actors actor) ∙ flat_map_push f (enumerate_from 0 actors) (0 + length actors, actor)
    ∙ (let k : 0 + length actors ≡ length actors = omega arith in ap (λ n. passages_of id actors ++ passages_by id n actor.answers) k)

-- the last of some passages, and of others behind them
last_of_more : (passages more : List Passage) → (more ≡ [] → passages ≡ []) → last_to (passages ++ more) ≡ last_to more
last_of_more passages [] none = ap last_to (append-nil passages) ∙ ap last_to (none refl)
last_of_more passages (step ∷ more) none = fold-append (λ (number : ℕ) (step : Passage). step.to) 0 passages (step ∷ more)

-- one actor more is counted
count_push : (id : ℕ) (plans : List PlainActor) (plan : PlainActor) → count_by (mounts_on id) (plans ++ plan ∷ []) ≡ count_by (mounts_on id) plans + cond (mounts_on id plan) 1 0
count_push id plans plan = sum_by-append (λ p. cond (mounts_on id p) 1 0) plans (plan ∷ []) ∙ (omega arith)

-- what was gathered of a surface, with what one actor more leaves there
module _ (surface : PlainSurface) (done : List PlainActor) (plan : PlainActor) (actors : List RunningActor) (actor : RunningActor) (old was is gone : PassValue)
    (mounted after : PlainCoordinator) (mine : Option PlainCoordinator) (count : length actors ≡ length done) (one : count_by (mounts_on surface.id) (done ++ plan ∷ []) ≤ 1)
    (before : HasGathered surface done actors old was mounted) (left : HasLeft surface (length done) plan actor gone mine) (join : IsJoin was gone is)
    (kept : after ≡ unwrap_or mine mounted) where
  own_passages : List Passage
  own_passages = passages_by surface.id (length done) actor.answers

  all_passages : passages_of surface.id (actors ++ actor ∷ []) ≡ passages_of surface.id actors ++ passages_by surface.id (length done) actor.answers
  all_passages = passages_of-push surface.id actors actor ∙ ap (λ n. passages_of surface.id actors ++ passages_by surface.id n actor.answers) count

  -- where it mounts nothing, it names no passage; and where it does, the others name none
  base_of_mine : (mine : Option PlainCoordinator) → after ≡ unwrap_or mine mounted → LeavesBase surface gone.kept.seen plan (passages_by surface.id (length done) actor.answers) mine
      → (after.base.number ≡ last_to (passages_of surface.id (actors ++ actor ∷ []))) × IsBaseIn surface.size is.kept.seen after.base
      × (count_by (mounts_on surface.id) (done ++ plan ∷ []) ≡ 0 → passages_of surface.id (actors ++ actor ∷ []) ≡ [])
  base_of_mine None same leaves =
      let all : passages_of surface.id (actors ++ actor ∷ []) ≡ passages_of surface.id actors =
      all_passages ∙ ap (λ l. passages_of surface.id actors ++ l) leaves.1 ∙ append-nil (passages_of surface.id actors) in (
        ap (λ (c : PlainCoordinator). c.base.number) same ∙ before.base ∙ ap last_to (sym all),
        still_base surface.size was.kept.seen is.kept.seen after.base join.seen (subst (λ (c : PlainCoordinator). IsBaseIn surface.size was.kept.seen c.base) (sym same) before.stands),
        λ none. all ∙ before.none (let c = count_push surface.id done plan in omega (arith, c, none)),
      )
  base_of_mine (Some coordinator) same leaves =
      let own : cond (mounts_on surface.id plan) 1 0 ≡ 1 = ap {B = ℕ} (λ b. cond b 1 0) leaves.0 in
      let counted = count_push surface.id done plan in
      let others : passages_of surface.id actors ≡ [] = before.none (omega (arith, counted, own, one)) in (
        ap (λ (c : PlainCoordinator). c.base.number) same ∙ leaves.1
            ∙ sym (last_of_more (passages_of surface.id actors) (passages_by surface.id (length done) actor.answers) (λ _. others)) ∙ ap last_to (sym all_passages),
        still_base surface.size gone.kept.seen is.kept.seen after.base join.gone_seen (subst (λ (c : PlainCoordinator). IsBaseIn surface.size gone.kept.seen c.base) (sym same) leaves.2),
        λ none. absurd (omega (arith, counted, own, none)),
      )

  own_legal : AreLegalAnswers as_written surface.size surface.id is.kept.seen (length done) plan.steps actor.answers
  own_legal = legal_over_more surface gone.kept.seen is.kept.seen (length done) plan actor join.gone_seen left.answers

  first_is : is.kept.mark.first ≡ surface.size
  first_is = ap (λ (k : KeptByPass). k.mark.first) join.kept ∙ before.first

  -- what all have seen is lawful
  lawful : IsLawful surface.size is.kept.seen
  lawful = subst (λ size. IsLawful size is.kept.seen) first_is join.lawful

  own_worked : HasWorkedOn surface is.kept.seen (length done) plan actor
  own_worked = record {
    answers = own_legal;
    mounts = mounts_stay surface.size surface.id gone.kept.seen is.kept.seen (length done) actor.answers (mounts_made_on surface.id actor.mounts)
        join.gone_seen lawful left.mounts;
  }

  own_records : is.kept.own ≡ records_from surface.id is.kept.seen 0 (done ++ plan ∷ []) (actors ++ actor ∷ [])
  own_records =
      let k : 0 + length done ≡ length done = omega arith in
      let earlier = records_from_more surface was.kept.seen is.kept.seen 0 done actors join.seen
      (λ n p a at to. let m : 0 + n ≡ n = omega arith in subst (λ n. AreLegalAnswers as_written surface.size surface.id was.kept.seen n p.steps a.answers) (sym m) (before.each n p a at to).answers) in
      let own = records_over_more as_written surface.size surface.id gone.kept.seen is.kept.seen join.gone_seen (length done) plan.steps actor.answers left.answers in
      ap (λ (k : KeptByPass). k.own) join.kept
      ∙ (λ i. (before.own ∙ sym earlier) i ++ (left.own ∙ sym own) i)
      ∙ ap (λ n. records_from surface.id is.kept.seen 0 done actors ++ records_by surface.id is.kept.seen n plan actor) (sym k)
      ∙ sym (records_from-push surface.id is.kept.seen 0 done actors plan actor count)

  all_looks : is.kept.looks ≡ raised old.kept.looks (sum_by (λ a. looks_named surface.id a.answers) (actors ++ actor ∷ []))
  all_looks =
      let sums : sum_by (λ (a : RunningActor). looks_named surface.id a.answers) (actors ++ actor ∷ []) ≡ sum_by (λ (a : RunningActor). looks_named surface.id a.answers) actors + looks_named surface.id actor.answers =
      sum_by-append (λ (a : RunningActor). looks_named surface.id a.answers) actors (actor ∷ []) ∙ omega arith in
      ap (λ (k : KeptByPass). k.looks) join.kept ∙ (λ i. raised (before.looks i) (left.looks i))
      ∙ raised_both old.kept.looks (sum_by (λ (a : RunningActor). looks_named surface.id a.answers) actors) (looks_named surface.id actor.answers)
      ∙ ap (raised old.kept.looks) (sym sums)

  all_permits : is.kept.permits + length is.kept.own ≡ old.kept.permits + commits_left surface.id (map begun (done ++ plan ∷ []))
  all_permits =
      let permits : is.kept.permits ≡ was.kept.permits + gone.kept.permits = ap (λ (k : KeptByPass). k.permits) join.kept in
      let own : length is.kept.own ≡ length (was.kept.own ++ gone.kept.own) = ap (λ (k : KeptByPass). length k.own) join.kept in
      let both = length-append was.kept.own gone.kept.own in
      let more : commits_left surface.id (map begun (done ++ plan ∷ [])) ≡ commits_left surface.id (map begun done) + count_by (commits_on surface.id) plan.steps =
      ap (commits_left surface.id) (map-append begun done (plan ∷ [])) ∙ commits_left-push surface.id (map begun done) (begun plan) in
      omega (arith, permits, own, both, more, before.permits, left.permits)

  pub gathered_next : HasGathered surface (done ++ plan ∷ []) (actors ++ actor ∷ []) old is after
  gathered_next =
      let base = base_of_mine mine kept left.base in
      record {
        spine = join.spine ∙ before.spine;
        mark = ap (λ (k : KeptByPass). k.mark) join.kept ∙ before.mark;
        first = first_is;
        shares =
            let shares : is.kept.shares ≡ was.kept.shares + gone.kept.shares = ap (λ (k : KeptByPass). k.shares) join.kept in
            let longer = length-append done (plan ∷ []) in omega (arith, shares, longer, before.shares, left.shares);
        looks = all_looks;
        own = own_records;
        permits = all_permits;
        each = both_push (λ n p a. HasWorkedOn surface is.kept.seen n p a) done actors plan actor count
            (λ n p a at to. worked_over_more surface was.kept.seen is.kept.seen n p a join.seen lawful (before.each n p a at to)) own_worked;
        base = base.0;
        stands = base.1;
        none = base.2;
      }

-- lists with the same keys are as long
pub same_length : {A B : Type 0} (us : List (ℕ × A)) (vs : List (ℕ × B)) → keys_of us ≡ keys_of vs → length us ≡ length vs
same_length us vs same = sym (keys_length us) ∙ ap length same ∙ keys_length vs

-- what stands at a place of a list, where another as long has something there
pub there_too : {A B : Type 0} (us : List A) (vs : List B) (i : ℕ) (u : A) → slice_get us i ≡ Some u → length vs ≡ length us → (v : B) × (slice_get vs i ≡ Some v)
there_too us vs i u at same = let within : i < length us = slice_get_within us i u at in item_within vs i (omega (arith, within, same))

-- the first actors are not more of whom one mounts
count_first : (id : ℕ) (plans : List PlainActor) (n : ℕ) → count_by (mounts_on id) (take n plans) ≤ count_by (mounts_on id) plans
count_first id plans n =
    let whole : count_by (mounts_on id) plans ≡ count_by (mounts_on id) (take n plans) + count_by (mounts_on id) (drop n plans) =
    ap (count_by (mounts_on id)) (sym (take-append-drop n plans)) ∙ sum_by-append (λ p. cond (mounts_on id p) 1 0) (take n plans) (drop n plans) in
    omega (arith, whole)

-- what was gathered of each surface, an actor further
module _ (surfaces : List PlainSurface) (plans : List PlainActor) (jobs : List Job) (n : ℕ) (job : Job) (actors : List RunningActor) (old now new : List (ℕ × PassValue)) (mounts kept : List PlainCoordinator)
    (done : AreDone surfaces plans jobs) (at : slice_get jobs n ≡ Some job) (before : AreHandedBack surfaces (take n plans) actors old now mounts)
    (joined : AreJoined now new job.passes.items) (keeps : AreKept mounts kept job.mounts.items) where
  pub all_gathered_next : AreHandedBack surfaces (take (suc n) plans) (actors ++ job.actor ∷ []) old new kept
  all_gathered_next =
      let here = there_too jobs plans n job at (sym done.count) in
      let plan : PlainActor = here.0 in
      let within : n < length plans = slice_get_within plans n plan here.1 in
      let firsts : length (take n plans) ≡ n = omega (arith, length-take n plans, within) in
      let grown : take (suc n) plans ≡ take n plans ++ plan ∷ [] = take_push plans n (suc n) plan refl here.1 in
      let own = done.each n plan job here.1 at in
      let news : length new ≡ length now = same_length new now joined.ids in
      let longer = length-append actors (job.actor ∷ []) in
      let longer_plans = length-append (take n plans) (plan ∷ []) in
      subst (λ l. AreHandedBack surfaces l (actors ++ job.actor ∷ []) old new kept) (sym grown)
      (record {
        ids = joined.ids ∙ before.ids;
        passes = news ∙ before.passes;
        mount_count = keeps.count ∙ before.mount_count;
        count = omega (arith, longer, longer_plans, before.count);
        each = λ place surface was is mounted s w i m.
            let pass = there_too surfaces now place surface s before.passes in
            let coordinator = there_too surfaces mounts place surface s before.mount_count in
            let gone = there_too surfaces job.passes.items place surface s own.passes in
            let mine = there_too surfaces job.mounts.items place surface s own.mounts in
            gathered_next surface (take n plans) plan actors job.actor was.1 pass.0.1 is.1 gone.0 coordinator.0 mounted mine.0 before.count
            (let low = count_first surface.id plans (suc n) in
            let same : count_by (mounts_on surface.id) (take (suc n) plans) ≡ count_by (mounts_on surface.id) (take n plans ++ plan ∷ []) = ap (count_by (mounts_on surface.id)) grown in
            let one = done.mounters place surface s in omega (arith, low, same, one))
            (before.each place surface was pass.0 coordinator.0 s w pass.1 coordinator.1)
            (subst (λ k. HasLeft surface k plan job.actor gone.0 mine.0) (sym firsts) (own.each place surface gone.0 mine.0 s gone.1 mine.1))
            (joined.each place pass.0 is gone.0 pass.1 i gone.1)
            (keeps.each place coordinator.0 mounted mine.0 coordinator.1 m mine.1);
      })

-- the next job may be taken apart, and then the others
module _ (spines : List (ℕ × Spine)) (passes new : List (ℕ × PassValue)) (job : Job) (rest : List Job) (mounts kept : List PlainCoordinator) (may : MayGather spines passes (job ∷ rest) mounts)
    (joined : AreJoined passes new job.passes.items) (keeps : AreKept mounts kept job.mounts.items) where
  pub may_gather_next : MayGather spines new rest kept
  may_gather_next = record {
    count = same_length new passes joined.ids ∙ may.count;
    kept = λ place spine pass s p.
        let was = there_too spines passes place spine s may.count in
        let gone = there_too spines job.passes.items place spine s (may.own_passes 0 job refl).count in
        (joined.each place was.0 pass gone.0 was.1 p gone.1).spine ∙ may.kept place spine was.0 s was.1;
    own_passes = λ number own at. may.own_passes (suc number) own at;
    own_mounts = λ number own at. may.own_mounts (suc number) own at ∙ sym keeps.count;
  }

-- whose actor a job is
abbrev pub actor_of : Job → RunningActor
actor_of job = job.actor

-- how far the jobs were taken apart: their actors stand in order, the rest is left and may be, and what was gathered is that of the first actors
module _ (spines : List (ℕ × Spine)) (jobs : List Job) (old : List (ℕ × PassValue)) (first : List PlainCoordinator) where
  pub record HaveCome (rest : List Job) (actors : List RunningActor) (now : List (ℕ × PassValue)) (mounts : List PlainCoordinator) : Type 0 where
    pub actors_are : map actor_of jobs ≡ actors ++ map actor_of rest
    pub left : drop (length actors) jobs ≡ rest
    pub may : MayGather spines now rest mounts
    pub gathered : (surfaces : List PlainSurface) (plans : List PlainActor) → AreDone surfaces plans jobs → AreHandedBack surfaces [] [] old old first
        → AreHandedBack surfaces (take (length actors) plans) actors old now mounts

  pub none_came : (rest : List Job) (actors : List RunningActor) → rest ≡ jobs → actors ≡ [] → MayGather spines old jobs first → HaveCome rest actors old first
  none_came rest actors all none may =
      subst (λ r. HaveCome r actors old first) (sym all)
      (subst (λ a. HaveCome jobs a old first) (sym none) (record { actors_are = refl; left = refl; may = may; gathered = λ surfaces plans done start. start }))

  module _ (rest more : List Job) (job : Job) (actors all : List RunningActor) (now new : List (ℕ × PassValue)) (mounts kept : List PlainCoordinator) (come : HaveCome rest actors now mounts)
      (next : rest ≡ job ∷ more) where
    next_may : MayGather spines now (job ∷ more) mounts
    next_may = subst (λ r. MayGather spines now r mounts) next come.may

    pub next_joins : MayJoin spines now job.passes.items
    next_joins = record { count = next_may.count; kept = next_may.kept; own_passes = next_may.own_passes 0 job refl }

    pub next_keeps : length job.mounts.items ≡ length mounts
    next_keeps = next_may.own_mounts 0 job refl

    pub one_more_came : AreJoined now new job.passes.items → AreKept mounts kept job.mounts.items → all ≡ actors ++ job.actor ∷ [] → HaveCome more all new kept
    one_more_came joined keeps grown =
        let longer = length-append actors (job.actor ∷ []) in
        let s : length all ≡ suc (length actors) = omega (arith, ap length grown, longer) in
        let at : slice_get jobs (length actors) ≡ Some job = drop_head jobs (length actors) job more (come.left ∙ next) in
        record {
          actors_are = come.actors_are ∙ ap (λ l. actors ++ map actor_of l) next ∙ sym (append_assoc actors (job.actor ∷ []) (map actor_of more)) ∙ ap (λ l. l ++ map actor_of more) (sym grown);
          left = drop_tail jobs (length actors) (length all) job more s (come.left ∙ next);
          may = may_gather_next spines now new job more mounts kept next_may joined keeps;
          gathered = λ surfaces plans done start.
              subst (λ n. AreHandedBack surfaces (take n plans) all old new kept) (sym s)
              (subst (λ l. AreHandedBack surfaces (take (suc (length actors)) plans) l old new kept) (sym grown)
              (all_gathered_next surfaces plans jobs (length actors) job actors old now new mounts kept done at (come.gathered surfaces plans done start) joined keeps));
        }

  module _ (rest : List Job) (actors : List RunningActor) (now : List (ℕ × PassValue)) (mounts : List PlainCoordinator) (come : HaveCome rest actors now mounts) (none : length rest ≡ 0) where
    pub all_actors : actors ≡ map actor_of jobs
    all_actors = sym (come.actors_are ∙ ap (λ l. actors ++ map actor_of l) (nil_from_length rest none) ∙ append-nil actors)

    pub all_gathered : (surfaces : List PlainSurface) (plans : List PlainActor) → AreDone surfaces plans jobs → AreHandedBack surfaces [] [] old old first → AreHandedBack surfaces plans actors old now mounts
    all_gathered surfaces plans done start =
        let n : length actors ≡ length plans = ap length all_actors ∙ length-map jobs actor_of ∙ done.count in
        subst (λ l. AreHandedBack surfaces l actors old now mounts) (take_all (length actors) plans (omega (arith, n))) (come.gathered surfaces plans done start)
