-- How a run begins, an item further; and that it begins in order.
use Rattle.std.proofs.Common.{◌≡◌, ℕ, zero, suc, ◌+◌, ◌<◌, false, List, [], ◌∷◌, ◌++◌, length, take, get_or, map, slice_get, arith, refl, ap, sym, ◌∙◌, subst, length-append}
use Rattle.std.specs.Prelude.{All, Some, None, count_by, nat_eq, slice_index_or}
use Rattle.std.specs.List.{AllByRecursion, AllZip, IsDistinct}
use Rattle.std.specs.Map.{keys_of, lookup}
use Rattle.std.proofs.lemmas.Bool.{eqb-false, ne_eqb}
use Rattle.std.proofs.lemmas.Map.{lookup-none}
use Rattle.std.proofs.lemmas.Option.{none-some, same_Some}
use Rattle.std.proofs.lemmas.List.{map-append}
use Rattle.tree_revision.specs.Settled.{KeptRevision}
use Rattle.tree_revision.specs.Script.{PlainSurface}
use Rattle.tree_revision.specs.Sound.{ids_of}
use Rattle.script_read.specs.Plain.{plain_actor, plain_step}
use Rattle.script_read.specs.declared.script.ActorPlan.{ActorPlan}
use Rattle.run_report.specs.Shorthands.{begun}
use Rattle.run_report.specs.Machine.{ActorNow}
use Rattle.run_report.proofs.Lists.{all_at}
use Rattle.run_report.proofs.Pairs.{all_zip_push}
use Rattle.commit_core.specs.declared.plain_parts.PlainSpine.{PlainSpine}
use Rattle.run_engine.specs.declared.workers.Worker.{Worker}
use Rattle.run_engine.specs.Now.{PlainDesk, worker_now}
use Rattle.run_engine.specs.Run.{commits_left}
use Rattle.run_actor.specs.Runs.{commits_on}
use Rattle.run_engine.specs.Opening.{AreOpenings, IsHistory, AreHistories, IsMountedAtStart, IsDeskAtStart, AreDesksAtStart, IsWorkerAtStart, AreWorkersAtStart}
use Rattle.run_engine.proofs.Loops.{there_at, map_next, push_cases}

-- the commits that are left, of one actor more
pub commits_left-push : (id : ℕ) (actors : List ActorNow) (actor : ActorNow)
    → commits_left id (actors ++ actor ∷ []) ≡ commits_left id actors + count_by (commits_on id) actor.left
commits_left-push id [] actor = omega arith
commits_left-push id (first ∷ actors) actor = omega (arith, commits_left-push id actors actor)

-- so of actors that have not begun
pub commits_left-next : (id : ℕ) (plans : List ActorPlan) (i : ℕ) (plan : ActorPlan) → i < length plans → plan ≡ get_or plans i plan
    → commits_left id (map begun (map plain_actor (take (i + 1) plans)))
    ≡ commits_left id (map begun (map plain_actor (take i plans))) + count_by (commits_on id) (map plain_step plan.steps)
commits_left-next id plans i plan within is =
    ap (λ l. commits_left id (map begun l)) (map_next plain_actor plans i plan within is)
    ∙ ap (commits_left id) (map-append begun (map plain_actor (take i plans)) (plain_actor plan ∷ []))
    ∙ commits_left-push id (map begun (map plain_actor (take i plans))) (begun (plain_actor plan))

-- a first revision has number 0
pub number_at : (first : List (ℕ × KeptRevision)) (i : ℕ) (entry : ℕ × KeptRevision) → i < length first → entry ≡ get_or first i entry
    → All (λ entry. entry.1.newest.number ≡ 0) first → entry.1.newest.number ≡ 0
number_at first i entry within is all =
    all_at (λ (entry : ℕ × KeptRevision). entry.1.newest.number ≡ 0) first i entry all (there_at first i entry within ∙ ap Some (sym is))

-- a key differs from those before it
differs_before : (keys : List ℕ) (i k : ℕ) → IsDistinct nat_eq keys → slice_get keys i ≡ Some k → AllByRecursion (λ key. nat_eq k key ≡ false) (take i keys)
unfolding IsDistinct
differs_before [] i k d at = absurd (none-some k at)
differs_before (y ∷ keys) zero k d at = tt
differs_before (y ∷ keys) (suc i) k d at =
    let there : nat_eq y k ≡ false = all_there (λ key. nat_eq y key ≡ false) keys i k d.0 at in
    (ne_eqb k y (λ e. eqb-false y k there (sym e)), differs_before keys i k d.1 at)
  where
    all_there : (P : ℕ → Type 0) (xs : List ℕ) (i x : ℕ) → AllByRecursion P xs → slice_get xs i ≡ Some x → P x
    all_there P [] i x all at = absurd (none-some x at)
    all_there P (z ∷ xs) zero x all at = subst P (same_Some z x at) all.0
    all_there P (z ∷ xs) (suc i) x all at = all_there P xs i x all.1 at

-- lists of keys are made item by item
pub keys_map : {A : Type 0} (entries : List (ℕ × A)) → keys_of entries ≡ map (λ e. e.0) entries
keys_map [] = refl
keys_map (e ∷ entries) = ap (λ l. e.0 ∷ l) (keys_map entries)

keys_take : {A : Type 0} (n : ℕ) (entries : List (ℕ × A)) → keys_of (take n entries) ≡ take n (keys_of entries)
keys_take zero entries = refl
keys_take (suc n) [] = refl
keys_take (suc n) (e ∷ entries) = ap (λ l. e.0 ∷ l) (keys_take n entries)

pub keys_at : {A : Type 0} (entries : List (ℕ × A)) (i : ℕ) (e : ℕ × A) → slice_get entries i ≡ Some e → slice_get (keys_of entries) i ≡ Some e.0
keys_at [] i e at = absurd (none-some e at)
keys_at (x ∷ entries) zero e at = ap (λ (x : ℕ × _). Some x.0) (same_Some x e at)
keys_at (x ∷ entries) (suc i) e at = keys_at entries i e at

none_passes : {A : Type 0} (k : ℕ) (entries : List (ℕ × A)) → AllByRecursion (λ key. nat_eq k key ≡ false) (keys_of entries) → AllByRecursion (λ e. nat_eq k e.0 ≡ false) entries
none_passes k [] all = tt
none_passes k (e ∷ entries) all = (all.0, none_passes k entries all.1)

-- the id that comes next is not among those before it
pub is_new : {A B : Type 0} (all : List (ℕ × A)) (entries : List (ℕ × B)) (n : ℕ) (e : ℕ × A) → IsDistinct nat_eq (keys_of all) → slice_get all n ≡ Some e
    → keys_of entries ≡ keys_of (take n all) → lookup (nat_eq e.0) entries ≡ None
is_new all entries n e d at same =
    lookup-none (nat_eq e.0) entries (none_passes e.0 entries
    (subst (AllByRecursion (λ key. nat_eq e.0 key ≡ false)) (sym (same ∙ keys_take n all)) (differs_before (keys_of all) n e.0 d (keys_at all n e at))))

-- the first items of a list, and the next one
pub take_push : {A : Type 0} (xs : List A) (n m : ℕ) (x : A) → m ≡ suc n → slice_get xs n ≡ Some x → take m xs ≡ take n xs ++ x ∷ []
take_push [] n m x s at = absurd (none-some x at)
take_push (y ∷ ys) n zero x s at = absurd (omega (arith, s))
take_push (y ∷ ys) zero (suc m) x s at =
    let k : m ≡ 0 = omega (arith, s) in
    ap (λ m. y ∷ take m ys) k ∙ ap (λ (y : _). y ∷ []) (same_Some y x at)
take_push (y ∷ ys) (suc n) (suc m) x s at = ap (λ l. y ∷ l) (take_push ys n m x (omega (arith, s)) at)

-- two items at one place of lists whose items agree
pub zip_both : {A B : Type 0} (R : A → B → Type 0) (xs : List A) (ys : List B) (i : ℕ) (x : A) (y : B) → AllZip R xs ys → slice_get xs i ≡ Some x → slice_get ys i ≡ Some y → R x y
zip_both R [] ys i x y all at to = absurd (none-some x at)
zip_both R (z ∷ xs) [] i x y all at to = absurd all
zip_both R (z ∷ xs) (w ∷ ys) zero x y all at to = subst (λ z. R z y) (same_Some z x at) (subst (λ w. R z w) (same_Some w y to) all.0)
zip_both R (z ∷ xs) (w ∷ ys) (suc i) x y all at to = zip_both R xs ys i x y all.1 at to

-- the item that the other list has at a place
pub zip_from : {A B : Type 0} (R : A → B → Type 0) (xs : List A) (ys : List B) (i : ℕ) (y : B) → AllZip R xs ys → slice_get ys i ≡ Some y → (x : A) × (slice_get xs i ≡ Some x) × R x y
zip_from R xs [] i y all to = absurd (none-some y to)
zip_from R [] (w ∷ ys) i y all to = absurd all
zip_from R (z ∷ xs) (w ∷ ys) zero y all to = (z, refl, subst (λ w. R z w) (same_Some w y to) all.0)
zip_from R (z ∷ xs) (w ∷ ys) (suc i) y all to = zip_from R xs ys i y all.1 to

-- the surfaces so far, and one more
pub desks_next : (actors : List ActorNow) (first : List (ℕ × KeptRevision)) (spines : List PlainSpine) (desks all : List (ℕ × PlainDesk))
    → (n m : ℕ) (entry : ℕ × KeptRevision) (spine : PlainSpine) (desk : PlainDesk) → m ≡ suc n → slice_get first n ≡ Some entry → slice_get spines n ≡ Some spine
    → all ≡ desks ++ (entry.0, desk) ∷ [] → (IsHistory actors entry spine → IsHistory actors entry desk.port.spine) → IsMountedAtStart entry.1 desk
    → AreHistories actors first spines → AreDesksAtStart actors (take n first) desks → AreDesksAtStart actors (take m first) all
desks_next actors first spines desks all n m entry spine desk s at to all_are history mounted histories before =
    subst (λ first. AreDesksAtStart actors first all) (sym (take_push first n m entry s at))
    (subst (AreDesksAtStart actors _) (sym all_are)
    (all_zip_push (IsDeskAtStart actors) (take n first) desks entry (entry.0, desk) before
    (record { id = refl; history = history (zip_both (IsHistory actors) first spines n entry spine histories at to); mounted = mounted })))

-- the keys so far, and one more
pub keys_next : (first : List (ℕ × KeptRevision)) (desks all : List (ℕ × PlainDesk)) (n m : ℕ) (entry : ℕ × KeptRevision) (desk : PlainDesk) → m ≡ suc n → slice_get first n ≡ Some entry
    → all ≡ desks ++ (entry.0, desk) ∷ [] → keys_of desks ≡ keys_of (take n first) → keys_of all ≡ keys_of (take m first)
keys_next first desks all n m entry desk s at all_are before =
    ap keys_of all_are ∙ keys_map (desks ++ (entry.0, desk) ∷ []) ∙ map-append (λ e. e.0) desks ((entry.0, desk) ∷ [])
    ∙ ap (λ l. l ++ entry.0 ∷ []) (sym (keys_map desks) ∙ before ∙ keys_map (take n first))
    ∙ sym (ap keys_of (take_push first n m entry s at) ∙ keys_map (take n first ++ entry ∷ []) ∙ map-append (λ e. e.0) (take n first) (entry ∷ []))

-- actors before their first steps, and one more
pub workers_next : (first : List (ℕ × KeptRevision)) (plans : List ActorPlan) (i : ℕ) (plan : ActorPlan) → i < length plans → plan ≡ get_or plans i plan
    → (workers : List Worker) (worker : Worker) (all : List Worker) → all ≡ workers ++ worker ∷ []
    → AreWorkersAtStart first (map plain_actor (take i plans)) workers → length workers ≡ i → worker_now worker ≡ begun (plain_actor plan) → IsWorkerAtStart first i worker
    → AreWorkersAtStart first (map plain_actor (take (i + 1) plans)) all × (length all ≡ i + 1)
workers_next first plans i plan within is workers worker all all_are before count now own =
    let grown : map plain_actor (take (i + 1) plans) ≡ map plain_actor (take i plans) ++ plain_actor plan ∷ [] = map_next plain_actor plans i plan within is in
    let each = push_cases (λ n w. IsWorkerAtStart first n w) workers 0 worker (λ j w e. let k : j ≡ 0 + j = omega arith in subst (λ n. IsWorkerAtStart first n w) k (before.each j w e))
    (let k : i ≡ 0 + length workers = omega (arith, count) in subst (λ n. IsWorkerAtStart first n worker) k own) in (
      record {
        now = ap (map worker_now) all_are ∙ map-append worker_now workers (worker ∷ []) ∙ (λ j. before.now j ++ now j ∷ [])
            ∙ sym (map-append begun (map plain_actor (take i plans)) (plain_actor plan ∷ [])) ∙ ap (map begun) (sym grown);
        each = λ n w e. let k : 0 + n ≡ n = omega arith in subst (λ n. IsWorkerAtStart first n w) k (each n w (subst (λ l. slice_get l n ≡ Some w) all_are e));
      },
      omega (arith, ap length all_are, length-append workers (worker ∷ []), count),
    )

-- what stands at a place below the length, and what holds of it
pub all_at_place : {A : Type 0} (P : A → Type 0) (xs : List A) (i : ℕ) → AllByRecursion P xs → i < length xs → (x : A) × (slice_get xs i ≡ Some x) × P x
all_at_place P [] i all below = absurd (omega (arith, below))
all_at_place P (x ∷ xs) zero all below = (x, refl, all.0)
all_at_place P (x ∷ xs) (suc i) all below = all_at_place P xs i all.1 (omega (arith, below))

-- the first revisions have number 0
pub numbers_are_zero : (surfaces : List PlainSurface) (first : List (ℕ × KeptRevision)) → AreOpenings surfaces first
    → (k : ℕ) (d : ℕ × KeptRevision) → k < length first → (slice_index_or first k d).1.newest.number ≡ 0
numbers_are_zero surfaces [] openings k d below = absurd (omega (arith, below))
numbers_are_zero [] (e ∷ first) openings k d below = absurd openings
numbers_are_zero (s ∷ surfaces) (e ∷ first) openings zero d below = openings.0.stands.newest.number
numbers_are_zero (s ∷ surfaces) (e ∷ first) openings (suc k) d below = numbers_are_zero surfaces first openings.1 k d (omega (arith, below))

-- and the surfaces' ids
pub ids_are : (surfaces : List PlainSurface) (first : List (ℕ × KeptRevision)) → AreOpenings surfaces first → keys_of first ≡ ids_of surfaces
ids_are [] [] openings = refl
ids_are [] (e ∷ first) openings = absurd openings
ids_are (s ∷ surfaces) [] openings = absurd openings
ids_are (s ∷ surfaces) (e ∷ first) openings = λ i. openings.0.id i ∷ ids_are surfaces first openings.1 i
