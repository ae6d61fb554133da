-- A script without a fault is sound, and within the counts.
use Rattle.std.proofs.Common.{◌≡◌, ℕ, suc, ◌+◌, ◌<◌, ◌≤◌, List, [], ◌∷◌, ◌++◌, length, arith, refl, sym, ap, ◌∙◌, append_assoc}
use Rattle.std.proofs.lemmas.Bool.Decides.{nat_tests}
use Rattle.std.proofs.lemmas.List.{length-map, append-nil}
use Rattle.std.proofs.lemmas.List.Sums.{sum_by-cons}
use Rattle.std.proofs.lemmas.Map.Keys.{IsDistinct-cons}
use Rattle.std.specs.Prelude.{ℤ, pos, nat_abs, int_le, Bool, true, false, not, cond, ◌&&◌, ◌||◌, IsTrue, nat_eq, nat_le, nat_lt, bytes_eq, count_by, position, Option, Some, None, option_map, unwrap_or, map, All, codes, if◌then◌else◌}
use Rattle.std.specs.List.{list_any, find, position_or_len, AllByRecursion, IsDistinct}
use Rattle.std.specs.Ordering.{int_eq}
use Rattle.serde_json.specs.Data.{Data}
use Rattle.tree_revision.specs.InRange.{IsSurfaceInRange, IsStepInRange}
use Rattle.tree_revision.specs.Script.{PlainStep, PlainActor}
use Rattle.tree_revision.specs.Sound.{is_name, names_of, ids_of, is_mount, mounts_on, HasOneMounter, IsSoundScript, step_count, IsWithinCounts}
use Rattle.script_read.specs.Members.{has_form, natural_of, natural_in, natural_at, integer_in, integer_at, text_at, items_at}
use Rattle.script_read.specs.Places.{Pointer, Refusals, first_of, unless, at_member, refused, in_member, first_after, in_items, nowhere, in_step, in_actors}
use Rattle.script_read.specs.Words.{is_version_two}
use Rattle.script_read.specs.Shape.{is_integer, is_array, not_integers, misshapen, misshapen_surface, misshapen_script}
use Rattle.script_read.specs.Faults.{is_known_version, item_count, steps_in_all, over_steps, too_many, is_named, bad_name_in, bad_name, is_from, is_surface, bad_size, bad_plan, bad_step, bad_surface, bad_kind, bad_prop, bad_tag_in, bad_tag, is_mount_on, mounter_count, is_shared, two_mounters, is_turn, bad_turn}
use Rattle.script_read.specs.Value.{act_of, step_of, actor_of, surface_of, script_of}
use Rattle.script_read.specs.Reads.{with_place, fault_of}
use Rattle.script_read.specs.declared.script.ScriptFault.{ScriptFault}
use Rattle.script_read.specs.declared.script.ScriptFault.TheVariants.{Shape, Version, TooMany, BadName, BadSurface, BadKind, BadProp, BadTag, TwoMounters, BadTurn}
use Rattle.script_read.specs.declared.words.Word.TheVariants.{Complete, State, Props, Size, Stop, Hold, Mount, Suspend, Resume}
use Rattle.script_read.proofs.Refusals.{none_two, none_mapped, unless_holds, after_first, after_later, items_pass, both_hold, all_mapped, StepsPass, actors_pass, both, same_count}
use Rattle.script_read.proofs.Ranges.{natural_range, natural_small, natural_is, equal_integers}
use Rattle.script_read.proofs.SoundSteps.{size_in, step_in}

-- ---- tests and lists

-- none of some places
all_none : {A : Type 0} (places : List (Option A)) → first_of places ≡ None → AllByRecursion (λ place. place ≡ None) places
all_none [] h = tt
all_none (None ∷ places) h = (refl, all_none places h)
all_none (Some place ∷ places) h = cc

turned : (b : Bool) → not b ≡ true → b ≡ false
turned true h = cc
turned false h = refl

kept : (b : Bool) → not b ≡ false → b ≡ true
kept true h = refl
kept false h = cc

neither : (a b : Bool) → (a || b) ≡ false → (a ≡ false) × (b ≡ false)
neither true b h = cc
neither false b h = (refl, h)

first_is : (a b : Bool) → a ≡ true → (a || b) ≡ true
first_is true b h = refl
first_is false b h = cc

other_is : (a b : Bool) → b ≡ true → (a || b) ≡ true
other_is true b h = refl
other_is false b h = h

few : (n m : ℕ) → m ≤ n → nat_lt 1 n ≡ false → m ≤ 1
few n m l h = grind (arith, nat_tests, h)

not_below : (n m : ℕ) → nat_lt n m ≡ false → n < m → ⊥
not_below n m h l = grind (arith, nat_tests, h)

below_too : (n m : ℕ) → nat_lt (1 + n) (suc m) ≡ false → nat_lt n m ≡ false
below_too n m h = grind (arith, nat_tests, h)

below_count : (n m k : ℕ) → n ≤ m → nat_lt m k ≡ true → n < k
below_count n m k l h = grind (arith, nat_tests, h)

at_most_count : (n m : ℕ) → nat_le n m ≡ true → n ≤ m
at_most_count n m h = grind (arith, nat_tests, h)

within_count : (name : List ℕ) (n m : ℕ) → at_member name (unless (nat_le n m)) ≡ None → n ≤ m
within_count name n m h = at_most_count n m (unless_holds (nat_le n m) (none_mapped _ (unless (nat_le n m)) h))

-- what follows for each element
each_has : {A : Type 0} (P Q : A → Type 0) → ((x : A) → P x → Q x) → (xs : List A) → AllByRecursion P xs → AllByRecursion Q xs
each_has P Q f [] h = tt
each_has P Q f (x ∷ xs) h = (f x h.0, each_has P Q f xs h.1)

distinct_none : {K : Type 0} (eq : K → K → Bool) → IsDistinct eq []
unfolding IsDistinct
distinct_none eq = tt

-- ---- keys that differ

-- what an element before a value has against it, where it is among those before
among : {A : Type 0} (P : A → Type 0) (front : List A) (x : A) (back : List A) → AllByRecursion P (front ++ x ∷ back) → P x
among P [] x back h = h.0
among P (y ∷ front) x back h = among P front x back h.1

differ_later : {K : Type 0} (eq : K → K → Bool) (key : Data → K) (refuse : List Data → Data → Option Pointer)
    → ((before : List Data) (y : Data) → refuse before y ≡ None → AllByRecursion (λ x. eq (key x) (key y) ≡ false) before)
    → (front : List Data) (x : Data) (back xs : List Data) → first_after refuse (front ++ x ∷ back) xs ≡ None → AllByRecursion (λ k. eq (key x) k ≡ false) (map key xs)
differ_later eq key refuse f front x back [] h = tt
differ_later eq key refuse f front x back (y ∷ ys) h =
    let later : first_after refuse (front ++ x ∷ (back ++ y ∷ [])) ys ≡ None
    = ap (λ before. first_after refuse before ys) (sym (append_assoc front (x ∷ back) (y ∷ []))) ∙ after_later refuse (front ++ x ∷ back) y ys h
    in (
      among (λ z. eq (key z) (key y) ≡ false) front x back (f (front ++ x ∷ back) y (after_first refuse (front ++ x ∷ back) y ys h)),
      differ_later eq key refuse f front x (back ++ y ∷ []) ys later,
    )

-- keys differ where each value's differs from those before
keys_differ : {K : Type 0} (eq : K → K → Bool) (key : Data → K) (refuse : List Data → Data → Option Pointer)
    → ((before : List Data) (y : Data) → refuse before y ≡ None → AllByRecursion (λ x. eq (key x) (key y) ≡ false) before)
    → (before xs : List Data) → first_after refuse before xs ≡ None → IsDistinct eq (map key xs)
keys_differ eq key refuse f before [] h = distinct_none eq
keys_differ eq key refuse f before (x ∷ xs) h =
    IsDistinct-cons eq (key x) (map key xs) (differ_later eq key refuse f before x [] xs (after_later refuse before x xs h))
    (keys_differ eq key refuse f (before ++ x ∷ []) xs (after_later refuse before x xs h))

none_before : {A : Type 0} (test : A → Bool) (xs : List A) → list_any test xs ≡ false → AllByRecursion (λ x. test x ≡ false) xs
none_before test [] h = tt
none_before test (x ∷ xs) h = let n = neither (test x) (list_any test xs) h in (n.0, none_before test xs n.1)

-- ---- names

named_well : (before : List Data) (actor : Data) → bad_name_in before actor ≡ None
    → (is_name (text_at (codes "name") actor) ≡ true) × (not (is_named before (text_at (codes "name") actor)) ≡ true)
named_well before actor h =
    both (is_name (text_at (codes "name") actor)) (not (is_named before (text_at (codes "name") actor)))
    (unless_holds (is_name (text_at (codes "name") actor) && not (is_named before (text_at (codes "name") actor)))
    (none_mapped _ (unless (is_name (text_at (codes "name") actor) && not (is_named before (text_at (codes "name") actor)))) h))

names_are : (two : Bool) (actors : List Data) → names_of (map (actor_of two) actors) ≡ map (text_at (codes "name")) actors
names_are two [] = refl
names_are two (actor ∷ actors) = ap (λ names. text_at (codes "name") actor ∷ names) (names_are two actors)

names_good : (two : Bool) (script : Data) → bad_name script ≡ None → All (λ name. IsTrue (is_name name)) (names_of (map (actor_of two) (items_at (codes "actors") script)))
names_good two script h =
    rw (names_are two (items_at (codes "actors") script))
    (all_mapped (λ name. IsTrue (is_name name)) (text_at (codes "name")) (items_at (codes "actors") script)
    (items_pass (λ actor. is_name (text_at (codes "name") actor) ≡ true) (codes "actors") bad_name_in (λ before actor p. (named_well before actor p).0) script h))

names_apart : (two : Bool) (script : Data) → bad_name script ≡ None → IsDistinct bytes_eq (names_of (map (actor_of two) (items_at (codes "actors") script)))
names_apart two script h =
    rw (names_are two (items_at (codes "actors") script))
    (keys_differ bytes_eq (text_at (codes "name")) bad_name_in
    (λ before actor p.
    none_before (λ other. bytes_eq (text_at (codes "name") other) (text_at (codes "name") actor)) before
    (turned (is_named before (text_at (codes "name") actor)) (named_well before actor p).1)) [] (items_at (codes "actors") script)
    (none_mapped _ (first_after bad_name_in [] (items_at (codes "actors") script)) h))

-- ---- surfaces

-- a surface's id is from 1 to 1,000,000, and its own
id_well : (before : List Data) (surface : Data) → bad_plan before surface ≡ None
    → (is_from (pos 1) (pos 1000000) (integer_at (codes "id") surface) ≡ true) × (not (is_surface before (integer_at (codes "id") surface)) ≡ true)
id_well before surface h =
    let test : Bool = is_from (pos 1) (pos 1000000) (integer_at (codes "id") surface) && not (is_surface before (integer_at (codes "id") surface)) in
    both (is_from (pos 1) (pos 1000000) (integer_at (codes "id") surface)) (not (is_surface before (integer_at (codes "id") surface)))
    (unless_holds test (none_mapped _ (unless test) (none_two (at_member (codes "id") (unless test)) (bad_size surface) h).0))

surface_in : (before : List Data) (surface : Data) → bad_plan before surface ≡ None → IsSurfaceInRange (surface_of surface)
surface_in before surface h =
    let r = natural_range 1 1000000 (integer_at (codes "id") surface) (omega arith) (id_well before surface h).0 in
    let test : Bool = is_from (pos 1) (pos 1000000) (integer_at (codes "id") surface) && not (is_surface before (integer_at (codes "id") surface)) in
    record { low = r.0; high = r.1; size = size_in surface (none_two (at_member (codes "id") (unless test)) (bad_size surface) h).1 }

surfaces_in : (script : Data) → bad_surface script ≡ None → in_items (codes "surfaces") bad_plan script ≡ None
surfaces_in script h =
    (none_two (in_items (codes "surfaces") bad_plan script) (in_actors (record { of_actor = nowhere; of_step = bad_step script; of_node = nowhere }) script) h).0

ids_are : (surfaces : List Data) → ids_of (map surface_of surfaces) ≡ map (natural_at (codes "id")) surfaces
ids_are [] = refl
ids_are (surface ∷ surfaces) = ap (λ ids. natural_at (codes "id") surface ∷ ids) (ids_are surfaces)

ids_apart_by : (x y : ℤ) → 1 ≤ natural_of y → pos (natural_of y) ≡ y → int_eq x y ≡ false → nat_eq (natural_of x) (natural_of y) ≡ false
ids_apart_by x y low same apart =
    elim (nat_eq (natural_of x) (natural_of y)) as (λ b. (nat_eq (natural_of x) (natural_of y) ≡ b) → b ≡ false) [
      | true ↦ λ e.
          let k : natural_of x ≡ natural_of y = same_count (natural_of x) (natural_of y) e in
          let z : x ≡ y = natural_is x (natural_of y) low k ∙ same in
          let clash : true ≡ false = sym (equal_integers x y z) ∙ apart in cc
      | false ↦ λ e. refl
    ] refl

ids_apart : (script : Data) → bad_surface script ≡ None → IsDistinct nat_eq (ids_of (map surface_of (items_at (codes "surfaces") script)))
ids_apart script h =
    rw (ids_are (items_at (codes "surfaces") script))
    (keys_differ nat_eq (natural_at (codes "id")) bad_plan
    (λ before surface p.
    let w = id_well before surface p in
    let r = natural_range 1 1000000 (integer_at (codes "id") surface) (omega arith) w.0 in
    each_has (λ other. int_eq (integer_at (codes "id") other) (integer_at (codes "id") surface) ≡ false)
    (λ other. nat_eq (natural_at (codes "id") other) (natural_at (codes "id") surface) ≡ false)
    (λ other q. ids_apart_by (integer_at (codes "id") other) (integer_at (codes "id") surface) r.0 r.2 q) before
    (none_before (λ other. int_eq (integer_at (codes "id") other) (integer_at (codes "id") surface)) before
    (turned (is_surface before (integer_at (codes "id") surface)) w.1))) [] (items_at (codes "surfaces") script)
    (none_mapped _ (first_after bad_plan [] (items_at (codes "surfaces") script)) (surfaces_in script h)))

-- ---- steps

actor_in : (two : Bool) (script actor : Data) → StepsPass (misshapen two) actor
    → StepsPass (record { of_actor = nowhere; of_step = bad_step script; of_node = nowhere }) actor
    → StepsPass (record { of_actor = nowhere; of_step = bad_tag_in; of_node = bad_tag_in }) actor
    → All (IsStepInRange (ids_of (map surface_of (items_at (codes "surfaces") script)))) (map (step_of two) (items_at (codes "steps") actor))
actor_in two script actor m p t =
    let places : Refusals = record { of_actor = nowhere; of_step = bad_step script; of_node = nowhere } in
    let tags : Refusals = record { of_actor = nowhere; of_step = bad_tag_in; of_node = bad_tag_in } in
    let ids : List ℕ = ids_of (map surface_of (items_at (codes "surfaces") script)) in
    all_mapped (IsStepInRange ids) (step_of two) (items_at (codes "steps") actor)
    (both_hold (λ step. (in_step (misshapen two) step ≡ None) × (in_step places step ≡ None)) (λ step. in_step tags step ≡ None) (λ step. IsStepInRange ids (step_of two step))
    (λ step q r. step_in two script step q.0 q.1 r) (items_at (codes "steps") actor)
    (both_hold (λ step. in_step (misshapen two) step ≡ None) (λ step. in_step places step ≡ None)
    (λ step. (in_step (misshapen two) step ≡ None) × (in_step places step ≡ None)) (λ step q r. (q, r)) (items_at (codes "steps") actor) m p) t)

steps_in : (two : Bool) (script : Data) → in_actors (misshapen two) script ≡ None → bad_surface script ≡ None → bad_tag script ≡ None
    → All (λ actor. All (IsStepInRange (ids_of (map surface_of (items_at (codes "surfaces") script)))) actor.steps) (map (actor_of two) (items_at (codes "actors") script))
steps_in two script m p t =
    let places : Refusals = record { of_actor = nowhere; of_step = bad_step script; of_node = nowhere } in
    let tags : Refusals = record { of_actor = nowhere; of_step = bad_tag_in; of_node = bad_tag_in } in
    let ids : List ℕ = ids_of (map surface_of (items_at (codes "surfaces") script)) in
    all_mapped (λ actor. All (IsStepInRange ids) actor.steps) (actor_of two) (items_at (codes "actors") script)
    (both_hold (λ actor. StepsPass (misshapen two) actor × StepsPass places actor) (StepsPass tags)
    (λ actor. All (IsStepInRange ids) (map (step_of two) (items_at (codes "steps") actor)))
    (λ actor q r. actor_in two script actor q.0 q.1 r) (items_at (codes "actors") script)
    (both_hold (StepsPass (misshapen two)) (StepsPass places) (λ actor. StepsPass (misshapen two) actor × StepsPass places actor) (λ actor q r. (q, r))
    (items_at (codes "actors") script) (actors_pass (misshapen two) script m)
    (actors_pass places script (none_two (in_items (codes "surfaces") bad_plan script) (in_actors places script) p).1)) (actors_pass tags script t))

-- ---- mounters

mount_by : (two complete state props size stop hold mount suspend resume : Bool) (step : Data)
    → is_mount (act_of two (unwrap_or
    (cond complete (Some Complete)
    (cond state (Some State)
    (cond props (Some Props)
    (cond size (Some Size)
    (cond stop (Some Stop)
    (cond hold (Some Hold)
    (cond mount (Some Mount)
    (cond suspend (Some Suspend)
    (cond resume (Some Resume) None))))))))) Hold) step) ≡ true
    → mount ≡ true
mount_by two true state props size stop hold mount suspend resume step h = cc
mount_by two false true props size stop hold mount suspend resume step h = cc
mount_by two false false true size stop hold mount suspend resume step h = cc
mount_by two false false false true stop hold mount suspend resume step h = cc
mount_by two false false false false true hold mount suspend resume step h = cc
mount_by two false false false false false true mount suspend resume step h = cc
mount_by two false false false false false false true suspend resume step h = refl
mount_by two false false false false false false false true resume step h = cc
mount_by two false false false false false false false false true step h = cc
mount_by two false false false false false false false false false step h = cc

mount_back : (two : Bool) (surface step : Data) → 1 ≤ natural_at (codes "id") surface → pos (natural_at (codes "id") surface) ≡ integer_at (codes "id") surface
    → (is_mount (step_of two step).act && nat_eq (step_of two step).surface (natural_at (codes "id") surface)) ≡ true → is_mount_on surface step ≡ true
mount_back two surface step low same h =
    let b = both (is_mount (step_of two step).act) (nat_eq (natural_at (codes "on") step) (natural_at (codes "id") surface)) h in
    let text : List ℕ = text_at (codes "do") step in
    let w : bytes_eq text (codes "mount") ≡ true
    = mount_by two (bytes_eq text (codes "complete")) (bytes_eq text (codes "state")) (bytes_eq text (codes "props")) (bytes_eq text (codes "size"))
    (bytes_eq text (codes "stop")) (bytes_eq text (codes "hold")) (bytes_eq text (codes "mount")) (two && bytes_eq text (codes "suspend"))
    (two && bytes_eq text (codes "resume")) step b.0
    in
    let e : integer_at (codes "on") step ≡ integer_at (codes "id") surface
    = natural_is (integer_at (codes "on") step) (natural_at (codes "id") surface) low
    (same_count (natural_at (codes "on") step) (natural_at (codes "id") surface) b.1) ∙ same
    in
    rw w (equal_integers (integer_at (codes "on") step) (integer_at (codes "id") surface) e)

any_back : {A B : Type 0} (p : B → Bool) (q : A → Bool) (f : A → B) → ((x : A) → p (f x) ≡ true → q x ≡ true) → (xs : List A) → list_any p (map f xs) ≡ true
    → list_any q xs ≡ true
any_back p q f h [] e = e
any_back p q f h (x ∷ xs) e =
    elim (p (f x)) as (λ b. (p (f x) ≡ b) → (b || list_any p (map f xs)) ≡ true → (q x || list_any q xs) ≡ true) [
      | true ↦ λ i j. first_is (q x) (list_any q xs) (h x i)
      | false ↦ λ i j. other_is (q x) (list_any q xs) (any_back p q f h xs j)
    ] refl e

count_back : {A B : Type 0} (p : B → Bool) (q : A → Bool) (f : A → B) → ((x : A) → p (f x) ≡ true → q x ≡ true) → (xs : List A) → count_by p (map f xs) ≤ count_by q xs
count_back p q f h [] = omega arith
count_back p q f h (x ∷ xs) =
    let m = sum_by-cons (λ y. cond (p y) 1 0) (f x) (map f xs) in
    let n = sum_by-cons (λ y. cond (q y) 1 0) x xs in
    let l = count_back p q f h xs in
    let k : cond (p (f x)) 1 0 ≤ cond (q x) 1 0
    = elim (p (f x)) as (λ b. (p (f x) ≡ b) → cond b 1 0 ≤ cond (q x) 1 0) [ true ↦ λ i. rw (h x i) (omega arith) | false ↦ λ i. omega arith ] refl
    in
    omega arith

one_mounter : (two : Bool) (script surface : Data) → 1 ≤ natural_at (codes "id") surface → pos (natural_at (codes "id") surface) ≡ integer_at (codes "id") surface
    → is_shared script surface ≡ false → HasOneMounter (map (actor_of two) (items_at (codes "actors") script)) (natural_at (codes "id") surface)
one_mounter two script surface low same h =
    let id : ℕ = natural_at (codes "id") surface in
    let c = count_back (mounts_on id) (λ actor. list_any (is_mount_on surface) (items_at (codes "steps") actor)) (actor_of two)
    (λ actor e.
    any_back (λ (step : PlainStep). is_mount step.act && nat_eq step.surface id) (is_mount_on surface) (step_of two) (λ step. mount_back two surface step low same)
    (items_at (codes "steps") actor) e) (items_at (codes "actors") script)
    in
    few (mounter_count script surface) (count_by (mounts_on id) (map (actor_of two) (items_at (codes "actors") script))) c h

none_found : {A : Type 0} (test : A → Bool) (xs : List A) → find test xs ≡ None → AllByRecursion (λ x. test x ≡ false) xs
none_found test [] h = tt
none_found test (x ∷ xs) h =
    elim (test x) as (λ b. (test x ≡ b) → cond b (Some x) (find test xs) ≡ None → AllByRecursion (λ y. test y ≡ false) (x ∷ xs)) [
      | true ↦ λ e p. cc
      | false ↦ λ e p. (e, none_found test xs p)
    ] refl h

mounters_in : (two : Bool) (script : Data) → bad_surface script ≡ None → two_mounters script ≡ None
    → All (HasOneMounter (map (actor_of two) (items_at (codes "actors") script))) (ids_of (map surface_of (items_at (codes "surfaces") script)))
mounters_in two script b h =
    let actors : List PlainActor = map (actor_of two) (items_at (codes "actors") script) in
    rw (ids_are (items_at (codes "surfaces") script))
    (all_mapped (HasOneMounter actors) (natural_at (codes "id")) (items_at (codes "surfaces") script)
    (both_hold (λ surface. is_from (pos 1) (pos 1000000) (integer_at (codes "id") surface) ≡ true) (λ surface. is_shared script surface ≡ false)
    (λ surface. HasOneMounter actors (natural_at (codes "id") surface))
    (λ surface f s.
    let r = natural_range 1 1000000 (integer_at (codes "id") surface) (omega arith) f in
    one_mounter two script surface r.0 r.2 s) (items_at (codes "surfaces") script)
    (items_pass (λ surface. is_from (pos 1) (pos 1000000) (integer_at (codes "id") surface) ≡ true) (codes "surfaces") bad_plan (λ before surface p. (id_well before surface p).0)
    script (surfaces_in script b))
    (none_found (is_shared script) (items_at (codes "surfaces") script) (none_mapped _ (find (is_shared script) (items_at (codes "surfaces") script)) h))))

-- ---- turns

placed_below : {A : Type 0} (test : A → Bool) (xs : List A) → nat_lt (position_or_len test xs) (length xs) ≡ false → AllByRecursion (λ x. test x ≡ false) xs
placed_below test [] h = tt
placed_below test (x ∷ xs) h =
    elim (test x) as (λ b. (test x ≡ b) → nat_lt (cond (not b) (1 + position_or_len test xs) 0) (suc (length xs)) ≡ false → AllByRecursion (λ y. test y ≡ false) (x ∷ xs)) [
      | true ↦ λ e p. absurd (not_below 0 (suc (length xs)) p (omega arith))
      | false ↦ λ e p. (e, placed_below test xs (below_too (position_or_len test xs) (length xs) p))
    ] refl h

none_placed : {A : Type 0} (test : A → Bool) (xs : List A) → position test xs ≡ None → AllByRecursion (λ x. test x ≡ false) xs
none_placed test xs h =
    elim (nat_lt (position_or_len test xs) (length xs)) as (λ b. (nat_lt (position_or_len test xs) (length xs) ≡ b) → cond b (Some (position_or_len test xs)) None ≡ None
    → AllByRecursion (λ y. test y ≡ false) xs) [
      | true ↦ λ e p. cc
      | false ↦ λ e p. placed_below test xs e
    ] refl h

turn_in : (script turn : Data) → not (is_turn script turn) ≡ false → natural_in turn < item_count (codes "actors") script
turn_in script turn h =
    let b = both (int_le (pos 0) (integer_in turn)) (nat_lt (nat_abs (integer_in turn)) (item_count (codes "actors") script)) (kept (is_turn script turn) h) in
    below_count (natural_in turn) (nat_abs (integer_in turn)) (item_count (codes "actors") script) (natural_small (integer_in turn)) b.1

turns_in : (two : Bool) (script : Data) → bad_turn script ≡ None
    → All (λ turn. turn < length (map (actor_of two) (items_at (codes "actors") script))) (map natural_in (items_at (codes "turns") script))
turns_in two script h =
    rw (length-map (items_at (codes "actors") script) (actor_of two))
    (all_mapped (λ turn. turn < item_count (codes "actors") script) natural_in (items_at (codes "turns") script)
    (each_has (λ turn. not (is_turn script turn) ≡ false) (λ turn. natural_in turn < item_count (codes "actors") script) (turn_in script)
    (items_at (codes "turns") script) (none_placed (λ turn. not (is_turn script turn)) (items_at (codes "turns") script) h)))

-- ---- counts

counts_are : (two : Bool) (actors : List Data) → step_count (map (actor_of two) actors) ≡ steps_in_all actors
counts_are two [] = refl
counts_are two (actor ∷ actors) =
    let n = sum_by-cons (λ (n : ℕ). n) (item_count (codes "steps") actor) (map (item_count (codes "steps")) actors) in
    let m : length (map (step_of two) (items_at (codes "steps") actor)) ≡ item_count (codes "steps") actor = length-map (items_at (codes "steps") actor) (step_of two) in
    let k = counts_are two actors in
    omega arith

over_none : (before xs : List Data) → steps_in_all before ≤ 2048 → first_after over_steps before xs ≡ None → steps_in_all (before ++ xs) ≤ 2048
over_none before [] l h = rw (append-nil before) l
over_none before (x ∷ xs) l h =
    let t = unless_holds (nat_le (steps_in_all (before ++ x ∷ [])) 2048) (none_mapped _ (unless (nat_le (steps_in_all (before ++ x ∷ [])) 2048)) (after_first over_steps before x xs h)) in
    rw (← append_assoc before (x ∷ []) xs) (over_none (before ++ x ∷ []) xs (at_most_count (steps_in_all (before ++ x ∷ [])) 2048 t) (after_later over_steps before x xs h))

-- where there may be too many, in order
abbrev many_places : Data → List (Option Pointer)
many_places script =
    at_member (codes "surfaces") (unless (nat_le (item_count (codes "surfaces") script) 8))
    ∷ at_member (codes "actors") (unless (nat_le (item_count (codes "actors") script) 16))
    ∷ in_items (codes "actors") over_steps script
    ∷ at_member (codes "turns") (unless (nat_le (item_count (codes "turns") script) 65536))
    ∷ []

counts_in : (script : Data) → too_many script ≡ None → IsWithinCounts (script_of script)
counts_in script h =
    let n = all_none (many_places script) h in
    let two : Bool = is_version_two script in
    record {
      surfaces =
          rw (length-map (items_at (codes "surfaces") script) surface_of) (within_count (codes "surfaces") (item_count (codes "surfaces") script) 8 n.0);
      actors =
          rw (length-map (items_at (codes "actors") script) (actor_of two)) (within_count (codes "actors") (item_count (codes "actors") script) 16 n.1.0);
      steps =
          rw (counts_are two (items_at (codes "actors") script))
          (over_none [] (items_at (codes "actors") script) (omega arith) (none_mapped _ (first_after over_steps [] (items_at (codes "actors") script)) n.1.1.0));
      turns =
          rw (length-map (items_at (codes "turns") script) natural_in) (within_count (codes "turns") (item_count (codes "turns") script) 65536 n.1.1.1.0);
    }

-- ---- the whole

-- the faults of a value, in order
abbrev faults_in : Data → List (Option ScriptFault)
faults_in script =
    with_place Shape (misshapen_script script)
    ∷ (if is_known_version script then None else Some Version)
    ∷ with_place TooMany (too_many script)
    ∷ with_place BadName (bad_name script)
    ∷ with_place BadSurface (bad_surface script)
    ∷ with_place BadKind (bad_kind script)
    ∷ with_place BadProp (bad_prop script)
    ∷ with_place BadTag (bad_tag script)
    ∷ option_map TwoMounters (two_mounters script)
    ∷ option_map BadTurn (bad_turn script)
    ∷ []

-- where a value may be misshapen, in order
abbrev form_places : Data → List (Option Pointer)
form_places script =
    unless (has_form (codes "version" ∷ codes "surfaces" ∷ codes "actors" ∷ codes "turns" ∷ []) [] script)
    ∷ refused (codes "version") is_integer script
    ∷ refused (codes "surfaces") is_array script
    ∷ in_items (codes "surfaces") (λ before surface. misshapen_surface surface) script
    ∷ refused (codes "actors") is_array script
    ∷ in_actors (misshapen (is_version_two script)) script
    ∷ refused (codes "turns") is_array script
    ∷ in_member (codes "turns") not_integers script
    ∷ []

-- a script without a fault is sound and within the counts
pub sound_value : (script : Data) → fault_of script ≡ None → IsSoundScript (script_of script) × IsWithinCounts (script_of script)
sound_value script h =
    let n = all_none (faults_in script) h in
    let two : Bool = is_version_two script in
    let form = all_none (form_places script) (none_mapped _ (misshapen_script script) n.0) in
    let many = none_mapped _ (too_many script) n.1.1.0 in
    let names = none_mapped _ (bad_name script) n.1.1.1.0 in
    let surfaces = none_mapped _ (bad_surface script) n.1.1.1.1.0 in
    let tags = none_mapped _ (bad_tag script) n.1.1.1.1.1.1.1.0 in
    let mounters = none_mapped _ (two_mounters script) n.1.1.1.1.1.1.1.1.0 in
    let turns = none_mapped _ (bad_turn script) n.1.1.1.1.1.1.1.1.1.0 in (
      record {
        names = names_good two script names;
        names_differ = names_apart two script names;
        surfaces = all_mapped IsSurfaceInRange surface_of (items_at (codes "surfaces") script)
            (items_pass (λ surface. IsSurfaceInRange (surface_of surface)) (codes "surfaces") bad_plan surface_in script (surfaces_in script surfaces));
        ids_differ = ids_apart script surfaces;
        steps = steps_in two script form.1.1.1.1.1.0 surfaces tags;
        mounters = mounters_in two script surfaces mounters;
        turns = turns_in two script turns;
      },
      counts_in script many,
    )
