-- What was written of a script reads back, and has no fault.
use Rattle.std.proofs.Common.{◌≡◌, ℕ, zero, suc, ◌+◌, ◌<◌, ◌≤◌, ◌^◌, List, [], ◌∷◌, ◌++◌, map, length, count_by, All, Bool, true, false, ◌&&◌, ◌||◌, IsTrue, nat_eq, nat_le, bytes_eq, Option, None, codes, pos, ◌≤ℤ◌, lt-ltb, le-leb, append_assoc, refl, ap, sym, ◌∙◌, arith}
use Rattle.std.specs.List.{list_any, list_all, IsDistinct, AllByRecursion}
use Rattle.std.specs.Ordering.{int_eq}
use Rattle.std.specs.Str.{is_utf8, IsAscii}
use Rattle.std.proofs.lemmas.Int.{ints}
use Rattle.std.proofs.lemmas.Bool.Decides.{nat_tests, Decides-int_eq}
use Rattle.std.proofs.lemmas.List.{map-append, length-map}
use Rattle.std.proofs.lemmas.List.Elements.{All-head, All-tail, All-push}
use Rattle.std.proofs.lemmas.Str.{IsUtf8-from_ascii, is_utf8-from_IsUtf8}
use Rattle.serde_json.specs.Data.{Data}
use Rattle.serde_json.specs.View.{items_of}
use Rattle.tree_revision.specs.Records.{complete, state, props, resize, stop, suspend, resume}
use Rattle.native_state.specs.declared.StateChange.TheVariants.{Set, Add, SetIf}
use Rattle.tree_revision.specs.Script.{PlainAct, commit, hold, mount, PlainStep, PlainActor, PlainSurface, PlainScript}
use Rattle.tree_revision.specs.InRange.{IsSurfaceInRange, IsStepInRange}
use Rattle.tree_revision.specs.Sound.{is_name_byte, is_name, ids_of, is_mount, mounts_on, step_count}
use Rattle.script_read.specs.Members.{item_list, items_at, integer_at}
use Rattle.script_read.specs.Places.{Pointer, Refusals, first_after, in_actor, in_actors, in_step}
use Rattle.script_read.specs.Shape.{misshapen_actor, misshapen_surface}
use Rattle.script_read.specs.Faults as fault
use Rattle.script_read.specs.Value.{step_of, actor_of, surface_of}
use Rattle.script_read.specs.Writing.{step_json, act_json, actor_json, surface_json, json_of}
use Rattle.script_read.specs.Writable.{IsActWritable}
use Rattle.script_read.specs.Fits.{IsActFit}
use Rattle.script_read.proofs.PutRows.{both, fold_from, count_by-first}
use Rattle.script_read.proofs.EditBack.{integer_back, from_range}
use Rattle.script_read.proofs.NodeBack.{natural_in-back}
use Rattle.script_read.proofs.StepBack.{size_fits, step_back}

-- ---- lists of values

pub item_list-back : (values : List Data) → item_list (items_of values) ≡ values
item_list-back [] = refl
item_list-back (value ∷ values) = ap (λ others. value ∷ others) (item_list-back values)

-- where no value is refused, whatever stands before it
pub none_after : {A : Type 0} (refuse : List Data → Data → Option Pointer) (json : A → Data) (P : A → Type 0)
    → ((before : List Data) (x : A) → P x → refuse before (json x) ≡ None) → (xs : List A) (before : List Data) → All P xs → first_after refuse before (map json xs) ≡ None
none_after refuse json P h [] before a = refl
none_after refuse json P h (x ∷ xs) before a =
    rw (h before x (All-head P x xs a), none_after refuse json P h xs (before ++ json x ∷ []) (All-tail P x xs a)) refl

or_parts : (a b : Bool) → (a || b) ≡ false → (a ≡ false) × (b ≡ false)
or_parts false false e = (refl, refl)
or_parts false true e = cc
or_parts true b e = cc

or_false : (a b : Bool) → a ≡ false → b ≡ false → (a || b) ≡ false
or_false a b p q = rw (p, q) refl

any_more : {A : Type 0} (test : A → Bool) (xs : List A) (x : A) → list_any test xs ≡ false → test x ≡ false → list_any test (xs ++ x ∷ []) ≡ false
any_more test [] x n h = rw h refl
any_more test (y ∷ xs) x n h = let p = or_parts (test y) (list_any test xs) n in or_false (test y) (list_any test (xs ++ x ∷ [])) p.0 (any_more test xs x p.1 h)

others_apart : {A K : Type 0} (eq : K → K → Bool) (key : A → K) (earlier : List A) (x : A) (keys : List K)
    → AllByRecursion (λ k. list_any (λ e. eq (key e) k) earlier ≡ false) keys → AllByRecursion (λ k. eq (key x) k ≡ false) keys
    → AllByRecursion (λ k. list_any (λ e. eq (key e) k) (earlier ++ x ∷ []) ≡ false) keys
others_apart eq key earlier x [] n d = tt
others_apart eq key earlier x (k ∷ keys) n d = (any_more (λ e. eq (key e) k) earlier x n.0 d.0, others_apart eq key earlier x keys n.1 d.1)

any_mapped : {A B : Type 0} (test : B → Bool) (f : A → B) (xs : List A) → list_any test (map f xs) ≡ list_any (λ x. test (f x)) xs
any_mapped test f [] = refl
any_mapped test f (x ∷ xs) = ap (λ rest. test (f x) || rest) (any_mapped test f xs)

-- where no value is refused after those with other keys
pub distinct_after : {A K : Type 0} (eq : K → K → Bool) (key : A → K) (refuse : List Data → Data → Option Pointer) (json : A → Data) (P : A → Type 0)
    → ((earlier : List A) (x : A) → All P earlier → P x → list_any (λ e. eq (key e) (key x)) earlier ≡ false → refuse (map json earlier) (json x) ≡ None)
    → (later earlier : List A) → All P earlier → AllByRecursion (λ k. list_any (λ e. eq (key e) k) earlier ≡ false) (map key later)
    → IsDistinct eq (map key later) → All P later → first_after refuse (map json earlier) (map json later) ≡ None
unfolding IsDistinct
distinct_after eq key refuse json P h [] earlier e n d a = refl
distinct_after eq key refuse json P h (x ∷ later) earlier e n d a =
    let here = h earlier x e (All-head P x later a) n.0 in
    let next : first_after refuse (map json (earlier ++ x ∷ [])) (map json later) ≡ None =
    distinct_after eq key refuse json P h later (earlier ++ x ∷ []) (All-push P earlier x e (All-head P x later a)) (others_apart eq key earlier x (map key later) n.1 d.0) d.1 (All-tail P x later a) in
    let rest : first_after refuse (map json earlier ++ json x ∷ []) (map json later) ≡ None =
    ap (λ before. first_after refuse before (map json later)) (sym (map-append json earlier (x ∷ []))) ∙ next in
    rw (here, rest) refl

pub map_back : {A : Type 0} (read : Data → A) (json : A → Data) (P : A → Type 0) → ((x : A) → P x → read (json x) ≡ x) → (xs : List A) → All P xs → map read (map json xs) ≡ xs
map_back read json P h [] a = refl
map_back read json P h (x ∷ xs) a = rw (h x (All-head P x xs a), map_back read json P h xs (All-tail P x xs a)) refl

-- ---- names

name_byte : (b : ℕ) → is_name_byte b ≡ true → b < 128
name_byte b h = grind (arith, nat_tests)

name_bytes : (bs : List ℕ) → list_all is_name_byte bs ≡ true → IsAscii bs
name_bytes [] h i = omega arith
name_bytes (b ∷ bs) h zero = name_byte b (both (is_name_byte b) (list_all is_name_byte bs) h).0
name_bytes (b ∷ bs) h (suc i) = name_bytes bs (both (is_name_byte b) (list_all is_name_byte bs) h).1 i

-- a name is a text
name_text : (name : List ℕ) → IsTrue (is_name name) → is_utf8 name ≡ true
name_text name h =
    let all = (both (nat_le 1 (length name) && nat_le (length name) 32) (list_all is_name_byte name) h).1 in
    is_utf8-from_IsUtf8 name (IsUtf8-from_ascii name (name_bytes name all))

-- ---- surfaces

-- a surface in range, written
pub surface_formed : (surface : PlainSurface) → IsSurfaceInRange surface → misshapen_surface (surface_json surface) ≡ None
surface_formed surface r =
    let id : surface.id < 2 ^ 63 = omega (arith, r.high) in
    rw (
      lt-ltb surface.id (2 ^ 63) id,
      integer_back surface.size.width (size_fits surface.size.width r.size.width_high),
      integer_back surface.size.height (size_fits surface.size.height r.size.height_high),
    ) refl

pub surface_back : (surface : PlainSurface) → IsSurfaceInRange surface → surface_of (surface_json surface) ≡ surface
surface_back surface r =
    let id : surface.id < 2 ^ 32 = omega (arith, r.high) in
    rw (
      natural_in-back surface.id id,
      integer_back surface.size.width (size_fits surface.size.width r.size.width_high),
      integer_back surface.size.height (size_fits surface.size.height r.size.height_high),
    ) refl

same_id_by : (a b : ℕ) (i n : Bool) → int_eq (pos a) (pos b) ≡ i → nat_eq a b ≡ n → i ≡ n
same_id_by a b true true e f = refl
same_id_by a b true false e f =
    let equal : pos a ≡ pos b = (Decides-int_eq (pos a) (pos b)).0 e in let same : a ≡ b = cc in absurd (grind (arith, nat_tests, same, f))
same_id_by a b false true e f =
    let same : a ≡ b = grind (arith, nat_tests, f) in let equal : int_eq (pos a) (pos b) ≡ true = (Decides-int_eq (pos a) (pos b)).1 (ap pos same) in cc
same_id_by a b false false e f = refl

same_id : (a b : ℕ) → int_eq (pos a) (pos b) ≡ nat_eq a b
same_id a b = same_id_by a b (int_eq (pos a) (pos b)) (nat_eq a b) refl refl

pub id_back : (surface : PlainSurface) → IsSurfaceInRange surface → integer_at (codes "id") (surface_json surface) ≡ pos surface.id
id_back surface r = let id : surface.id < 2 ^ 63 = omega (arith, r.high) in rw (lt-ltb surface.id (2 ^ 63) id) refl

-- the surfaces that are written are those that there are
pub surfaces_found : (surfaces : List PlainSurface) (n : ℕ) → All IsSurfaceInRange surfaces
    → fault.is_surface (map surface_json surfaces) (pos n) ≡ list_any (λ id. nat_eq id n) (ids_of surfaces)
surfaces_found [] n a = refl
surfaces_found (surface ∷ surfaces) n a =
    rw (id_back surface (All-head IsSurfaceInRange surface surfaces a), same_id surface.id n, surfaces_found surfaces n (All-tail IsSurfaceInRange surface surfaces a)) refl

pub surface_placed : (earlier : List PlainSurface) (surface : PlainSurface) → All IsSurfaceInRange earlier → IsSurfaceInRange surface
    → list_any (λ e. nat_eq e.id surface.id) earlier ≡ false → fault.bad_plan (map surface_json earlier) (surface_json surface) ≡ None
surface_placed earlier surface e r n =
    let id : surface.id < 2 ^ 63 = omega (arith, r.high) in
    let low : pos 1 ≤ℤ pos surface.id = omega (arith, ints, r.low) in
    let high : pos surface.id ≤ℤ pos 1000000 = omega (arith, ints, r.high) in
    let others : fault.is_surface (map surface_json earlier) (pos surface.id) ≡ false = surfaces_found earlier surface.id e ∙ any_mapped (λ id. nat_eq id surface.id) (λ surface. surface.id) earlier ∙ n in
    rw (
      lt-ltb surface.id (2 ^ 63) id,
      from_range (pos 1) (pos 1000000) (pos surface.id) low high,
      others,
      integer_back surface.size.width (size_fits surface.size.width r.size.width_high),
      integer_back surface.size.height (size_fits surface.size.height r.size.height_high),
      from_range (pos 0) (pos 1000000) surface.size.width r.size.width_low r.size.width_high,
      from_range (pos 0) (pos 1000000) surface.size.height r.size.height_low r.size.height_high,
    ) refl

small_by : (same : Bool) (id n : ℕ) (rest : Bool) → nat_eq id n ≡ same → (same || rest) ≡ true → id ≤ 1000000 → (rest ≡ true → n ≤ 1000000) → n ≤ 1000000
small_by true id n rest e h r k = grind (arith, nat_tests)
small_by false id n rest e h r k = k h

-- a step's surface is one of few numbers
pub surface_small : (surfaces : List PlainSurface) (n : ℕ) → All IsSurfaceInRange surfaces → list_any (λ id. nat_eq id n) (ids_of surfaces) ≡ true → n ≤ 1000000
surface_small [] n a h = cc
surface_small (surface ∷ surfaces) n a h =
    let r = All-head IsSurfaceInRange surface surfaces a in
    small_by (nat_eq surface.id n) surface.id n _ refl h r.high (surface_small surfaces n (All-tail IsSurfaceInRange surface surfaces a))

-- ---- steps

-- what holds of each step of a script that is written
pub record IsGoodStep (two : Bool) (ids : List ℕ) (step : PlainStep) : Type 0 where
  pub range : IsStepInRange ids step
  pub small : step.surface ≤ 1000000
  pub writable : IsActWritable two step.act
  pub fit : IsActFit step.act

-- a step mounts a surface where its word and its surface say so
act_mounts : (surface : Data) (on id : ℕ) (act : PlainAct) → on ≤ 1000000 → integer_at (codes "id") surface ≡ pos id
    → fault.is_mount_on surface (act_json on act) ≡ (is_mount act && nat_eq on id)
act_mounts surface on id (commit (complete nodes)) h e = refl
act_mounts surface on id (commit (state tag (Set point))) h e = refl
act_mounts surface on id (commit (state tag (Add by))) h e = refl
act_mounts surface on id (commit (state tag (SetIf count point))) h e = refl
act_mounts surface on id (commit (props tag change)) h e = refl
act_mounts surface on id (commit (resize size)) h e = refl
act_mounts surface on id (commit stop) h e = refl
act_mounts surface on id (commit suspend) h e = refl
act_mounts surface on id (commit resume) h e = refl
act_mounts surface on id hold h e = refl
act_mounts surface on id mount h e = let small : on < 2 ^ 63 = omega (arith, h) in rw (lt-ltb on (2 ^ 63) small, e, same_id on id) refl

steps_mount : (two : Bool) (ids : List ℕ) (surface : Data) (id : ℕ) (steps : List PlainStep) → integer_at (codes "id") surface ≡ pos id → All (IsGoodStep two ids) steps
    → list_any (fault.is_mount_on surface) (map step_json steps) ≡ list_any (λ step. is_mount step.act && nat_eq step.surface id) steps
steps_mount two ids surface id [] e a = refl
steps_mount two ids surface id (step ∷ steps) e a =
    rw (act_mounts surface step.surface id step.act (All-head (IsGoodStep two ids) step steps a).small e, steps_mount two ids surface id steps e (All-tail (IsGoodStep two ids) step steps a)) refl

-- ---- actors

-- what holds of each actor of a script that is written
pub record IsGoodActor (two : Bool) (ids : List ℕ) (actor : PlainActor) : Type 0 where
  pub name : IsTrue (is_name actor.name)
  pub steps : All (IsGoodStep two ids) actor.steps

pub actor_formed : (actor : PlainActor) → IsTrue (is_name actor.name) → misshapen_actor (actor_json actor) ≡ None
actor_formed actor n = rw (name_text actor.name n) refl

-- an actor whose own members and steps pass
actor_passes : (two : Bool) (ids : List ℕ) (refusals : Refusals) (actor : PlainActor) → IsGoodActor two ids actor → refusals.of_actor (actor_json actor) ≡ None
    → ((step : PlainStep) → IsGoodStep two ids step → in_step refusals (step_json step) ≡ None) → in_actor refusals (actor_json actor) ≡ None
actor_passes two ids refusals actor g a h =
    rw (a, item_list-back (map step_json actor.steps), none_after (λ before step. in_step refusals step) step_json (IsGoodStep two ids) (λ before step. h step) actor.steps [] g.steps) refl

-- all actors
pub actors_pass : (two : Bool) (ids : List ℕ) (refusals : Refusals) (script : PlainScript) → All (IsGoodActor two ids) script.actors
    → ((actor : PlainActor) → IsGoodActor two ids actor → refusals.of_actor (actor_json actor) ≡ None)
    → ((step : PlainStep) → IsGoodStep two ids step → in_step refusals (step_json step) ≡ None) → in_actors refusals (json_of script) ≡ None
actors_pass two ids refusals script g a h =
    rw (
      item_list-back (map actor_json script.actors),
      none_after (λ before actor. in_actor refusals actor) actor_json (IsGoodActor two ids) (λ before actor good. actor_passes two ids refusals actor good (a actor good) h) script.actors [] g,
    ) refl

pub actor_back : (two : Bool) (ids : List ℕ) (actor : PlainActor) → IsGoodActor two ids actor → actor_of two (actor_json actor) ≡ actor
actor_back two ids actor g =
    rw (
      name_text actor.name g.name,
      item_list-back (map step_json actor.steps),
      map_back (step_of two) step_json (IsGoodStep two ids) (λ step s. let small : step.surface < 2 ^ 32 = omega (arith, s.small) in step_back two step small s.range.act s.writable s.fit) actor.steps g.steps,
    ) refl

pub actors_mount : (two : Bool) (ids : List ℕ) (surface : Data) (id : ℕ) (actors : List PlainActor) → integer_at (codes "id") surface ≡ pos id
    → All (IsGoodActor two ids) actors
    → count_by (λ actor. list_any (fault.is_mount_on surface) (items_at (codes "steps") actor)) (map actor_json actors) ≡ count_by (mounts_on id) actors
actors_mount two ids surface id [] e a = refl
actors_mount two ids surface id (actor ∷ actors) e a =
    let g = All-head (IsGoodActor two ids) actor actors a in
    let here : list_any (fault.is_mount_on surface) (items_at (codes "steps") (actor_json actor)) ≡ mounts_on id actor
    = rw (item_list-back (map step_json actor.steps)) (steps_mount two ids surface id actor.steps e g.steps) in
    count_by-first (λ actor. list_any (fault.is_mount_on surface) (items_at (codes "steps") actor)) (actor_json actor) (map actor_json actors)
    ∙ rw (here, actors_mount two ids surface id actors e (All-tail (IsGoodActor two ids) actor actors a)) (sym (count_by-first (mounts_on id) actor actors))

names_found : (two : Bool) (ids : List ℕ) (earlier : List PlainActor) (name : List ℕ) → All (IsGoodActor two ids) earlier
    → fault.is_named (map actor_json earlier) name ≡ list_any (λ e. bytes_eq e.name name) earlier
names_found two ids [] name a = refl
names_found two ids (actor ∷ earlier) name a =
    rw (name_text actor.name (All-head (IsGoodActor two ids) actor earlier a).name, names_found two ids earlier name (All-tail (IsGoodActor two ids) actor earlier a)) refl

pub name_placed : (two : Bool) (ids : List ℕ) (earlier : List PlainActor) (actor : PlainActor) → All (IsGoodActor two ids) earlier → IsGoodActor two ids actor
    → list_any (λ e. bytes_eq e.name actor.name) earlier ≡ false → fault.bad_name_in (map actor_json earlier) (actor_json actor) ≡ None
name_placed two ids earlier actor e g n =
    rw (name_text actor.name g.name, g.name, names_found two ids earlier actor.name e, n) refl

-- ---- counts

steps_counted : (actors : List PlainActor) → fault.steps_in_all (map actor_json actors) ≡ step_count actors
steps_counted [] = refl
steps_counted (actor ∷ actors) =
    let here : fault.item_count (codes "steps") (actor_json actor) ≡ length actor.steps = rw (item_list-back (map step_json actor.steps)) (length-map actor.steps step_json) in
    fold_from (λ n. n) (map (fault.item_count (codes "steps")) (map actor_json actors)) (0 + fault.item_count (codes "steps") (actor_json actor))
    ∙ omega (arith, here, steps_counted actors)

step_count-both : (first second : List PlainActor) → step_count (first ++ second) ≡ step_count first + step_count second
step_count-both [] second = omega arith
step_count-both (actor ∷ first) second = omega (arith, step_count-both first second)

-- no actor's end is over the count of steps
pub steps_under : (later earlier : List PlainActor) → step_count (earlier ++ later) ≤ 2048 → first_after fault.over_steps (map actor_json earlier) (map actor_json later) ≡ None
steps_under [] earlier h = refl
steps_under (actor ∷ later) earlier h =
    let so_far : map actor_json earlier ++ actor_json actor ∷ [] ≡ map actor_json (earlier ++ actor ∷ []) = sym (map-append actor_json earlier (actor ∷ [])) in
    let count : fault.steps_in_all (map actor_json earlier ++ actor_json actor ∷ []) ≡ step_count (earlier ++ actor ∷ []) = ap fault.steps_in_all so_far ∙ steps_counted (earlier ++ actor ∷ []) in
    let under : step_count (earlier ++ actor ∷ []) ≤ 2048 =
    omega (arith, h, step_count-both earlier (actor ∷ []), step_count-both earlier (actor ∷ later)) in
    let all : step_count ((earlier ++ actor ∷ []) ++ later) ≤ 2048 = rw (append_assoc earlier (actor ∷ []) later) h in
    let rest : first_after fault.over_steps (map actor_json earlier ++ actor_json actor ∷ []) (map actor_json later) ≡ None
    = ap (λ before. first_after fault.over_steps before (map actor_json later)) so_far ∙ steps_under later (earlier ++ actor ∷ []) all in
    rw (count, le-leb (step_count (earlier ++ actor ∷ [])) 2048 under, rest) refl
