-- The text of a script reads back.
use Rattle.std.proofs.Common.{◌≡◌, ℕ, ◌<◌, ◌≤◌, ◌^◌, List, [], ◌∷◌, map, length, count_by, find, All, Bool, true, false, not, ◌&&◌, ◌||◌, IsTrue, nat_eq, nat_le, nat_lt, bytes_eq, int_le, Option, Some, None, option_map, unwrap_or, codes, pos, lt-ltb, le-leb, Result, Ok, Err, IfOk, if◌then◌else◌, refl, ap, sym, subst, ◌∙◌, arith}
use Rattle.std.specs.List.{list_any, AllByRecursion, prefix_len}
use Rattle.std.specs.Str.{is_utf8}
use Rattle.std.proofs.lemmas.Bool.Decides.{nat_tests}
use Rattle.std.proofs.lemmas.List.{length-map}
use Rattle.std.proofs.lemmas.List.Elements.{All-head, All-tail, All-nil, All-cons}
use Rattle.serde_json.specs.Data.{Data, null}
use Rattle.serde_json.specs.Read.{read}
use Rattle.tree_revision.specs.Script.{PlainStep, PlainActor, PlainSurface, PlainScript}
use Rattle.tree_revision.specs.InRange.{IsSurfaceInRange, IsStepInRange}
use Rattle.tree_revision.specs.Sound.{is_name, names_of, ids_of, mounts_on, HasOneMounter, IsSoundScript, IsWithinCounts}
use Rattle.script_read.specs.Members.{natural_in, items_at, natural_at}
use Rattle.script_read.specs.Places.{Pointer, Refusals, unless, at_member, first_of, in_member, refused, in_items, in_actors, nowhere}
use Rattle.script_read.specs.Words.{is_version_two}
use Rattle.script_read.specs.Shape.{misshapen_surface, misshapen, misshapen_script, is_integer, not_integers}
use Rattle.script_read.specs.Faults as fault
use Rattle.script_read.specs.Value.{actor_of, surface_of, script_of}
use Rattle.script_read.specs.Reads.{fault_of, with_place, first_fault, json_in, fault_at, script_unless, script_in}
use Rattle.script_read.specs.Writing.{natural, actor_json, surface_json, json_of}
use Rattle.script_read.specs.Writable.{IsActWritable, IsWritable}
use Rattle.script_read.specs.Fits.{IsActFit}
use Rattle.script_read.specs.declared.script.ScriptFault.TheVariants.{Shape, Version, TooMany, BadName, BadSurface, BadKind, BadProp, BadTag, TwoMounters, BadTurn}
use Rattle.script_read.proofs.NodeBack.{natural_in-back, integer_passes}
use Rattle.script_read.proofs.StepBack.{step_passes, step_formed, step_placed, step_propped, step_tagged, act_nodes_formed, act_nodes_kinded, act_nodes_tagged, act_nodes_propped, act_nodes_unrefused}
use Rattle.script_read.proofs.ScriptBack.{item_list-back, none_after, distinct_after, map_back, surface_formed, surface_back, id_back, surface_placed, surface_small, surfaces_found, IsGoodStep, IsGoodActor, actor_formed, actors_pass, actor_back, actors_mount, name_placed, steps_under}

-- the version of a script
abbrev two_of : PlainScript → Bool
two_of script = nat_eq script.version 2

-- what holds of a script that is written
record IsGoodScript (script : PlainScript) : Type 0 where
  version : IsTrue (nat_eq script.version 1 || nat_eq script.version 2)
  small : script.version < 2 ^ 32
  sound : IsSoundScript script
  counts : IsWithinCounts script
  actors : All (IsGoodActor (two_of script) (ids_of script.surfaces)) script.actors

small_by : (n : ℕ) (a b : Bool) → nat_eq n 1 ≡ a → nat_eq n 2 ≡ b → (a || b) ≡ true → n < 2 ^ 32
small_by n true b e f h = let one : n ≡ 1 = grind (arith, nat_tests, e) in omega (arith, one)
small_by n false true e f h = let two : n ≡ 2 = grind (arith, nat_tests, f) in omega (arith, two)
small_by n false false e f h = cc

small_version : (n : ℕ) → IsTrue (nat_eq n 1 || nat_eq n 2) → n < 2 ^ 32
small_version n h = small_by n (nat_eq n 1) (nat_eq n 2) refl refl h

all_mapped : {A B : Type 0} (P : B → Type 0) (f : A → B) (xs : List A) → All P (map f xs) → All (λ x. P (f x)) xs
all_mapped P f [] a = All-nil (λ x. P (f x))
all_mapped P f (x ∷ xs) a = All-cons (λ x. P (f x)) x xs (All-head P (f x) (map f xs) a) (all_mapped P f xs (All-tail P (f x) (map f xs) a))

good_steps : (two : Bool) (surfaces : List PlainSurface) (steps : List PlainStep) → All IsSurfaceInRange surfaces → All (IsStepInRange (ids_of surfaces)) steps
    → All (λ step. IsActWritable two step.act) steps → All (λ step. IsActFit step.act) steps → All (IsGoodStep two (ids_of surfaces)) steps
good_steps two surfaces steps a r w f =
    λ k d h. record { range = r k d h; small = surface_small surfaces _ a (r k d h).surface; writable = w k d h; fit = f k d h }

good_script : (script : PlainScript) → IsWritable script → All (λ actor. All (λ step. IsActFit step.act) actor.steps) script.actors → IsGoodScript script
good_script script w f =
    let names = all_mapped (λ name. IsTrue (is_name name)) (λ actor. actor.name) script.actors w.sound.names in
    record {
      version = w.version;
      small = small_version script.version w.version;
      sound = w.sound;
      counts = w.counts;
      actors = λ k d h. record { name = names k d h; steps = good_steps (two_of script) script.surfaces _ w.sound.surfaces (w.sound.steps k d h) (w.steps k d h) (f k d h) };
    }

version_back : (script : PlainScript) → IsGoodScript script → is_version_two (json_of script) ≡ two_of script
version_back script g = rw (natural_in-back script.version g.small) refl

known_version : (script : PlainScript) → IsGoodScript script → fault.is_known_version (json_of script) ≡ true
known_version script g = rw (natural_in-back script.version g.small) g.version

step_fits : (two : Bool) (ids : List ℕ) (step : PlainStep) → IsGoodStep two ids step → step.surface < 2 ^ 63
step_fits two ids step s = omega (arith, s.small)

turn_fits : (turn count : ℕ) → turn < count → count ≤ 16 → turn < 2 ^ 63
turn_fits turn count t c = omega arith

turn_small : (turn count : ℕ) → turn < count → count ≤ 16 → turn < 2 ^ 32
turn_small turn count t c = omega arith

-- ---- none of some

two_none : {A : Type 0} {a b : Option A} → a ≡ None → b ≡ None → first_of (a ∷ b ∷ []) ≡ None
two_none p q = rw (p, q) refl

four : {A : Type 0} {a b c d : Option A} → a ≡ None → b ≡ None → c ≡ None → d ≡ None → first_of (a ∷ b ∷ c ∷ d ∷ []) ≡ None
four p q r s = rw (p, q, r, s) refl

eight : {A : Type 0} {a b c d e f g h : Option A} → a ≡ None → b ≡ None → c ≡ None → d ≡ None → e ≡ None → f ≡ None → g ≡ None → h ≡ None
    → first_of (a ∷ b ∷ c ∷ d ∷ e ∷ f ∷ g ∷ h ∷ []) ≡ None
eight p q r s t u v w = rw (p, q, r, s, t, u, v, w) refl

no_fault_by : {form count name surface kind prop tag : Option Pointer} {known : Bool} {mounter turn : Option ℕ} → form ≡ None → known ≡ true → count ≡ None → name ≡ None
    → surface ≡ None → kind ≡ None → prop ≡ None → tag ≡ None → mounter ≡ None → turn ≡ None
    → first_of (
    with_place Shape form ∷ (if known then None else Some Version) ∷ with_place TooMany count ∷ with_place BadName name ∷ with_place BadSurface surface ∷ with_place BadKind kind ∷
    with_place BadProp prop ∷ with_place BadTag tag ∷ option_map TwoMounters mounter ∷ option_map BadTurn turn ∷ [])
    ≡ None
no_fault_by a b c d e f g h i j = rw (a, b, c, d, e, f, g, h, i, j) refl

same_script : {version other : ℕ} {surfaces plans : List PlainSurface} {actors others : List PlainActor} {turns later : List ℕ} → version ≡ other → surfaces ≡ plans
    → actors ≡ others → turns ≡ later
    → ◌≡◌ {A = PlainScript} (record { version = version; surfaces = surfaces; actors = actors; turns = turns }) (record { version = other; surfaces = plans; actors = others; turns = later })
same_script v s a t = rw (v, s, a, t) refl

-- ---- form

form_of : (script : PlainScript) → IsGoodScript script → misshapen_script (json_of script) ≡ None
form_of script g =
    let two = two_of script in
    let ids = ids_of script.surfaces in
    let version : script.version < 2 ^ 63 = omega (arith, g.small) in
    let actors : in_actors (misshapen two) (json_of script) ≡ None =
    actors_pass two ids (misshapen two) script g.actors (λ actor a. actor_formed actor a.name)
    (λ step s. step_passes (misshapen two) step (step_formed two step (step_fits two ids step s) s.range.act s.writable s.fit) (act_nodes_formed step.act s.range.act)) in
    let all_actors : in_actors (misshapen (is_version_two (json_of script))) (json_of script) ≡ None
    = subst (λ b. in_actors (misshapen b) (json_of script) ≡ None) (sym (version_back script g)) actors in
    let surfaces : in_items (codes "surfaces") (λ before surface. misshapen_surface surface) (json_of script) ≡ None
    = rw (item_list-back (map surface_json script.surfaces), none_after (λ before surface. misshapen_surface surface) surface_json IsSurfaceInRange (λ before surface. surface_formed surface) script.surfaces [] g.sound.surfaces) refl in
    let turns : in_member (codes "turns") not_integers (json_of script) ≡ None
    = rw (item_list-back (map natural script.turns), none_after (λ before item. unless (is_integer item)) natural (λ turn. turn < length script.actors) (λ before turn t. rw (integer_passes turn (turn_fits turn (length script.actors) t g.counts.actors)) refl) script.turns [] g.sound.turns) refl in
    let number : refused (codes "version") is_integer (json_of script) ≡ None = rw (lt-ltb script.version (2 ^ 63) version) refl in
    eight refl number refl surfaces refl all_actors refl turns

-- ---- counts

counted : (script : PlainScript) → IsGoodScript script → fault.too_many (json_of script) ≡ None
counted script g =
    let surfaces : at_member (codes "surfaces") (unless (nat_le (fault.item_count (codes "surfaces") (json_of script)) 8)) ≡ None
    = rw (item_list-back (map surface_json script.surfaces), length-map script.surfaces surface_json, le-leb (length script.surfaces) 8 g.counts.surfaces) refl in
    let actors : at_member (codes "actors") (unless (nat_le (fault.item_count (codes "actors") (json_of script)) 16)) ≡ None
    = rw (item_list-back (map actor_json script.actors), length-map script.actors actor_json, le-leb (length script.actors) 16 g.counts.actors) refl in
    let steps : in_items (codes "actors") fault.over_steps (json_of script) ≡ None
    = rw (item_list-back (map actor_json script.actors), steps_under script.actors [] g.counts.steps) refl in
    let turns : at_member (codes "turns") (unless (nat_le (fault.item_count (codes "turns") (json_of script)) 65536)) ≡ None
    = rw (item_list-back (map natural script.turns), length-map script.turns natural, le-leb (length script.turns) 65536 g.counts.turns) refl in
    four surfaces actors steps turns

-- ---- names

none_earlier : {A K : Type 0} (eq : K → K → Bool) (key : A → K) (keys : List K) → AllByRecursion (λ k. list_any (λ e. eq (key e) k) [] ≡ false) keys
none_earlier eq key [] = tt
none_earlier eq key (k ∷ keys) = (refl, none_earlier eq key keys)

named : (script : PlainScript) → IsGoodScript script → fault.bad_name (json_of script) ≡ None
named script g =
    let P = IsGoodActor (two_of script) (ids_of script.surfaces) in
    rw (
      item_list-back (map actor_json script.actors),
      distinct_after bytes_eq (λ actor. actor.name) fault.bad_name_in actor_json P (λ earlier actor e a n. name_placed (two_of script) (ids_of script.surfaces) earlier actor e a n)
          script.actors [] (All-nil P) (none_earlier bytes_eq (λ (actor : PlainActor). actor.name) (names_of script.actors)) g.sound.names_differ g.actors,
    ) refl

-- ---- surfaces

on_surfaces : (script : PlainScript) → IsGoodScript script → fault.bad_surface (json_of script) ≡ None
on_surfaces script g =
    let two = two_of script in
    let ids = ids_of script.surfaces in
    let plans : in_items (codes "surfaces") fault.bad_plan (json_of script) ≡ None
    = rw (
      item_list-back (map surface_json script.surfaces),
      distinct_after nat_eq (λ surface. surface.id) fault.bad_plan surface_json IsSurfaceInRange surface_placed script.surfaces [] (All-nil IsSurfaceInRange)
          (none_earlier nat_eq (λ (surface : PlainSurface). surface.id) ids) g.sound.ids_differ g.sound.surfaces,
    ) refl in
    let refusals : Refusals = record { of_actor = nowhere; of_step = fault.bad_step (json_of script); of_node = nowhere } in
    let steps : in_actors refusals (json_of script) ≡ None =
    actors_pass two ids refusals script g.actors (λ actor a. refl)
    (λ step s.
    step_passes refusals step
    (step_placed (json_of script) step (step_fits two ids step s)
    (ap (λ values. fault.is_surface values (pos step.surface)) (item_list-back (map surface_json script.surfaces)) ∙ surfaces_found script.surfaces step.surface g.sound.surfaces ∙ s.range.surface) s.range.act)
    (act_nodes_unrefused step.act)) in
    two_none plans steps

-- ---- kinds, props and tags

kinds_known : (script : PlainScript) → IsGoodScript script → fault.bad_kind (json_of script) ≡ None
kinds_known script g =
    let refusals : Refusals = record { of_actor = nowhere; of_step = nowhere; of_node = fault.no_kind } in
    actors_pass (two_of script) (ids_of script.surfaces) refusals script g.actors (λ actor a. refl) (λ step s. step_passes refusals step refl (act_nodes_kinded step.act))

props_taken : (script : PlainScript) → IsGoodScript script → fault.bad_prop (json_of script) ≡ None
props_taken script g =
    let two = two_of script in
    let refusals : Bool → Refusals = λ b. record { of_actor = nowhere; of_step = fault.bad_props_in b; of_node = fault.bad_props_in b } in
    subst (λ b. in_actors (refusals b) (json_of script) ≡ None) (sym (version_back script g))
    (actors_pass two (ids_of script.surfaces) (refusals two) script g.actors (λ actor a. refl)
    (λ step s. step_passes (refusals two) step (step_propped two step s.range.act s.writable s.fit) (act_nodes_propped two step.act s.range.act s.writable s.fit)))

tags_in_range : (script : PlainScript) → IsGoodScript script → fault.bad_tag (json_of script) ≡ None
tags_in_range script g =
    let refusals : Refusals = record { of_actor = nowhere; of_step = fault.bad_tag_in; of_node = fault.bad_tag_in } in
    actors_pass (two_of script) (ids_of script.surfaces) refusals script g.actors (λ actor a. refl)
    (λ step s. step_passes refusals step (step_tagged step s.range.act) (act_nodes_tagged step.act s.range.act))

-- ---- mounters and turns

find_none : {A : Type 0} (test : Data → Bool) (json : A → Data) (P : A → Type 0) → ((x : A) → P x → test (json x) ≡ false) → (xs : List A) → All P xs → find test (map json xs) ≡ None
find_none test json P h [] a = refl
find_none test json P h (x ∷ xs) a = rw (h x (All-head P x xs a)) (find_none test json P h xs (All-tail P x xs a))

not_more : (n : ℕ) → n ≤ 1 → nat_lt 1 n ≡ false
not_more n h = grind (arith, nat_tests)

one_mounter : (script : PlainScript) → IsGoodScript script → fault.two_mounters (json_of script) ≡ None
one_mounter script g =
    let d = json_of script in
    let P : PlainSurface → Type 0 = λ surface. IsSurfaceInRange surface × HasOneMounter script.actors surface.id in
    let one = all_mapped (HasOneMounter script.actors) (λ surface. surface.id) script.surfaces g.sound.mounters in
    let each : (surface : PlainSurface) → P surface → fault.is_shared d (surface_json surface) ≡ false =
    λ surface p.
    rw (
      item_list-back (map actor_json script.actors),
      actors_mount (two_of script) (ids_of script.surfaces) (surface_json surface) surface.id script.actors (id_back surface p.0) g.actors,
    )
    (not_more (count_by (mounts_on surface.id) script.actors) p.1) in
    rw (
      item_list-back (map surface_json script.surfaces),
      find_none (fault.is_shared d) surface_json P each script.surfaces (λ k e h. (g.sound.surfaces k e h, one k e h)),
    ) refl

all_before : {A : Type 0} (test : Data → Bool) (json : A → Data) (P : A → Type 0) → ((x : A) → P x → test (json x) ≡ false) → (xs : List A) → All P xs
    → prefix_len (λ x. not (test x)) (map json xs) ≡ length (map json xs)
all_before test json P h [] a = refl
all_before test json P h (x ∷ xs) a = rw (h x (All-head P x xs a), all_before test json P h xs (All-tail P x xs a)) (omega arith)

not_below : (n : ℕ) → nat_lt n n ≡ false
not_below n = grind (arith, nat_tests)

below_count : (t n : ℕ) → t < n → (int_le (pos 0) (pos t) && nat_lt t n) ≡ true
below_count t n h = grind (arith, nat_tests, h)

turns_taken : (script : PlainScript) → IsGoodScript script → fault.bad_turn (json_of script) ≡ None
turns_taken script g =
    let d = json_of script in
    let P : ℕ → Type 0 = λ turn. turn < length script.actors in
    let actors : fault.item_count (codes "actors") d ≡ length script.actors = rw (item_list-back (map actor_json script.actors)) (length-map script.actors actor_json) in
    let each : (turn : ℕ) → P turn → not (fault.is_turn d (natural turn)) ≡ false =
    λ turn t.
    let yes : fault.is_turn d (natural turn) ≡ true =
    rw (lt-ltb turn (2 ^ 63) (turn_fits turn (length script.actors) t g.counts.actors), actors) (below_count turn (length script.actors) t) in
    ap not yes in
    rw (item_list-back (map natural script.turns), all_before (λ turn. not (fault.is_turn d turn)) natural P each script.turns g.sound.turns, not_below (length (map natural script.turns))) refl

-- ---- all together

no_fault : (script : PlainScript) → IsGoodScript script → fault_of (json_of script) ≡ None
no_fault script g =
    no_fault_by (form_of script g) (known_version script g) (counted script g) (named script g) (on_surfaces script g) (kinds_known script g)
    (props_taken script g) (tags_in_range script g) (one_mounter script g) (turns_taken script g)

script_back : (script : PlainScript) → IsGoodScript script → script_of (json_of script) ≡ script
script_back script g =
    let two = two_of script in
    let ids = ids_of script.surfaces in
    let version : natural_at (codes "version") (json_of script) ≡ script.version = natural_in-back script.version g.small in
    let surfaces : map surface_of (items_at (codes "surfaces") (json_of script)) ≡ script.surfaces
    = ap (map surface_of) (item_list-back (map surface_json script.surfaces)) ∙ map_back surface_of surface_json IsSurfaceInRange surface_back script.surfaces g.sound.surfaces in
    let actors : map (actor_of (is_version_two (json_of script))) (items_at (codes "actors") (json_of script)) ≡ script.actors
    = ap (λ b. map (actor_of b) (items_at (codes "actors") (json_of script))) (version_back script g)
    ∙ ap (map (actor_of two)) (item_list-back (map actor_json script.actors))
    ∙ map_back (actor_of two) actor_json (IsGoodActor two ids) (actor_back two ids) script.actors g.actors in
    let turns : map natural_in (items_at (codes "turns") (json_of script)) ≡ script.turns
    = ap (map natural_in) (item_list-back (map natural script.turns))
    ∙ map_back natural_in natural (λ turn. turn < length script.actors) (λ turn t. natural_in-back turn (turn_small turn (length script.actors) t g.counts.actors)) script.turns g.sound.turns in
    same_script version surfaces actors turns

-- a text that reads as what a script is written as is that script
pub reads_back : (script : PlainScript) (text : List ℕ) → IsWritable script → All (λ actor. All (λ step. IsActFit step.act) actor.steps) script.actors
    → is_utf8 text ≡ true → length text ≤ 4194304 → read text ≡ Some (json_of script) → script_in text ≡ Ok script
reads_back script text w f u l r =
    let g = good_script script w f in
    let found : json_in text ≡ Some (json_of script) = rw (u, r) refl in
    let short : nat_lt 4194304 (length text) ≡ false = grind (arith, nat_tests) in
    let fine : first_fault text ≡ None = rw short (ap fault_at found ∙ no_fault script g) in
    ap (λ first. script_unless first (script_of (unwrap_or (json_in text) null))) fine
    ∙ ap Ok (ap (λ value. script_of (unwrap_or value null)) found ∙ script_back script g)

-- what follows from two facts of an answer
pub both_ok : {T E : Type 0} (r : Result T E) (P Q R : T → Type 0) → IfOk r P → IfOk r Q → ((x : T) → P x → Q x → R x) → IfOk r R
both_ok (Ok x) P Q R p q f = f x p q
both_ok (Err e) P Q R p q f = tt
