-- The scripts that are made can be written.
use Rattle.std.proofs.Common.{◌≡◌, ℕ, zero, suc, ◌+◌, ◌*◌, ◌%◌, ◌<◌, ◌≤◌, ◌^◌, List, [], ◌∷◌, length, replicate, slice_set, drop, fold, All, Bool, true, false, ◌&&◌, IsTrue, if◌then◌else◌, nat_eq, bytes_eq, Some, None, codes, ℤ, pos, refl, ◌∙◌, arith}
use Rattle.std.specs.List.{list_any, IsDistinct, range_with_len}
use Rattle.std.proofs.lemmas.Int.{ints}
use Rattle.std.proofs.lemmas.List.FromFn.{length-range_with_len, get_or-range_with_len}
use Rattle.std.proofs.lemmas.List.{length-map, length_push}
use Rattle.std.proofs.lemmas.List.Elements.{All-nil, All-cons, All-head, All-tail, All-push, All-map}
use Rattle.prop_table.specs.Props.{PropList}
use Rattle.prop_table.specs.Edits.{AreEditsInRows}
use Rattle.prop_table.specs.Rules.{rule_at}
use Rattle.prop_table.specs.Table.{v2_rules, AreNodeProps, IsInRow, start_of}
use Rattle.prop_table.specs.declared.rows.TheConstants.{LEFT, TOP, RIGHT, BOTTOM, WIDTH, HEIGHT, BACKGROUND}
use Rattle.prop_table.proofs.InRows.{AreInRows-set}
use Rattle.prop_table.proofs.NodeRows.{AreNodeProps-start}
use Rattle.shadow_kinds.specs.declared.Kind.{Kind}
use Rattle.shadow_kinds.specs.declared.Kind.TheVariants.{View, Text, Image, Scroll}
use Rattle.shadow_node.specs.Fields.{NodeFields}
use Rattle.tree_build.specs.Script.{ScriptForest, no_more, written, kept, chained}
use Rattle.tree_revision.specs.Records.{complete}
use Rattle.tree_revision.specs.Script.{PlainStep, PlainActor, PlainSurface}
use Rattle.shadow_node.specs.InRange.{IsTagInRange, AreFieldsInRange}
use Rattle.tree_build.specs.InRange.{AreNodesInRange}
use Rattle.tree_revision.specs.InRange.{IsSurfaceInRange, IsStepInRange}
use Rattle.tree_revision.specs.Sound.{is_name, is_mount, mounts_on, HasOneMounter}
use Rattle.script_read.specs.Making.{next_number, Drawn, drawn_below, drawn_list, for_each_below, starts_but, plain_fields, image_and_text, view_before, first_tree, turned_tree, commit_on, colored, turned, resized, later_step, scroll_step, mount_step, tree_steps, scroll_steps, made_surfaces, made_script}
use Rattle.script_read.specs.Writable.{AreFieldsWritable, AreNodesWritable, IsActWritable, IsWritable}

-- ---- what holds of all that is made

drawn_all : {A : Type 0} (P : A → Type 0) (make : ℕ → Drawn A) → ((x : ℕ) → P (make x).made) → (count x : ℕ) → All P (drawn_list make count x).made
unfolding drawn_list
drawn_all P make h zero x = All-nil P
drawn_all P make h (suc count) x =
    All-push P (drawn_list make count x).made (make (drawn_list make count x).number).made (drawn_all P make h count x) (h (drawn_list make count x).number)

drawn_length : {A : Type 0} (make : ℕ → Drawn A) (count x : ℕ) → length (drawn_list make count x).made ≡ count
unfolding drawn_list
drawn_length make zero x = refl
drawn_length make (suc count) x =
    length_push (drawn_list make count x).made (make (drawn_list make count x).number).made ∙ omega (arith, drawn_length make count x)

numbers_below : (count : ℕ) → All (λ i. i < count) (range_with_len 0 count)
numbers_below count k d h =
    let within : k < count = omega (arith, h, length-range_with_len 0 count) in
    rw (get_or-range_with_len 0 count k d within) (omega (arith, within))

for_each_all : {A : Type 0} (P : A → Type 0) (count : ℕ) (make : ℕ → A) → ((i : ℕ) → i < count → P (make i)) → All P (for_each_below count make)
unfolding for_each_below
for_each_all P count make h = All-map P make (range_with_len 0 count) (λ k d e. h _ (numbers_below count k d e))

for_each_length : {A : Type 0} (count : ℕ) (make : ℕ → A) → length (for_each_below count make) ≡ count
unfolding for_each_below
for_each_length count make = length-map (range_with_len 0 count) make ∙ length-range_with_len 0 count

-- what each node in front keeps holds of a whole tree
chained_all : (P : ScriptForest → Type 0) → P no_more → (fronts : List (ScriptForest → ScriptForest)) → All (λ front. (rest : ScriptForest) → P rest → P (front rest)) fronts
    → P (chained fronts)
chained_all P none [] a = none
chained_all P none (front ∷ fronts) a =
    let F : (ScriptForest → ScriptForest) → Type 0 = λ front. (rest : ScriptForest) → P rest → P (front rest) in
    All-head F front fronts a (chained fronts) (chained_all P none fronts (All-tail F front fronts a))

-- ---- nodes

-- a node of a script that is made is in range, and version 1 has it
record IsMadeNode (fields : NodeFields) : Type 0 where
  range : AreFieldsInRange fields
  writable : AreFieldsWritable false fields

-- the numbers are in their rows
abbrev AreTaken : List (ℕ × ℤ) → Type 0
AreTaken [] = Unit {0}
AreTaken (row ∷ rows) = IsInRow (rule_at v2_rules row.0) (Some row.1) × AreTaken rows

rows_taken : (rows : List (ℕ × ℤ)) (values : PropList) → AreNodeProps values → AreTaken rows
    → AreNodeProps (fold (λ values row. slice_set values row.0 (Some row.1)) values rows)
rows_taken [] values a t = a
rows_taken (row ∷ rows) values a t =
    rows_taken rows (slice_set values row.0 (Some row.1)) (AreInRows-set v2_rules values row.0 (Some row.1) a t.0) t.1

starts_taken : (rows : List (ℕ × ℤ)) → AreTaken rows → AreNodeProps (starts_but rows)
starts_taken rows t = rows_taken rows (start_of v2_rules) AreNodeProps-start t

node_made : (tag : ℕ) (kind : Kind) (rows : List (ℕ × ℤ)) → 1 ≤ tag → tag < 2 ^ 31 → AreNodeProps (starts_but rows)
    → drop 16 (starts_but rows) ≡ start_of (drop 16 v2_rules) → IsMadeNode (plain_fields tag kind rows)
node_made tag kind rows l h p d = record {
  range = record { tag = record { low = l; high = h }; props = p; label = omega arith };
  writable = record { rows = λ e. d };
}

abbrev image_rows : List (ℕ × ℤ)
image_rows = (LEFT, pos 4) ∷ (TOP, pos 4) ∷ (WIDTH, pos 32) ∷ (HEIGHT, pos 32) ∷ []

abbrev text_rows : List (ℕ × ℤ)
text_rows = (LEFT, pos 40) ∷ (TOP, pos 10) ∷ (RIGHT, pos 4) ∷ (HEIGHT, pos 20) ∷ []

abbrev list_rows : List (ℕ × ℤ)
list_rows = (LEFT, pos 0) ∷ (TOP, pos 0) ∷ (RIGHT, pos 0) ∷ (BOTTOM, pos 0) ∷ []

abbrev view_rows : ℕ → List (ℕ × ℤ)
view_rows i = (LEFT, pos 0) ∷ (TOP, pos (40 * i)) ∷ (RIGHT, pos 0) ∷ (HEIGHT, pos 40) ∷ []

image_props : AreNodeProps (starts_but image_rows)
image_props =
    starts_taken image_rows
    ((omega (arith, ints), omega (arith, ints)), ((omega (arith, ints), omega (arith, ints)), ((omega (arith, ints), omega (arith, ints)), ((omega (arith, ints), omega (arith, ints)), tt))))

text_props : AreNodeProps (starts_but text_rows)
text_props =
    starts_taken text_rows
    ((omega (arith, ints), omega (arith, ints)), ((omega (arith, ints), omega (arith, ints)), ((omega (arith, ints), omega (arith, ints)), ((omega (arith, ints), omega (arith, ints)), tt))))

list_props : AreNodeProps (starts_but list_rows)
list_props =
    starts_taken list_rows
    ((omega (arith, ints), omega (arith, ints)), ((omega (arith, ints), omega (arith, ints)), ((omega (arith, ints), omega (arith, ints)), ((omega (arith, ints), omega (arith, ints)), tt))))

view_props : (i : ℕ) → i < 200 → AreNodeProps (starts_but (view_rows i))
view_props i h =
    starts_taken (view_rows i)
    ((omega (arith, ints, h), omega (arith, ints, h)), ((omega (arith, ints, h), omega (arith, ints, h)), ((omega (arith, ints, h), omega (arith, ints, h)), ((omega (arith, ints, h), omega (arith, ints, h)), tt))))

-- the nodes of a tree are in range, and version 1 has them
record IsMadeTree (nodes : ScriptForest) : Type 0 where
  range : AreNodesInRange nodes
  writable : AreNodesWritable false nodes

none_made : IsMadeTree no_more
none_made = record { range = tt; writable = tt }

written_made : (fields : NodeFields) (children siblings : ScriptForest) → IsMadeNode fields → IsMadeTree children → IsMadeTree siblings → IsMadeTree (written fields children siblings)
written_made fields children siblings f c s = record { range = (f.range, c.range, s.range); writable = (f.writable, c.writable, s.writable) }

kept_made : (tag : ℕ) (siblings : ScriptForest) → IsTagInRange tag → IsMadeTree siblings → IsMadeTree (kept tag None siblings)
kept_made tag siblings t s = record { range = (t, tt, s.range); writable = (tt, s.writable) }

view_made : (i : ℕ) → i < 200 → (siblings : ScriptForest) → IsMadeTree siblings → IsMadeTree (view_before i siblings)
view_made i h siblings s =
    written_made (plain_fields (100 + i) View (view_rows i)) (image_and_text i) siblings
    (node_made (100 + i) View (view_rows i) (omega arith) (omega (arith, h)) (view_props i h) refl)
    (written_made (plain_fields (1000 + i) Image image_rows) no_more (written (plain_fields (2000 + i) Text text_rows) no_more no_more) (node_made (1000 + i) Image image_rows (omega arith) (omega (arith, h)) image_props refl) none_made
    (written_made (plain_fields (2000 + i) Text text_rows) no_more no_more (node_made (2000 + i) Text text_rows (omega arith) (omega (arith, h)) text_props refl) none_made none_made))
    s

first_tree_made : IsMadeTree first_tree
first_tree_made =
    written_made (plain_fields 2 Scroll list_rows) (chained (for_each_below 200 view_before)) no_more (node_made 2 Scroll list_rows (omega arith) (omega arith) list_props refl)
    (chained_all IsMadeTree none_made (for_each_below 200 view_before)
    (for_each_all (λ front. (rest : ScriptForest) → IsMadeTree rest → IsMadeTree (front rest)) 200 view_before (λ i h rest t. view_made i h rest t)))
    none_made

turned_tree_made : (k : ℕ) → IsMadeTree (turned_tree k)
turned_tree_made k =
    let front : ℕ → ScriptForest → ScriptForest = λ i. kept (100 + (k + i) % 200) None in
    let views : IsMadeTree (chained (for_each_below 200 front)) =
    chained_all IsMadeTree none_made (for_each_below 200 front)
    (for_each_all (λ front. (rest : ScriptForest) → IsMadeTree rest → IsMadeTree (front rest)) 200 front
    (λ i h rest t. kept_made (100 + (k + i) % 200) rest (record { low = omega arith; high = omega arith }) t)) in
    record { range = (record { low = omega arith; high = omega arith }, tt, views.range, tt); writable = (tt, views.writable, tt) }

-- ---- steps

abbrev made_ids : List ℕ
made_ids = 1 ∷ 2 ∷ []

-- a step of a script that is made
record IsMadeStep (mounts : Bool) (step : PlainStep) : Type 0 where
  range : IsStepInRange made_ids step
  writable : IsActWritable false step.act
  is : is_mount step.act ≡ mounts

abbrev IsOn : ℕ → Type 0
IsOn surface = IsTrue (list_any (λ id. nat_eq id surface) made_ids)

background_in_rows : (c : ℕ) → AreEditsInRows v2_rules (slice_set (replicate 22 None) BACKGROUND (Some (Some (pos (c % 16 * 268435456)))))
background_in_rows c =
    (tt, (tt, (tt, (tt, (tt, (tt, ((omega (arith, ints), omega (arith, ints)), (tt, (tt, (tt, (tt, (tt, (tt, (tt, (tt, (tt, (tt, (tt, (tt, (tt, (tt, (tt, tt))))))))))))))))))))))

colored_made : (surface x : ℕ) → IsOn surface → IsMadeStep false (colored surface x).made
colored_made surface x o = record {
  range = record { surface = o; act = (record { low = omega arith; high = omega arith }, record { rows = background_in_rows (next_number (next_number x)); label = tt }) };
  writable = record { rows = λ e. refl };
  is = refl;
}

turned_made : (surface x : ℕ) → IsOn surface → IsMadeStep false (turned surface x).made
turned_made surface x o =
    let t = turned_tree_made (next_number x % 200) in record { range = record { surface = o; act = t.range }; writable = t.writable; is = refl }

resized_made : (surface x : ℕ) → IsOn surface → IsMadeStep false (resized surface x).made
resized_made surface x o = record {
  range = record { surface = o; act = record { width_low = omega (arith, ints); width_high = omega (arith, ints); height_low = omega (arith, ints); height_high = omega (arith, ints) } };
  writable = tt;
  is = refl;
}

chosen : (P : PlainStep → Type 0) (b : Bool) (x y : Drawn PlainStep) → P x.made → P y.made → P (if b then x else y).made
chosen P true x y p q = p
chosen P false x y p q = q

later_made : (surface x : ℕ) → IsOn surface → IsMadeStep false (later_step surface x).made
later_made surface x o =
    chosen (IsMadeStep false) (nat_eq (next_number x % 3) 0) _ _ (colored_made surface (next_number x) o)
    (chosen (IsMadeStep false) (nat_eq (next_number x % 3) 1) _ _ (turned_made surface (next_number x) o) (resized_made surface (next_number x) o))

scroll_made : (surface x : ℕ) → IsOn surface → IsMadeStep false (scroll_step surface x).made
scroll_made surface x o = record { range = record { surface = o; act = record { low = omega arith; high = omega arith } }; writable = tt; is = refl }

any_two : (m : ℕ) → m < 2 → IsOn (1 + m)
any_two zero h = refl
any_two (suc zero) h = refl
any_two (suc (suc m)) h = absurd (omega (arith, h))

mount_made : (i : ℕ) → IsMadeStep true (mount_step i)
mount_made i = record { range = record { surface = any_two (i % 2) (omega arith); act = tt }; writable = tt; is = refl }

-- ---- actors

tree_steps_made : (surface count x : ℕ) → IsOn surface → All (IsMadeStep false) (tree_steps surface count x).made
tree_steps_made surface count x o =
    All-cons (IsMadeStep false) (commit_on surface (complete first_tree)) (drawn_list (later_step surface) count x).made
    (record { range = record { surface = o; act = first_tree_made.range }; writable = first_tree_made.writable; is = refl })
    (drawn_all (IsMadeStep false) (later_step surface) (λ y. later_made surface y o) count x)

scroll_steps_made : (surface x : ℕ) → IsOn surface → All (IsMadeStep false) (scroll_steps surface x).made
scroll_steps_made surface x o = drawn_all (IsMadeStep false) (scroll_step surface) (λ y. scroll_made surface y o) 100 x

mount_steps_made : All (IsMadeStep true) (for_each_below 100 mount_step)
mount_steps_made = for_each_all (IsMadeStep true) 100 mount_step (λ i h. mount_made i)

-- an actor of a script that is made
record IsMadeActor (actor : PlainActor) : Type 0 where
  name : IsTrue (is_name actor.name)
  count : length actor.steps ≡ 100
  steps : All (IsStepInRange made_ids) actor.steps
  writable : All (λ step. IsActWritable false step.act) actor.steps

actor_made : (mounts : Bool) (actor : PlainActor) → IsTrue (is_name actor.name) → length actor.steps ≡ 100 → All (IsMadeStep mounts) actor.steps → IsMadeActor actor
actor_made mounts actor n c a = record { name = n; count = c; steps = λ k d h. (a k d h).range; writable = λ k d h. (a k d h).writable }

none_mount : (id : ℕ) (steps : List PlainStep) → All (IsMadeStep false) steps → list_any (λ step. is_mount step.act && nat_eq step.surface id) steps ≡ false
none_mount id [] a = refl
none_mount id (step ∷ steps) a =
    rw ((All-head (IsMadeStep false) step steps a).is, none_mount id steps (All-tail (IsMadeStep false) step steps a)) refl

last_by : (m : Bool) (id : ℕ) (a b c d e : PlainActor) → mounts_on id e ≡ m → mounts_on id a ≡ false → mounts_on id b ≡ false → mounts_on id c ≡ false → mounts_on id d ≡ false
    → HasOneMounter (a ∷ b ∷ c ∷ d ∷ e ∷ []) id
last_by true id a b c d e m p q r s = rw (p, q, r, s, m) (omega arith)
last_by false id a b c d e m p q r s = rw (p, q, r, s, m) (omega arith)

surface_one : IsSurfaceInRange (record { id = 1; size = record { width = pos 320; height = pos 480 } })
surface_one = record {
  low = omega arith;
  high = omega arith;
  size = record { width_low = omega (arith, ints); width_high = omega (arith, ints); height_low = omega (arith, ints); height_high = omega (arith, ints) };
}

surface_two : IsSurfaceInRange (record { id = 2; size = record { width = pos 480; height = pos 320 } })
surface_two = record {
  low = omega arith;
  high = omega arith;
  size = record { width_low = omega (arith, ints); width_high = omega (arith, ints); height_low = omega (arith, ints); height_high = omega (arith, ints) };
}

-- only the last of five actors mounts
last_mounts : (id : ℕ) (a b c d e : PlainActor) → All (IsMadeStep false) a.steps → All (IsMadeStep false) b.steps → All (IsMadeStep false) c.steps → All (IsMadeStep false) d.steps
    → HasOneMounter (a ∷ b ∷ c ∷ d ∷ e ∷ []) id
last_mounts id a b c d e p q r s =
    last_by (mounts_on id e) id a b c d e refl (none_mount id a.steps p) (none_mount id b.steps q) (none_mount id c.steps r) (none_mount id d.steps s)

made_names : (names : List (List ℕ)) → names ≡ codes "js1" ∷ codes "js2" ∷ codes "st1" ∷ codes "st2" ∷ codes "ui" ∷ [] → IsDistinct bytes_eq names
unfolding IsDistinct
made_names names e =
    rw e ((refl, (refl, (refl, (refl, tt)))), ((refl, (refl, (refl, tt))), ((refl, (refl, tt)), ((refl, tt), (tt, tt)))))

made_ids_differ : IsDistinct nat_eq made_ids
unfolding IsDistinct
made_ids_differ = ((refl, tt), (tt, tt))

five : {A : Type 0} (P : A → Type 0) (a b c d e : A) → P a → P b → P c → P d → P e → All P (a ∷ b ∷ c ∷ d ∷ e ∷ [])
five P a b c d e p q r s t =
    All-cons P a (b ∷ c ∷ d ∷ e ∷ []) p
    (All-cons P b (c ∷ d ∷ e ∷ []) q (All-cons P c (d ∷ e ∷ []) r (All-cons P d (e ∷ []) s (All-cons P e [] t (All-nil P)))))

abbrev plan_one : PlainSurface
plan_one = record { id = 1; size = record { width = pos 320; height = pos 480 } }

abbrev plan_two : PlainSurface
plan_two = record { id = 2; size = record { width = pos 480; height = pos 320 } }

surfaces_made : All IsSurfaceInRange made_surfaces
surfaces_made =
    All-cons IsSurfaceInRange plan_one (plan_two ∷ []) surface_one (All-cons IsSurfaceInRange plan_two [] surface_two (All-nil IsSurfaceInRange))

-- a script that is made can be written
pub made_writable : (number : ℕ) → IsWritable (made_script number)
made_writable number =
    let js1 = tree_steps 1 99 (number + 1) in
    let js2 = tree_steps 2 99 js1.number in
    let st1 = scroll_steps 1 js2.number in
    let st2 = scroll_steps 2 st1.number in
    let a = tree_steps_made 1 99 (number + 1) refl in
    let b = tree_steps_made 2 99 js1.number refl in
    let c = scroll_steps_made 1 js2.number refl in
    let d = scroll_steps_made 2 st1.number refl in
    let e = mount_steps_made in
    let trees : (surface x : ℕ) → length (tree_steps surface 99 x).made ≡ 100 = λ surface x. omega (arith, drawn_length (later_step surface) 99 x) in
    let one : PlainActor = record { name = codes "js1"; steps = js1.made } in
    let two : PlainActor = record { name = codes "js2"; steps = js2.made } in
    let three : PlainActor = record { name = codes "st1"; steps = st1.made } in
    let four : PlainActor = record { name = codes "st2"; steps = st2.made } in
    let last : PlainActor = record { name = codes "ui"; steps = for_each_below 100 mount_step } in
    let p = actor_made false one refl (trees 1 (number + 1)) a in
    let q = actor_made false two refl (trees 2 js1.number) b in
    let r = actor_made false three refl (drawn_length (scroll_step 1) 100 js2.number) c in
    let s = actor_made false four refl (drawn_length (scroll_step 2) 100 st1.number) d in
    let t = actor_made true last refl (for_each_length 100 mount_step) e in
    record {
      version = refl;
      sound = record {
        names = five (λ name. IsTrue (is_name name)) _ _ _ _ _ p.name q.name r.name s.name t.name;
        names_differ = made_names _ refl;
        surfaces = surfaces_made;
        ids_differ = made_ids_differ;
        steps = five (λ actor. All (IsStepInRange made_ids) actor.steps) one two three four last p.steps q.steps r.steps s.steps t.steps;
        mounters = All-cons (HasOneMounter (one ∷ two ∷ three ∷ four ∷ last ∷ [])) 1 (2 ∷ []) (last_mounts 1 one two three four last a b c d)
            (All-cons (HasOneMounter (one ∷ two ∷ three ∷ four ∷ last ∷ [])) 2 [] (last_mounts 2 one two three four last a b c d)
            (All-nil (HasOneMounter (one ∷ two ∷ three ∷ four ∷ last ∷ []))));
        turns = drawn_all (λ turn. turn < 5) (drawn_below 5) (λ x. omega arith) 2000 st2.number;
      };
      counts = record {
        surfaces = omega arith;
        actors = omega arith;
        steps = omega (arith, p.count, q.count, r.count, s.count, t.count);
        turns = omega (arith, drawn_length (drawn_below 5) 2000 st2.number);
      };
      steps = five (λ actor. All (λ step. IsActWritable false step.act) actor.steps) one two three four last p.writable q.writable r.writable s.writable t.writable;
    }
