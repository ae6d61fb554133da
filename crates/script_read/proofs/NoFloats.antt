-- No number that is written of a script is a float.
use Rattle.std.proofs.Common.{◌≡◌, ℕ, List, [], ◌∷◌, ◌++◌, map, Bool, true, false, ◌||◌, Option, Some, None, option_map, codes, if◌then◌else◌, ℤ, pos, negsuc, Ordering, Less, Equal, Greater, nat_cmp, refl}
use Rattle.std.specs.Ordering.{match_ordering}
use Rattle.std.specs.Cmp.Lexicographic.{slice_cmp}
use Rattle.std.specs.Str.{is_utf8}
use Rattle.native_state.specs.declared.StateChange.{StateChange}
use Rattle.native_state.specs.declared.StateChange.TheVariants.{Set, Add, SetIf}
use Rattle.serde_json.specs.Data.{Data, null, string, array, Items, no_items, item, Members, no_members, member, put}
use Rattle.serde_json.specs.Written.{has_float, items_have_float, members_have_float}
use Rattle.prop_table.specs.Edits.{EditList}
use Rattle.prop_table.specs.Table.{RowRule, v2_rules}
use Rattle.shadow_kinds.specs.Words.{word_of}
use Rattle.shadow_node.specs.declared.NodeEdit.{NodeEdit}
use Rattle.tree_build.specs.Script.{ScriptForest, no_more, written, kept, kept_with}
use Rattle.tree_revision.specs.Records.{PlainOp, complete, state, props, resize, stop, suspend, resume}
use Rattle.tree_revision.specs.Script.{PlainAct, commit, hold, mount, PlainActor, PlainSurface, PlainScript}
use Rattle.script_read.specs.Writing.{Member, with_members, object_of, member_if, natural, integer, text_json, row_json, row_members, edit_members, edit_json, changed_rows, some_label, some_object, some_array, node_object, written_json, kept_json, nodes_json, array_of, change_member, step_object, op_json, act_json, step_json, actor_json, surface_json, json_of}

neither : (a b : Bool) → a ≡ false → b ≡ false → (a || b) ≡ false
neither a b p q = rw (p, q) refl

parts : (a b : Bool) → (a || b) ≡ false → (a ≡ false) × (b ≡ false)
parts false false e = (refl, refl)
parts false true e = cc
parts true b e = cc

either : (o : Ordering) (a b c : Members) → members_have_float a ≡ false → members_have_float b ≡ false → members_have_float c ≡ false → members_have_float (match_ordering o a b c) ≡ false
either Less a b c x y z = x
either Equal a b c x y z = y
either Greater a b c x y z = z

put_plain : (name : List ℕ) (value : Data) (all : Members) → has_float value ≡ false → members_have_float all ≡ false → members_have_float (put name value all) ≡ false
put_plain name value no_members v a = rw v refl
put_plain name value (member other old others) v a =
    let p = parts (has_float old) (members_have_float others) a in
    either (slice_cmp nat_cmp name other) _ _ _ (neither (has_float value) (members_have_float (member other old others)) v a)
    (neither (has_float value) (members_have_float others) v p.1) (neither (has_float old) (members_have_float (put name value others)) p.0 (put_plain name value others v p.1))

-- none of some members is a float
abbrev ArePlain : List Member → Type 0
ArePlain [] = Unit {0}
ArePlain (one ∷ members) = (has_float one.1 ≡ false) × ArePlain members

with_plain : (more : List Member) (all : Members) → ArePlain more → members_have_float all ≡ false → members_have_float (with_members more all) ≡ false
with_plain [] all p a = a
with_plain (one ∷ more) all p a = with_plain more (put one.0 one.1 all) p.1 (put_plain one.0 one.1 all p.0 a)

object_plain : (members : List Member) → ArePlain members → has_float (object_of members) ≡ false
object_plain members p = with_plain members no_members p refl

both_plain : (first second : List Member) → ArePlain first → ArePlain second → ArePlain (first ++ second)
both_plain [] second f s = s
both_plain (one ∷ first) second f s = (f.0, both_plain first second f.1 s)

abbrev IsPlain : Option Data → Type 0
IsPlain None = Unit {0}
IsPlain (Some value) = has_float value ≡ false

if_plain : (name : List ℕ) (value : Option Data) → IsPlain value → ArePlain (member_if name value)
if_plain name None p = tt
if_plain name (Some value) p = (p, tt)

integer_plain : (z : ℤ) → has_float (integer z) ≡ false
integer_plain (pos n) = refl
integer_plain (negsuc n) = refl

text_by : (b : Bool) (bytes : List ℕ) → has_float (if b then string bytes else null) ≡ false
text_by true bytes = refl
text_by false bytes = refl

text_plain : (bytes : List ℕ) → has_float (text_json bytes) ≡ false
text_plain bytes = text_by (is_utf8 bytes) bytes

row_plain : (named : Option (Option ℤ)) → IsPlain (option_map row_json named)
row_plain None = tt
row_plain (Some None) = refl
row_plain (Some (Some z)) = integer_plain z

rows_plain : (rules : List RowRule) (edit : EditList) → ArePlain (row_members rules edit)
rows_plain [] edit = tt
rows_plain (rule ∷ rules) [] = tt
rows_plain (rule ∷ rules) (named ∷ edit) = both_plain (member_if rule.name (option_map row_json named)) (row_members rules edit) (if_plain rule.name _ (row_plain named)) (rows_plain rules edit)

label_plain : (label : Option (List ℕ)) → IsPlain (option_map text_json label)
label_plain None = tt
label_plain (Some label) = text_plain label

edit_plain : (rows : EditList) (label : Option (List ℕ)) → ArePlain (edit_members rows label)
edit_plain rows label = both_plain (row_members v2_rules rows) _ (rows_plain v2_rules rows) (if_plain (codes "label") _ (label_plain label))

some_object_plain : (members : List Member) → ArePlain members → IsPlain (some_object members)
some_object_plain [] p = tt
some_object_plain (one ∷ members) p = object_plain (one ∷ members) p

some_array_plain : (items : Items) → items_have_float items ≡ false → IsPlain (some_array items)
some_array_plain no_items p = tt
some_array_plain (item value items) p = p

change_plain : (change : Option NodeEdit) → IsPlain (option_map edit_json change)
change_plain None = tt
change_plain (Some edit) = object_plain (edit_members edit.rows edit.label) (edit_plain edit.rows edit.label)

node_plain : (own : List Member) (given children : Option Data) → ArePlain own → IsPlain given → IsPlain children → has_float (node_object own given children) ≡ false
node_plain own given children o g c =
    object_plain (own ++ member_if (codes "props") given ++ member_if (codes "children") children)
    (both_plain (own ++ member_if (codes "props") given) _ (both_plain own _ o (if_plain (codes "props") given g)) (if_plain (codes "children") children c))

nodes_plain : (nodes : ScriptForest) → items_have_float (nodes_json nodes) ≡ false
nodes_plain no_more = refl
nodes_plain (written fields children siblings) =
    neither (has_float (written_json fields (nodes_json children))) (items_have_float (nodes_json siblings))
    (node_plain ((codes "tag", natural fields.tag) ∷ (codes "kind", string (word_of fields.kind)) ∷ []) (some_object (edit_members (changed_rows v2_rules fields.props) (some_label fields.label))) (some_array (nodes_json children)) (refl, (refl, tt))
    (some_object_plain _ (edit_plain (changed_rows v2_rules fields.props) (some_label fields.label))) (some_array_plain _ (nodes_plain children)))
    (nodes_plain siblings)
nodes_plain (kept tag change siblings) =
    neither (has_float (kept_json tag change None)) (items_have_float (nodes_json siblings)) (node_plain ((codes "keep", natural tag) ∷ []) (option_map edit_json change) None (refl, tt) (change_plain change) tt) (nodes_plain siblings)
nodes_plain (kept_with tag change children siblings) =
    neither (has_float (kept_json tag change (Some (nodes_json children)))) (items_have_float (nodes_json siblings))
    (node_plain ((codes "keep", natural tag) ∷ []) (option_map edit_json change) (Some (array (nodes_json children))) (refl, tt) (change_plain change) (nodes_plain children)) (nodes_plain siblings)

each_plain : {A : Type 0} (json : A → Data) → ((x : A) → has_float (json x) ≡ false) → (xs : List A) → has_float (array_of (map json xs)) ≡ false
each_plain json h [] = refl
each_plain json h (x ∷ xs) = neither (has_float (json x)) (has_float (array_of (map json xs))) (h x) (each_plain json h xs)

change_member_plain : (change : StateChange) → has_float (change_member change).1 ≡ false
change_member_plain (Set point) = rw (integer_plain point.x, integer_plain point.y) refl
change_member_plain (Add by) = rw (integer_plain by.x, integer_plain by.y) refl
change_member_plain (SetIf count point) = rw (integer_plain point.x, integer_plain point.y) refl

step_object_plain : (word : List ℕ) (on : ℕ) (further : List Member) → ArePlain further → has_float (step_object word on further) ≡ false
step_object_plain word on further p = object_plain ((codes "do", string word) ∷ (codes "on", natural on) ∷ further) (refl, (refl, p))

op_plain : (on : ℕ) (op : PlainOp) → has_float (op_json on op) ≡ false
op_plain on (complete nodes) = step_object_plain (codes "complete") on ((codes "tree", array (nodes_json nodes)) ∷ []) (nodes_plain nodes, tt)
op_plain on (state tag change) = step_object_plain (codes "state") on ((codes "tag", natural tag) ∷ change_member change ∷ []) (refl, (change_member_plain change, tt))
op_plain on (props tag change) = step_object_plain (codes "props") on ((codes "tag", natural tag) ∷ (codes "props", edit_json change) ∷ []) (refl, (object_plain (edit_members change.rows change.label) (edit_plain change.rows change.label), tt))
op_plain on (resize size) = step_object_plain (codes "size") on ((codes "width", integer size.width) ∷ (codes "height", integer size.height) ∷ []) (integer_plain size.width, (integer_plain size.height, tt))
op_plain on stop = refl
op_plain on suspend = refl
op_plain on resume = refl

act_plain : (on : ℕ) (act : PlainAct) → has_float (act_json on act) ≡ false
act_plain on (commit op) = op_plain on op
act_plain on hold = refl
act_plain on mount = refl

actor_plain : (actor : PlainActor) → has_float (actor_json actor) ≡ false
actor_plain actor =
    object_plain ((codes "name", text_json actor.name) ∷ (codes "steps", array_of (map step_json actor.steps)) ∷ [])
    (text_plain actor.name, (each_plain step_json (λ step. act_plain step.surface step.act) actor.steps, tt))

surface_plain : (surface : PlainSurface) → has_float (surface_json surface) ≡ false
surface_plain surface =
    object_plain ((codes "id", natural surface.id) ∷ (codes "width", integer surface.size.width) ∷ (codes "height", integer surface.size.height) ∷ [])
    (refl, (integer_plain surface.size.width, (integer_plain surface.size.height, tt)))

-- a script is written without a float
pub no_float : (script : PlainScript) → has_float (json_of script) ≡ false
no_float script =
    object_plain
    ((codes "version", natural script.version) ∷
    (codes "surfaces", array_of (map surface_json script.surfaces)) ∷
    (codes "actors", array_of (map actor_json script.actors)) ∷
    (codes "turns", array_of (map natural script.turns)) ∷
    [])
    (refl, (each_plain surface_json surface_plain script.surfaces, (each_plain actor_json actor_plain script.actors, (each_plain natural (λ turn. refl) script.turns, tt))))
