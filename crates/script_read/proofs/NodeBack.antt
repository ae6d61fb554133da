-- What was written of nodes reads back, and has no fault.
use Rattle.std.proofs.Common.{◌≡◌, ℕ, suc, ◌+◌, ◌<◌, ◌≤◌, ◌^◌, List, [], ◌∷◌, length, Bool, true, Option, Some, None, is_some, IsTrue, IfSome, option_map, option_and_then, unwrap_or, codes, pos, ◌≤ℤ◌, lt-ltb, refl, ap, ◌∙◌, arith}
use Rattle.std.specs.Str.{is_utf8}
use Rattle.std.proofs.lemmas.Int.{ints}
use Rattle.std.proofs.lemmas.Bool.Decides.{nat_tests}
use Rattle.serde_json.specs.Data.{Data, null, string, array, Items, no_items, item, no_members}
use Rattle.serde_json.specs.Find.{get}
use Rattle.prop_table.specs.Edits.{EditList, AreEditsInRows}
use Rattle.prop_table.specs.Table.{RowRule, v2_rules}
use Rattle.shadow_kinds.specs.declared.Kind.{Kind}
use Rattle.shadow_kinds.specs.declared.Kind.TheVariants.{View, Text, Image, Scroll, Input}
use Rattle.shadow_kinds.specs.Words.{word_of, kind_of_word}
use Rattle.shadow_node.specs.declared.NodeEdit.{NodeEdit}
use Rattle.shadow_node.specs.Fields.{NodeFields}
use Rattle.tree_build.specs.Script.{ScriptForest, no_more, written, kept, kept_with}
use Rattle.shadow_node.specs.InRange.{IsTagInRange, AreFieldsInRange, IsEditInRange}
use Rattle.tree_build.specs.InRange.{AreNodesInRange}
use Rattle.script_read.specs.Members.{integer_of, natural_in, natural_at, text_in, text_at, member_at}
use Rattle.script_read.specs.Places.{Pointer, at_member, first_of, refused, in_nodes, in_nodes_from, in_node}
use Rattle.script_read.specs.Shape.{is_integer, is_text, is_array, is_object, has_node_form, misshapen_node}
use Rattle.script_read.specs.Faults.{is_tag, no_kind, bad_props, bad_props_in, rules_for, bad_tag_in}
use Rattle.script_read.specs.Value.{edit_of, props_of, named_label, fields_of, node_before, nodes_from, nodes_in, children_from}
use Rattle.script_read.specs.Writing.{natural, with_members, object_of, edit_members, edit_json, changed_rows, some_label, some_object, some_array, node_object, written_json, kept_json, nodes_json}
use Rattle.script_read.specs.Writable.{AreFieldsWritable, IsEditWritable, AreNodesWritable}
use Rattle.script_read.specs.Fits.{IsEditFit, AreLabelsText}
use Rattle.script_read.proofs.PutRows.{rows_same}
use Rattle.script_read.proofs.EditBack.{IsLabel, no_bad_props, members_of_props, edit_back, named_label_back, same_props, changed_in_rows, changed_unnamed, props_merged, merged-changed}

-- what a node has: its members, and what is looked for below it
record IsNode (tag keep kind given children : Option Data) (node : Data) : Type 0 where
  form : has_node_form node ≡ true
  has_tag : get (codes "tag") node ≡ tag
  has_keep : get (codes "keep") node ≡ keep
  has_kind : get (codes "kind") node ≡ kind
  has_props : get (codes "props") node ≡ given
  has_children : get (codes "children") node ≡ children
  below : (refuse : Data → Option Pointer)
      → in_node refuse node ≡ first_of (refuse node ∷ at_member (codes "children") (option_and_then (in_nodes refuse) children) ∷ [])
  inside : (two : Bool) → children_from two node ≡ option_map (nodes_from two) children

written_is : (tag kind : Data) (given children : Option Data)
    → IsNode (Some tag) None (Some kind) given children (node_object ((codes "tag", tag) ∷ (codes "kind", kind) ∷ []) given children)
written_is tag kind None None = record { form = refl; has_tag = refl; has_keep = refl; has_kind = refl; has_props = refl; has_children = refl; below = λ refuse. refl; inside = λ two. refl }
written_is tag kind None (Some children) = record { form = refl; has_tag = refl; has_keep = refl; has_kind = refl; has_props = refl; has_children = refl; below = λ refuse. refl; inside = λ two. refl }
written_is tag kind (Some given) None = record { form = refl; has_tag = refl; has_keep = refl; has_kind = refl; has_props = refl; has_children = refl; below = λ refuse. refl; inside = λ two. refl }
written_is tag kind (Some given) (Some children) = record { form = refl; has_tag = refl; has_keep = refl; has_kind = refl; has_props = refl; has_children = refl; below = λ refuse. refl; inside = λ two. refl }

kept_is : (keep : Data) (given children : Option Data) → IsNode None (Some keep) None given children (node_object ((codes "keep", keep) ∷ []) given children)
kept_is keep None None = record { form = refl; has_tag = refl; has_keep = refl; has_kind = refl; has_props = refl; has_children = refl; below = λ refuse. refl; inside = λ two. refl }
kept_is keep None (Some children) = record { form = refl; has_tag = refl; has_keep = refl; has_kind = refl; has_props = refl; has_children = refl; below = λ refuse. refl; inside = λ two. refl }
kept_is keep (Some given) None = record { form = refl; has_tag = refl; has_keep = refl; has_kind = refl; has_props = refl; has_children = refl; below = λ refuse. refl; inside = λ two. refl }
kept_is keep (Some given) (Some children) = record { form = refl; has_tag = refl; has_keep = refl; has_kind = refl; has_props = refl; has_children = refl; below = λ refuse. refl; inside = λ two. refl }

-- the props of a written node
abbrev pub written_props : NodeFields → Option Data
written_props fields = some_object (edit_members (changed_rows v2_rules fields.props) (some_label fields.label))

written_node : (fields : NodeFields) (children : Items)
    → IsNode (Some (natural fields.tag)) None (Some (string (word_of fields.kind))) (written_props fields) (some_array children) (written_json fields children)
written_node fields children = written_is (natural fields.tag) (string (word_of fields.kind)) (written_props fields) (some_array children)

kept_node : (tag : ℕ) (change : Option NodeEdit) (children : Option Items)
    → IsNode None (Some (natural tag)) None (option_map edit_json change) (option_map array children) (kept_json tag change children)
kept_node tag change children = kept_is (natural tag) (option_map edit_json change) (option_map array children)

-- a value passes a test, where there is one
abbrev pub Passes : (Data → Bool) → Option Data → Type 0
Passes test None = Unit {0}
Passes test (Some value) = test value ≡ true

pub passed : (name : List ℕ) (test : Data → Bool) (value : Data) (found : Option Data) → get name value ≡ found → Passes test found → refused name test value ≡ None
passed name test value None e p = rw e refl
passed name test value (Some one) e p = rw (e, p) refl

pub natural_back : (n : ℕ) → n < 2 ^ 63 → integer_of (natural n) ≡ Some (pos n)
natural_back n h = rw (lt-ltb n (2 ^ 63) h) refl

pub natural_in-back : (n : ℕ) → n < 2 ^ 32 → natural_in (natural n) ≡ n
natural_in-back n h = let within : n < 2 ^ 63 = omega (arith, h) in rw (natural_back n within, lt-ltb n (2 ^ 32) h) refl

pub integer_passes : (n : ℕ) → n < 2 ^ 63 → is_integer (natural n) ≡ true
integer_passes n h = rw (natural_back n h) refl

pub tag_passes : (n : ℕ) → IsTagInRange n → is_tag (natural n) ≡ true
tag_passes n h =
    let within : n < 2 ^ 63 = omega (arith, h.high) in
    let low : pos 1 ≤ℤ pos n = omega (arith, ints, h.low) in
    let high : pos n ≤ℤ pos 2147483647 = omega (arith, ints, h.high) in
    rw (natural_back n within) (grind (arith, nat_tests))

pub tag_fits : (n : ℕ) → IsTagInRange n → n < 2 ^ 63
tag_fits n h = omega (arith, h.high)

formed : {tag keep kind given children : Option Data} {node : Data} → IsNode tag keep kind given children node → Passes is_integer tag → Passes is_integer keep
    → Passes is_text kind → Passes is_object given → Passes is_array children → misshapen_node node ≡ None
formed {tag = tag} {keep = keep} {kind = kind} {given = given} {children = children} {node = node} n t k w g c =
    rw (
      n.form,
      passed (codes "tag") is_integer node tag n.has_tag t,
      passed (codes "keep") is_integer node keep n.has_keep k,
      passed (codes "kind") is_text node kind n.has_kind w,
      passed (codes "props") is_object node given n.has_props g,
      passed (codes "children") is_array node children n.has_children c,
    ) refl

tagged : {tag keep kind given children : Option Data} {node : Data} → IsNode tag keep kind given children node → Passes is_tag tag → Passes is_tag keep → bad_tag_in node ≡ None
tagged {tag = tag} {keep = keep} {kind = kind} {given = given} {children = children} {node = node} n t k =
    rw (passed (codes "tag") is_tag node tag n.has_tag t, passed (codes "keep") is_tag node keep n.has_keep k) refl

some_object-passes : (members : List (List ℕ × Data)) → Passes is_object (some_object members)
some_object-passes [] = tt
some_object-passes (one ∷ members) = refl

edit-passes : (change : Option NodeEdit) → Passes is_object (option_map edit_json change)
edit-passes None = tt
edit-passes (Some edit) = refl

some_array-passes : (items : Items) → Passes is_array (some_array items)
some_array-passes no_items = tt
some_array-passes (item value items) = refl

-- each node of a tree passes
abbrev pub PassNodes : (Data → Option Pointer) → ScriptForest → Type 0
PassNodes refuse no_more = Unit {0}
PassNodes refuse (written fields children siblings) =
    (refuse (written_json fields (nodes_json children)) ≡ None) × PassNodes refuse children × PassNodes refuse siblings
PassNodes refuse (kept tag change siblings) = (refuse (kept_json tag change None) ≡ None) × PassNodes refuse siblings
PassNodes refuse (kept_with tag change children siblings) =
    (refuse (kept_json tag change (Some (nodes_json children))) ≡ None) × PassNodes refuse children × PassNodes refuse siblings

some_array-below : (refuse : Data → Option Pointer) (items : Items) → in_nodes_from refuse 0 items ≡ None → option_and_then (in_nodes refuse) (some_array items) ≡ None
some_array-below refuse no_items e = refl
some_array-below refuse (item value items) e = e

pub nodes_pass : (refuse : Data → Option Pointer) (nodes : ScriptForest) (index : ℕ) → PassNodes refuse nodes → in_nodes_from refuse index (nodes_json nodes) ≡ None
nodes_pass refuse no_more index p = refl
nodes_pass refuse (written fields children siblings) index p =
    rw (
      (written_node fields (nodes_json children)).below refuse,
      p.0,
      some_array-below refuse (nodes_json children) (nodes_pass refuse children 0 p.1),
      nodes_pass refuse siblings (index + 1) p.2,
    ) refl
nodes_pass refuse (kept tag change siblings) index p =
    rw ((kept_node tag change None).below refuse, p.0, nodes_pass refuse siblings (index + 1) p.1) refl
nodes_pass refuse (kept_with tag change children siblings) index p =
    rw ((kept_node tag change (Some (nodes_json children))).below refuse, p.0, nodes_pass refuse children 0 p.1, nodes_pass refuse siblings (index + 1) p.2) refl

pub nodes_formed : (nodes : ScriptForest) → AreNodesInRange nodes → PassNodes misshapen_node nodes
nodes_formed no_more r = tt
nodes_formed (written fields children siblings) r = (
  formed (written_node fields (nodes_json children)) (integer_passes fields.tag (tag_fits fields.tag r.0.tag)) tt refl
      (some_object-passes (edit_members (changed_rows v2_rules fields.props) (some_label fields.label))) (some_array-passes (nodes_json children)),
  nodes_formed children r.1,
  nodes_formed siblings r.2,
)
nodes_formed (kept tag change siblings) r =
    (formed (kept_node tag change None) tt (integer_passes tag (tag_fits tag r.0)) tt (edit-passes change) tt, nodes_formed siblings r.2)
nodes_formed (kept_with tag change children siblings) r = (
  formed (kept_node tag change (Some (nodes_json children))) tt (integer_passes tag (tag_fits tag r.0)) tt (edit-passes change) refl,
  nodes_formed children r.2,
  nodes_formed siblings r.3,
)

pub nodes_tagged : (nodes : ScriptForest) → AreNodesInRange nodes → PassNodes bad_tag_in nodes
nodes_tagged no_more r = tt
nodes_tagged (written fields children siblings) r =
    (tagged (written_node fields (nodes_json children)) (tag_passes fields.tag r.0.tag) tt, nodes_tagged children r.1, nodes_tagged siblings r.2)
nodes_tagged (kept tag change siblings) r = (tagged (kept_node tag change None) tt (tag_passes tag r.0), nodes_tagged siblings r.2)
nodes_tagged (kept_with tag change children siblings) r =
    (tagged (kept_node tag change (Some (nodes_json children))) tt (tag_passes tag r.0), nodes_tagged children r.2, nodes_tagged siblings r.3)

pub nodes_unrefused : (nodes : ScriptForest) → PassNodes (λ value. None) nodes
nodes_unrefused no_more = tt
nodes_unrefused (written fields children siblings) = (refl, nodes_unrefused children, nodes_unrefused siblings)
nodes_unrefused (kept tag change siblings) = (refl, nodes_unrefused siblings)
nodes_unrefused (kept_with tag change children siblings) = (refl, nodes_unrefused children, nodes_unrefused siblings)

kind_passes : (kind : Kind) → is_some (kind_of_word (word_of kind)) ≡ true
kind_passes View = refl
kind_passes Text = refl
kind_passes Image = refl
kind_passes Scroll = refl
kind_passes Input = refl

abbrev known_kind : Data → Bool
known_kind kind = is_some (kind_of_word (text_in kind))

kinded : {tag keep kind given children : Option Data} {node : Data} → IsNode tag keep kind given children node → Passes known_kind kind → no_kind node ≡ None
kinded {tag = tag} {keep = keep} {kind = kind} {given = given} {children = children} {node = node} n k = passed (codes "kind") known_kind node kind n.has_kind k

pub nodes_kinded : (nodes : ScriptForest) → PassNodes no_kind nodes
nodes_kinded no_more = tt
nodes_kinded (written fields children siblings) =
    (kinded (written_node fields (nodes_json children)) (kind_passes fields.kind), nodes_kinded children, nodes_kinded siblings)
nodes_kinded (kept tag change siblings) = (kinded (kept_node tag change None) tt, nodes_kinded siblings)
nodes_kinded (kept_with tag change children siblings) =
    (kinded (kept_node tag change (Some (nodes_json children))) tt, nodes_kinded children, nodes_kinded siblings)

-- an object of props, where there is one
abbrev HaveNoFault : (two : Bool) → Option Data → Type 0
HaveNoFault two None = Unit {0}
HaveNoFault two (Some value) = bad_props (rules_for two) value ≡ None

propped : {tag keep kind given children : Option Data} {node : Data} (two : Bool) → IsNode tag keep kind given children node → HaveNoFault two given → bad_props_in two node ≡ None
propped {tag = tag} {keep = keep} {kind = kind} {given = None} {children = children} {node = node} two n g = rw n.has_props refl
propped {tag = tag} {keep = keep} {kind = kind} {given = Some given} {children = children} {node = node} two n g = rw (n.has_props, g) refl

label_by : (label : Option (List ℕ)) → IfSome label (λ label. length label ≤ 256) → IfSome label (λ label. is_utf8 label ≡ true) → IsLabel label
label_by None r w = tt
label_by (Some label) r w = (w, r)

some_label_by : (label : List ℕ) → length label ≤ 256 → is_utf8 label ≡ true → IsLabel (some_label label)
some_label_by [] r w = tt
some_label_by (byte ∷ bytes) r w = (w, r)

AreEditsInRows-length : (rules : List RowRule) (edit : EditList) → AreEditsInRows rules edit → length edit ≡ length rules
AreEditsInRows-length [] [] a = refl
AreEditsInRows-length [] (named ∷ edit) a = absurd a
AreEditsInRows-length (rule ∷ rules) [] a = absurd a
AreEditsInRows-length (rule ∷ rules) (named ∷ edit) a = ap suc (AreEditsInRows-length rules edit a.1)

object_faultless : (two : Bool) (members : List (List ℕ × Data)) → bad_props (rules_for two) (object_of members) ≡ None → HaveNoFault two (some_object members)
object_faultless two [] e = tt
object_faultless two (one ∷ members) e = e

pub edit_faultless : (two : Bool) (edit : NodeEdit) → IsEditInRange edit → IsEditWritable two edit → IsEditFit edit → bad_props (rules_for two) (edit_json edit) ≡ None
edit_faultless two edit r w f =
    no_bad_props two edit.rows edit.label (with_members (edit_members edit.rows edit.label) no_members) r.rows (label_by edit.label r.label f) w.rows
    (members_of_props edit.rows edit.label (AreEditsInRows-length v2_rules edit.rows r.rows))

change_faultless : (two : Bool) (change : Option NodeEdit) → IfSome change IsEditInRange → IfSome change (IsEditWritable two) → IfSome change IsEditFit → HaveNoFault two (option_map edit_json change)
change_faultless two None r w f = tt
change_faultless two (Some edit) r w f = edit_faultless two edit r w f

written_faultless : (two : Bool) (fields : NodeFields) → AreFieldsInRange fields → AreFieldsWritable two fields → IsTrue (is_utf8 fields.label) → HaveNoFault two (written_props fields)
written_faultless two fields r w f =
    object_faultless two (edit_members (changed_rows v2_rules fields.props) (some_label fields.label))
    (no_bad_props two (changed_rows v2_rules fields.props) (some_label fields.label) (with_members (edit_members (changed_rows v2_rules fields.props) (some_label fields.label)) no_members)
    (changed_in_rows v2_rules fields.props r.props) (some_label_by fields.label r.label f) (changed_unnamed two fields.props w.rows)
    (members_of_props (changed_rows v2_rules fields.props) (some_label fields.label)
    (AreEditsInRows-length v2_rules (changed_rows v2_rules fields.props) (changed_in_rows v2_rules fields.props r.props))))

pub nodes_propped : (two : Bool) (nodes : ScriptForest) → AreNodesInRange nodes → AreNodesWritable two nodes → AreLabelsText nodes → PassNodes (bad_props_in two) nodes
nodes_propped two no_more r w f = tt
nodes_propped two (written fields children siblings) r w f =
    (propped two (written_node fields (nodes_json children)) (written_faultless two fields r.0 w.0 f.0), nodes_propped two children r.1 w.1 f.1, nodes_propped two siblings r.2 w.2 f.2)
nodes_propped two (kept tag change siblings) r w f =
    (propped two (kept_node tag change None) (change_faultless two change r.1 w.0 f.0), nodes_propped two siblings r.2 w.1 f.1)
nodes_propped two (kept_with tag change children siblings) r w f =
    (propped two (kept_node tag change (Some (nodes_json children))) (change_faultless two change r.1 w.0 f.0), nodes_propped two children r.2 w.1 f.1, nodes_propped two siblings r.3 w.2 f.2)

-- ---- what reads back

pub edit_of_back : (two : Bool) (edit : NodeEdit) → IsEditInRange edit → IsEditWritable two edit → IsEditFit edit → edit_of two (edit_json edit) ≡ edit
edit_of_back two edit r w f =
    let p = members_of_props edit.rows edit.label (AreEditsInRows-length v2_rules edit.rows r.rows) in
    rw (edit_back two edit.rows (edit_json edit) r.rows w.rows p.rows, named_label_back edit.label (edit_json edit) (label_by edit.label r.label f) p.label) refl

change_back : (two : Bool) (change : Option NodeEdit) → IfSome change IsEditInRange → IfSome change (IsEditWritable two) → IfSome change IsEditFit → option_map (edit_of two) (option_map edit_json change) ≡ change
change_back two None r w f = refl
change_back two (Some edit) r w f = ap Some (edit_of_back two edit r w f)

kind_back : (kind : Kind) → unwrap_or (kind_of_word (word_of kind)) View ≡ kind
kind_back View = refl
kind_back Text = refl
kind_back Image = refl
kind_back Scroll = refl
kind_back Input = refl

written_value : (fields : NodeFields) (children : Items) → member_at (codes "props") (written_json fields children) ≡ unwrap_or (written_props fields) null
written_value fields children = rw (written_node fields children).has_props refl

some_label_back : (label : List ℕ) → unwrap_or (some_label label) [] ≡ label
some_label_back [] = refl
some_label_back (byte ∷ bytes) = refl

fields_back : (two : Bool) (fields : NodeFields) (children : Items) → AreFieldsInRange fields → AreFieldsWritable two fields → IsTrue (is_utf8 fields.label) → fields_of two (written_json fields children) ≡ fields
fields_back two fields children r w f =
    let edit : EditList = changed_rows v2_rules fields.props in
    let i = changed_in_rows v2_rules fields.props r.props in
    let members = edit_members edit (some_label fields.label) in
    let p = members_of_props edit (some_label fields.label) (AreEditsInRows-length v2_rules edit i) in
    let given = unwrap_or (some_object members) null in
    let rows = rows_same v2_rules edit (object_of members) given (same_props members) p.rows in
    let n = written_node fields children in
    let tag : natural_at (codes "tag") (written_json fields children) ≡ fields.tag = rw n.has_tag (natural_in-back fields.tag (omega (arith, r.tag.high))) in
    let kind : unwrap_or (kind_of_word (text_at (codes "kind") (written_json fields children))) View ≡ fields.kind = rw n.has_kind (kind_back fields.kind) in
    let props : props_of two (member_at (codes "props") (written_json fields children)) ≡ fields.props =
    rw (written_value fields children, props_merged two given, edit_back two edit given i (changed_unnamed two fields.props w.rows) rows) (merged-changed v2_rules fields.props r.props) in
    let label : unwrap_or (named_label (member_at (codes "props") (written_json fields children))) [] ≡ fields.label =
    rw (written_value fields children, named_label_back (some_label fields.label) given (some_label_by fields.label r.label f) (same_props members (codes "label") ∙ p.label)) (some_label_back fields.label) in
    rw (tag, kind, props, label) refl

some_array-back : (two : Bool) (items : Items) → unwrap_or (option_map (nodes_from two) (some_array items)) no_more ≡ nodes_in two items
some_array-back two no_items = refl
some_array-back two (item value items) = refl

node_written : (two : Bool) (node tag : Data) (children : Option ScriptForest) (siblings : ScriptForest) → get (codes "tag") node ≡ Some tag
    → node_before two node children siblings ≡ written (fields_of two node) (unwrap_or children no_more) siblings
node_written two node tag children siblings e = rw e refl

same_written : {fields others : NodeFields} {children below siblings later : ScriptForest} → fields ≡ others → children ≡ below → siblings ≡ later
    → written fields children siblings ≡ written others below later
same_written f c l = rw (f, c, l) refl

pub nodes_back : (two : Bool) (nodes : ScriptForest) → AreNodesInRange nodes → AreNodesWritable two nodes → AreLabelsText nodes → nodes_in two (nodes_json nodes) ≡ nodes
nodes_back two no_more r w f = refl
nodes_back two (written fields children siblings) r w f =
    let n = written_node fields (nodes_json children) in
    let below : unwrap_or (children_from two (written_json fields (nodes_json children))) no_more ≡ children =
    rw (n.inside two, some_array-back two (nodes_json children)) (nodes_back two children r.1 w.1 f.1) in
    node_written two (written_json fields (nodes_json children)) (natural fields.tag) (children_from two (written_json fields (nodes_json children))) (nodes_in two (nodes_json siblings)) n.has_tag
    ∙ same_written (fields_back two fields (nodes_json children) r.0 w.0 f.0) below (nodes_back two siblings r.2 w.2 f.2)
nodes_back two (kept tag change siblings) r w f =
    let n = kept_node tag change None in
    let same : natural_at (codes "keep") (kept_json tag change None) ≡ tag = rw n.has_keep (natural_in-back tag (omega (arith, r.0.high))) in
    rw (n.has_tag, n.inside two, n.has_props, same, change_back two change r.1 w.0 f.0, nodes_back two siblings r.2 w.1 f.1) refl
nodes_back two (kept_with tag change children siblings) r w f =
    let n = kept_node tag change (Some (nodes_json children)) in
    let same : natural_at (codes "keep") (kept_json tag change (Some (nodes_json children))) ≡ tag = rw n.has_keep (natural_in-back tag (omega (arith, r.0.high))) in
    rw (n.has_tag, n.inside two, n.has_props, same, change_back two change r.1 w.0 f.0, nodes_back two children r.2 w.1 f.1, nodes_back two siblings r.3 w.2 f.2) refl
