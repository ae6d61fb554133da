-- The JSON value that a script is written as.
use Rattle.std.specs.Prelude.{ℕ, ℤ, List, [], ◌∷◌, ◌++◌, map, fold, codes, if◌then◌else◌, Option, Some, None, option_map}
use Rattle.std.specs.Ordering.{int_eq}
use Rattle.std.specs.Str.{is_utf8}
use Rattle.serde_json.specs.Data.{Data, null, number, unsigned, string, array, object, Items, no_items, item, Members, no_members, put}
use Rattle.serde_json.specs.Find.{of_integer}
use Rattle.serde_json.specs.View.{items_of}
use Rattle.native_state.specs.declared.StateChange.{StateChange}
use Rattle.native_state.specs.declared.StateChange.TheVariants.{Set, Add, SetIf}
use Rattle.prop_table.specs.Props.{PropList}
use Rattle.prop_table.specs.Edits.{EditList}
use Rattle.prop_table.specs.Table.{RowRule, v2_rules}
use Rattle.shadow_kinds.specs.Words.{word_of}
use Rattle.shadow_node.specs.declared.NodeEdit.{NodeEdit}
use Rattle.shadow_node.specs.Fields.{NodeFields}
use Rattle.tree_build.specs.Script.{ScriptForest, no_more, written, kept, kept_with}
use Rattle.tree_revision.specs.Records.{PlainOp, complete, state, props, resize, stop, suspend, resume}
use Rattle.tree_revision.specs.Script.{PlainAct, commit, hold, mount, PlainStep, PlainActor, PlainSurface, PlainScript}

-- a name and a value
abbrev pub Member : Type 0
Member = List ℕ × Data

-- members with more of them, each put at the place of its name
abbrev pub with_members : List Member → Members → Members
with_members more members = fold (λ all one. put one.0 one.1 all) members more

-- the object of some members
abbrev pub object_of : List Member → Data
object_of members = object (with_members members no_members)

-- a member, where there is a value for it
abbrev pub member_if : List ℕ → Option Data → List Member
member_if name None = []
member_if name (Some value) = (name, value) ∷ []

abbrev pub natural : ℕ → Data
natural n = number (unsigned n)

abbrev pub integer : ℤ → Data
integer z = number (of_integer z)

-- a text; bytes that are no text stand as null
abbrev pub text_json : List ℕ → Data
text_json bytes = if is_utf8 bytes then string bytes else null

-- the number of a row, or null for an empty row
abbrev pub row_json : Option ℤ → Data
row_json None = null
row_json (Some value) = integer value

-- the members of the rows that an edit names
abbrev pub row_members : List RowRule → EditList → List Member
row_members [] edit = []
row_members (rule ∷ rules) [] = []
row_members (rule ∷ rules) (named ∷ edit) = member_if rule.name (option_map row_json named) ++ row_members rules edit

-- the members of an edit: the rows that it names, and the label that it gives
abbrev pub edit_members : EditList → Option (List ℕ) → List Member
edit_members rows label = row_members v2_rules rows ++ member_if (codes "label") (option_map text_json label)

abbrev pub edit_json : NodeEdit → Data
edit_json edit = object_of (edit_members edit.rows edit.label)

-- a row's number, unless it is the one that the row begins with
abbrev pub unless_start : Option ℤ → Option ℤ → Option (Option ℤ)
unless_start None None = None
unless_start None (Some value) = Some (Some value)
unless_start (Some start) None = Some None
unless_start (Some start) (Some value) = if int_eq value start then None else Some (Some value)

-- the rows that differ from their start
abbrev pub changed_rows : List RowRule → PropList → EditList
changed_rows [] values = []
changed_rows (rule ∷ rules) [] = []
changed_rows (rule ∷ rules) (value ∷ values) = unless_start rule.start value ∷ changed_rows rules values

-- a label that is not empty
abbrev pub some_label : List ℕ → Option (List ℕ)
some_label [] = None
some_label (byte ∷ bytes) = Some (byte ∷ bytes)

-- the object of some members, unless there are none
abbrev pub some_object : List Member → Option Data
some_object [] = None
some_object (one ∷ members) = Some (object_of (one ∷ members))

-- an array, unless it has no items
abbrev pub some_array : Items → Option Data
some_array no_items = None
some_array (item value values) = Some (array (item value values))

-- a node has its own members, and props and children where they are given
abbrev pub node_object : List Member → Option Data → Option Data → Data
node_object own given children = object_of (own ++ member_if (codes "props") given ++ member_if (codes "children") children)

-- a written node has props where a row differs from its start or the label is not empty, and children where it has any
abbrev pub written_json : NodeFields → Items → Data
written_json fields children = node_object
    ((codes "tag", natural fields.tag) ∷ (codes "kind", string (word_of fields.kind)) ∷ [])
    (some_object (edit_members (changed_rows v2_rules fields.props) (some_label fields.label)))
    (some_array children)

-- a kept node has props and children where it is given them
abbrev pub kept_json : ℕ → Option NodeEdit → Option Items → Data
kept_json tag change children =
    node_object ((codes "keep", natural tag) ∷ []) (option_map edit_json change) (option_map array children)

-- the nodes of a tree
abbrev pub nodes_json : ScriptForest → Items
nodes_json no_more = no_items
nodes_json (written fields children siblings) = item (written_json fields (nodes_json children)) (nodes_json siblings)
nodes_json (kept tag change siblings) = item (kept_json tag change None) (nodes_json siblings)
nodes_json (kept_with tag change children siblings) = item (kept_json tag change (Some (nodes_json children))) (nodes_json siblings)

-- the array of some values
abbrev pub array_of : List Data → Data
array_of values = array (items_of values)

-- the member of a change of state
abbrev pub change_member : StateChange → Member
change_member (Set point) = (codes "set", array_of (integer point.x ∷ integer point.y ∷ []))
change_member (Add by) = (codes "add", array_of (integer by.x ∷ integer by.y ∷ []))
change_member (SetIf count point) = (codes "set_if", array_of (natural count ∷ integer point.x ∷ integer point.y ∷ []))

-- a step of that word on the surface of that id
abbrev pub step_object : List ℕ → ℕ → List Member → Data
step_object word on further = object_of ((codes "do", string word) ∷ (codes "on", natural on) ∷ further)

-- a step that commits
abbrev pub op_json : ℕ → PlainOp → Data
op_json on (complete nodes) = step_object (codes "complete") on ((codes "tree", array (nodes_json nodes)) ∷ [])
op_json on (state tag change) = step_object (codes "state") on ((codes "tag", natural tag) ∷ change_member change ∷ [])
op_json on (props tag change) = step_object (codes "props") on ((codes "tag", natural tag) ∷ (codes "props", edit_json change) ∷ [])
op_json on (resize size) = step_object (codes "size") on ((codes "width", integer size.width) ∷ (codes "height", integer size.height) ∷ [])
op_json on stop = step_object (codes "stop") on []
op_json on suspend = step_object (codes "suspend") on []
op_json on resume = step_object (codes "resume") on []

abbrev pub act_json : ℕ → PlainAct → Data
act_json on (commit op) = op_json on op
act_json on hold = step_object (codes "hold") on []
act_json on mount = step_object (codes "mount") on []

abbrev pub step_json : PlainStep → Data
step_json step = act_json step.surface step.act

abbrev pub actor_json : PlainActor → Data
actor_json actor = object_of ((codes "name", text_json actor.name) ∷ (codes "steps", array_of (map step_json actor.steps)) ∷ [])

abbrev pub surface_json : PlainSurface → Data
surface_json surface =
    object_of ((codes "id", natural surface.id) ∷ (codes "width", integer surface.size.width) ∷ (codes "height", integer surface.size.height) ∷ [])

abbrev pub json_of : PlainScript → Data
json_of script = object_of (
    (codes "version", natural script.version) ∷
    (codes "surfaces", array_of (map surface_json script.surfaces)) ∷
    (codes "actors", array_of (map actor_json script.actors)) ∷
    (codes "turns", array_of (map natural script.turns)) ∷
    []
    )
