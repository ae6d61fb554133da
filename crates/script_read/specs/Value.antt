-- The script that a JSON value without a fault is.
use Rattle.std.specs.Prelude.{ℕ, ◌+◌, ℤ, pos, negsuc, List, [], map, slice_set, codes, Bool, if◌then◌else◌, Option, Some, None, is_some, option_and_then, option_map, unwrap_or}
use Rattle.std.specs.Ordering.{nat_cmp, match_ordering}
use Rattle.std.specs.Cmp.Lexicographic.{slice_cmp}
use Rattle.serde_json.specs.Data.{Data, null, boolean, number, string, array, object, Items, no_items, item, Members, no_members, member}
use Rattle.serde_json.specs.Find.{get}
use Rattle.shadow_frame.specs.declared.Point.{Point}
use Rattle.shadow_frame.specs.declared.Size.{Size as Area}
use Rattle.native_state.specs.declared.StateChange.{StateChange}
use Rattle.native_state.specs.declared.StateChange.TheVariants.{Set, Add, SetIf}
use Rattle.prop_table.specs.Props.{PropList}
use Rattle.prop_table.specs.Edits.{EditList, widened_edit}
use Rattle.prop_table.specs.Table.{RowRule, v1_rules, v2_rules}
use Rattle.prop_table.specs.Widened.{widened}
use Rattle.shadow_kinds.specs.declared.Kind.{Kind}
use Rattle.shadow_kinds.specs.declared.Kind.TheVariants.{View}
use Rattle.shadow_kinds.specs.Words.{kind_of_word}
use Rattle.shadow_node.specs.declared.NodeEdit.{NodeEdit}
use Rattle.shadow_node.specs.Fields.{NodeFields}
use Rattle.tree_build.specs.Script.{ScriptForest, no_more, written, kept, kept_with}
use Rattle.tree_revision.specs.Records.{complete, state, props, resize, stop, suspend, resume}
use Rattle.tree_revision.specs.Script.{PlainAct, commit, hold, mount, PlainStep, PlainActor, PlainSurface, PlainScript}
use Rattle.script_read.specs.Members.{integer_in, natural_in, member_at, integer_at, natural_at, text_at, items_at, item_in}
use Rattle.script_read.specs.Words.{is_version_two}
use Rattle.script_read.specs.Shape.{word_in}
use Rattle.script_read.specs.Faults.{taken, label_of}
use Rattle.script_read.specs.declared.words.Word.{Word}
use Rattle.script_read.specs.declared.words.Word.TheVariants as word

-- what an object says of a row: None where it does not name the row
abbrev pub named_row : Data → RowRule → Option (Option ℤ)
named_row value rule = option_and_then (taken rule) (get rule.name value)

-- the props that an object names, and each other row at its start
abbrev pub rows_of : List RowRule → Data → PropList
rows_of rules value = map (λ rule. unwrap_or (named_row value rule) rule.start) rules

-- the same for a node's table: version 1 names rows of its own table alone
abbrev pub props_of : (two : Bool) → Data → PropList
props_of two value = if two then rows_of v2_rules value else widened (rows_of v1_rules value)

-- the rows that an object names, and each other row as it was
abbrev pub named_rows : List RowRule → Data → EditList
named_rows rules value = map (named_row value) rules

-- the same for a node's table
abbrev pub edits_of : (two : Bool) → Data → EditList
edits_of two value = if two then named_rows v2_rules value else widened_edit (named_rows v1_rules value)

-- an edit with what is said of a row, where something is said
abbrev pub edit_with : EditList → ℕ → Option (Option ℤ) → EditList
edit_with edit row None = edit
edit_with edit row (Some value) = slice_set edit row (Some value)

-- the label that an object names
abbrev pub named_label : Data → Option (List ℕ)
named_label value = option_and_then label_of (get (codes "label") value)

-- the change that an object of props names
abbrev pub edit_of : (two : Bool) → Data → NodeEdit
edit_of two value = record { rows = edits_of two value; label = named_label value }

-- the kind of a written node
abbrev pub kind_at : Data → Kind
kind_at node = unwrap_or (kind_of_word (text_at (codes "kind") node)) View

-- what a written node says of itself
abbrev pub fields_of : (two : Bool) → Data → NodeFields
fields_of two node = record {
  tag = natural_at (codes "tag") node;
  kind = kind_at node;
  props = props_of two (member_at (codes "props") node);
  label = unwrap_or (named_label (member_at (codes "props") node)) [];
}

-- the change of a kept node, where it is given props
abbrev pub kept_change : (two : Bool) → Data → Option NodeEdit
kept_change two node = option_map (edit_of two) (get (codes "props") node)

-- a kept node in front of its siblings, with children of its own where it is given some
abbrev pub kept_before : ℕ → Option NodeEdit → Option ScriptForest → ScriptForest → ScriptForest
kept_before tag change None siblings = kept tag change siblings
kept_before tag change (Some children) siblings = kept_with tag change children siblings

-- a node with its children in front of its siblings: it is written out where it has a tag, and kept where it has none
abbrev pub node_before : (two : Bool) → Data → Option ScriptForest → ScriptForest → ScriptForest
node_before two node children siblings =
    if is_some (get (codes "tag") node) then written (fields_of two node) (unwrap_or children no_more) siblings
    else kept_before (natural_at (codes "keep") node) (kept_change two node) children siblings

abbrev mutual
  -- the nodes of a tree
  pub nodes_from : (two : Bool) → Data → ScriptForest
  nodes_from two null = no_more
  nodes_from two (boolean b) = no_more
  nodes_from two (number n) = no_more
  nodes_from two (string s) = no_more
  nodes_from two (array nodes) = nodes_in two nodes
  nodes_from two (object fields) = no_more

  pub nodes_in : (two : Bool) → Items → ScriptForest
  nodes_in two no_items = no_more
  nodes_in two (item node nodes) = node_before two node (children_from two node) (nodes_in two nodes)

  -- the children of a node, where it is given some
  pub children_from : (two : Bool) → Data → Option ScriptForest
  children_from two null = None
  children_from two (boolean b) = None
  children_from two (number n) = None
  children_from two (string s) = None
  children_from two (array values) = None
  children_from two (object fields) = children_among two fields

  pub children_among : (two : Bool) → Members → Option ScriptForest
  children_among two no_members = None
  children_among two (member name value fields) =
      match_ordering (slice_cmp nat_cmp (codes "children") name) (children_among two fields) (Some (nodes_from two value)) (children_among two fields)

-- a point from two items, the first at that number
abbrev pub point_from : ℕ → Data → Point
point_from index value = record { x = integer_in (item_in index value); y = integer_in (item_in (index + 1) value) }

-- a count that is not negative
abbrev pub at_least_zero : ℤ → ℕ
at_least_zero (pos n) = n
at_least_zero (negsuc n) = 0

-- the change of a state step
abbrev pub state_change_of : Data → StateChange
state_change_of step =
    if is_some (get (codes "set") step) then Set (point_from 0 (member_at (codes "set") step))
    else
    (if is_some (get (codes "add") step) then Add (point_from 0 (member_at (codes "add") step))
    else SetIf (at_least_zero (integer_in (item_in 0 (member_at (codes "set_if") step)))) (point_from 1 (member_at (codes "set_if") step)))

-- a width and a height
abbrev pub size_of : Data → Area
size_of value = record { width = integer_at (codes "width") value; height = integer_at (codes "height") value }

-- what a step of that word does
abbrev pub act_of : (two : Bool) → Word → Data → PlainAct
act_of two word.Complete step = commit (complete (nodes_from two (member_at (codes "tree") step)))
act_of two word.State step = commit (state (natural_at (codes "tag") step) (state_change_of step))
act_of two word.Props step = commit (props (natural_at (codes "tag") step) (edit_of two (member_at (codes "props") step)))
act_of two word.Size step = commit (resize (size_of step))
act_of two word.Stop step = commit stop
act_of two word.Hold step = hold
act_of two word.Mount step = mount
act_of two word.Suspend step = commit suspend
act_of two word.Resume step = commit resume

abbrev pub step_of : (two : Bool) → Data → PlainStep
step_of two step = record {
  surface = natural_at (codes "on") step;
  act = act_of two (unwrap_or (word_in two step) word.Hold) step;
}

abbrev pub actor_of : (two : Bool) → Data → PlainActor
actor_of two actor = record { name = text_at (codes "name") actor; steps = map (step_of two) (items_at (codes "steps") actor) }

abbrev pub surface_of : Data → PlainSurface
surface_of surface = record { id = natural_at (codes "id") surface; size = size_of surface }

-- the script of a value
abbrev pub script_of : Data → PlainScript
script_of script = record {
  version = natural_at (codes "version") script;
  surfaces = map surface_of (items_at (codes "surfaces") script);
  actors = map (actor_of (is_version_two script)) (items_at (codes "actors") script);
  turns = map natural_in (items_at (codes "turns") script);
}
