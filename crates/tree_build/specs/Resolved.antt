-- The forest that script nodes name.
use Rattle.std.specs.Prelude.{Option, Some, None}
use Rattle.std.specs.Option.{option_map_or}
use Rattle.shadow_node.specs.declared.NodeEdit.{NodeEdit}
use Rattle.shadow_node.specs.Forest.{PlainForest, none, node, PlainNode}
use Rattle.shadow_node.specs.Fields.{NodeFields}
use Rattle.shadow_node.specs.Find.{first_with}
use Rattle.shadow_node.specs.Edit.{edited}
use Rattle.tree_build.specs.Script.{ScriptForest, no_more, written, kept, kept_with}

-- a change where one is given
abbrev pub edited_by : Option NodeEdit → NodeFields → NodeFields
edited_by change fields = option_map_or (λ change. edited change fields) change fields

-- a kept node in front of its later siblings; a tag that the held forest has not names nothing
abbrev pub kept_node : Option (PlainNode NodeFields) → Option NodeEdit → PlainForest NodeFields → PlainForest NodeFields
kept_node None change siblings = siblings
kept_node (Some tree) change siblings = node (edited_by change tree.fields) tree.children siblings

-- the same with these children in place of its own
abbrev pub kept_node_with : Option (PlainNode NodeFields) → Option NodeEdit → PlainForest NodeFields → PlainForest NodeFields → PlainForest NodeFields
kept_node_with None change children siblings = siblings
kept_node_with (Some tree) change children siblings = node (edited_by change tree.fields) children siblings

-- the forest that script nodes name over a held forest: written nodes as they are, and each kept node as the held one of its tag, changed as it says
abbrev pub resolved : PlainForest NodeFields → ScriptForest → PlainForest NodeFields
resolved held no_more = none
resolved held (written fields children siblings) = node fields (resolved held children) (resolved held siblings)
resolved held (kept tag change siblings) = kept_node (first_with tag held) change (resolved held siblings)
resolved held (kept_with tag change children siblings) =
    kept_node_with (first_with tag held) change (resolved held children) (resolved held siblings)
