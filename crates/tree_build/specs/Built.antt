-- The forest that is built, before it is settled, and how much is made for it.
use Rattle.std.specs.Prelude.{ℕ, ◌+◌, Option, Some, None}
use Rattle.shadow_node.specs.declared.NodeEdit.{NodeEdit}
use Rattle.shadow_node.specs.Forest.{PlainForest, none, node, PlainNode}
use Rattle.shadow_node.specs.Fields.{SettledFields}
use Rattle.shadow_node.specs.Find.{first_settled}
use Rattle.shadow_node.specs.Edit.{edited_settled}
use Rattle.tree_build.specs.Script.{ScriptForest, no_more, written, kept, kept_with}
use Rattle.tree_build.specs.Unsettled.{unsettled}

-- a node with a change where one is given
abbrev pub changed_by : Option NodeEdit → SettledFields → SettledFields
changed_by None settled = settled
changed_by (Some change) settled = edited_settled change settled

-- a kept node in front of its later siblings; a tag that the held forest has not names nothing
abbrev pub kept_tree : Option (PlainNode SettledFields) → Option NodeEdit → PlainForest SettledFields → PlainForest SettledFields
kept_tree None change siblings = siblings
kept_tree (Some tree) change siblings = node (changed_by change tree.fields) tree.children siblings

-- the same with these children in place of its own
abbrev pub kept_tree_with : Option (PlainNode SettledFields) → Option NodeEdit → PlainForest SettledFields → PlainForest SettledFields → PlainForest SettledFields
kept_tree_with None change children siblings = siblings
kept_tree_with (Some tree) change children siblings = node (changed_by change tree.fields) children siblings

-- the forest that is built over a held forest: a written node with a starting state and a frame of zeros, and a kept one with those that it had
abbrev pub built : PlainForest SettledFields → ScriptForest → PlainForest SettledFields
built held no_more = none
built held (written fields children siblings) = node (unsettled fields) (built held children) (built held siblings)
built held (kept tag change siblings) = kept_tree (first_settled tag held) change (built held siblings)
built held (kept_with tag change children siblings) =
    kept_tree_with (first_settled tag held) change (built held children) (built held siblings)

-- how many nodes are made: the written ones, and the kept ones that are given a change or children
abbrev pub made_for : ScriptForest → ℕ
made_for no_more = 0
made_for (written fields children siblings) = made_for children + made_for siblings + 1
made_for (kept tag None siblings) = made_for siblings
made_for (kept tag (Some change) siblings) = made_for siblings + 1
made_for (kept_with tag change children siblings) = made_for children + made_for siblings + 1
