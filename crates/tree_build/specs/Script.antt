-- The nodes of a script as plain data.
use Rattle.std.specs.Prelude.{ℕ, List, [], ◌∷◌, Option, Some, None, map}
use Rattle.shadow_node.specs.declared.NodeEdit.{NodeEdit}
use Rattle.shadow_node.specs.Fields.{NodeFields}
use Rattle.tree_build.specs.declared.ScriptNode.{ScriptNode, fold-ScriptNode}
use Rattle.tree_build.specs.declared.ScriptNode.TheOpen.{ScriptNode-F, Written, Kept}

-- a list of script nodes: a written node with its children, or a kept one with or without children of its own, and then the later siblings
pub data ScriptForest : Type 0 where
  no_more : ScriptForest
  written : NodeFields → (children : ScriptForest) → (siblings : ScriptForest) → ScriptForest
  kept : ℕ → Option NodeEdit → (siblings : ScriptForest) → ScriptForest
  kept_with : ℕ → Option NodeEdit → (children : ScriptForest) → (siblings : ScriptForest) → ScriptForest

-- each node in front of the next
abbrev pub chained : List (ScriptForest → ScriptForest) → ScriptForest
chained [] = no_more
chained (front ∷ fronts) = front (chained fronts)

abbrev pub script_layer : ScriptNode-F (ScriptForest → ScriptForest) → ScriptForest → ScriptForest
script_layer (Written tag kind props label children) rest =
    written (record { tag = tag; kind = kind; props = props; label = label }) (chained children) rest
script_layer (Kept tag change None) rest = kept tag change rest
script_layer (Kept tag change (Some children)) rest = kept_with tag change (chained children) rest

-- a script node in front of its later siblings
abbrev pub in_front : ScriptNode → ScriptForest → ScriptForest
in_front = fold-ScriptNode (ScriptForest → ScriptForest) script_layer

-- the script nodes, in order
abbrev pub script_forest : List ScriptNode → ScriptForest
script_forest nodes = chained (map in_front nodes)
