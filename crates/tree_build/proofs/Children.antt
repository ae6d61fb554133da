-- A leaf that is given a child.
use Rattle.std.proofs.Common.{◌≡◌, ℕ, ◌<◌, true, List, [], ◌∷◌, length, arith, refl, ap, ◌∙◌}
use Rattle.std.specs.Prelude.{Some, None}
use Rattle.tree_build.specs.declared.ScriptNode.{ScriptNode, fold_out-ScriptNode}
use Rattle.tree_build.specs.declared.ScriptNode.TheOpen.{ScriptNode-F, Written, Kept}
use Rattle.tree_build.specs.Script.{ScriptForest, in_front, script_layer, script_forest}
use Rattle.tree_build.specs.Refusals.{tag_of_parent}

layer_is_child : (layer : ScriptNode-F (ScriptForest → ScriptForest)) (tag : ℕ) (rest : ScriptForest) → tag_of_parent true tag (script_layer layer rest) ≡ Some tag
layer_is_child (Written own kind props label children) tag rest = refl
layer_is_child (Kept own change None) tag rest = refl
layer_is_child (Kept own change (Some children)) tag rest = refl

-- each script node is a child of the leaf that it is given to
front_is_child : (tag : ℕ) (node : ScriptNode) (rest : ScriptForest) → tag_of_parent true tag (in_front node rest) ≡ Some tag
front_is_child tag node rest =
    ap (λ f. tag_of_parent true tag (f rest)) (fold_out-ScriptNode (ScriptForest → ScriptForest) script_layer node) ∙ layer_is_child _ tag rest

-- a leaf that is given some nodes
pub given_child : (tag : ℕ) (nodes : List ScriptNode) → 0 < length nodes → tag_of_parent true tag (script_forest nodes) ≡ Some tag
given_child tag [] h = absurd (omega arith)
given_child tag (node ∷ nodes) h = front_is_child tag node (script_forest nodes)
