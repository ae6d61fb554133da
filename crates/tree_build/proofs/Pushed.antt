-- One more script node whose values are in range.
use Rattle.std.proofs.Common.{List, [], ◌∷◌, ◌++◌, subst, sym}
use Rattle.std.specs.Prelude.{Some, None}
use Rattle.tree_build.specs.declared.ScriptNode.{ScriptNode, fold_out-ScriptNode}
use Rattle.tree_build.specs.declared.ScriptNode.TheOpen.{ScriptNode-F, Written, Kept}
use Rattle.tree_build.specs.Script.{ScriptForest, no_more, in_front, script_layer, script_forest}
use Rattle.tree_build.specs.InRange.{AreNodesInRange}

layer_in_range : (layer : ScriptNode-F (ScriptForest → ScriptForest)) (rest later : ScriptForest) → (AreNodesInRange rest → AreNodesInRange later)
    → AreNodesInRange (script_layer layer rest) → AreNodesInRange (script_layer layer later)
layer_in_range (Written tag kind props label children) rest later go h = (h.0, h.1, go h.2)
layer_in_range (Kept tag change None) rest later go h = (h.0, h.1, go h.2)
layer_in_range (Kept tag change (Some children)) rest later go h = (h.0, h.1, h.2, go h.3)

-- a script node in range stays so in front of others that are
front_in_range : (node : ScriptNode) (rest later : ScriptForest) → (AreNodesInRange rest → AreNodesInRange later)
    → AreNodesInRange (in_front node rest) → AreNodesInRange (in_front node later)
front_in_range node rest later go h =
    let out = fold_out-ScriptNode (ScriptForest → ScriptForest) script_layer node in
    subst (λ f. AreNodesInRange (f later)) (sym out) (layer_in_range _ rest later go (subst (λ f. AreNodesInRange (f rest)) out h))

-- one more at the end
pub in_range_pushed : (nodes : List ScriptNode) (new : ScriptNode) → AreNodesInRange (script_forest nodes) → AreNodesInRange (in_front new no_more)
    → AreNodesInRange (script_forest (nodes ++ new ∷ []))
in_range_pushed [] new h n = n
in_range_pushed (node ∷ nodes) new h n =
    front_in_range node (script_forest nodes) (script_forest (nodes ++ new ∷ [])) (λ rest. in_range_pushed nodes new rest n) h
