-- Lists of the values of nodes.
use Rattle.std.proofs.Common.{◌≡◌, ℕ, suc, ◌+◌, ◌<◌, ◌≤◌, List, [], ◌∷◌, ◌++◌, map, length, get_or, drop, drop-cons, add-one, refl, ap, sym, subst, ◌∙◌}
use Rattle.std.proofs.Math.ListN.{drop_of_length-le}
use Rattle.std.proofs.lemmas.List.{map-append}
use Rattle.serde_json.specs.Data.{Items, item}
use Rattle.serde_json.specs.View.{view, items_view}
use Rattle.serde_json.specs.declared.value.Value.{Value}
use Rattle.tree_build.specs.declared.ScriptNode.{ScriptNode}
use Rattle.tree_build.specs.Script.{ScriptForest, no_more, in_front, script_forest}
use Rattle.script_read.specs.Writing.{nodes_json}
use Rattle.script_read.specs.Fits.{AreLabelsText}
use Rattle.script_read.proofs.ValueLists.{items_then, items_then-pushed, items_then-none}

-- the script nodes from an index on: the one there in front of those after it
script_forest-drop : (nodes : List ScriptNode) (i : ℕ) (d : ScriptNode) → i < length nodes → d ≡ get_or nodes i d
    → script_forest (drop i nodes) ≡ in_front d (script_forest (drop (i + 1) nodes))
script_forest-drop nodes i d h e =
    let f : drop i nodes ≡ get_or nodes i d ∷ drop (suc i) nodes = drop-cons nodes i d h in rw (f, ← e, add-one) refl

-- nothing is left after the last index
script_forest-drop_end : (nodes : List ScriptNode) (i : ℕ) → length nodes ≤ i → script_forest (drop i nodes) ≡ no_more
script_forest-drop_end nodes i h =
    let e : drop i nodes ≡ [] = drop_of_length-le nodes h in rw e refl

-- one node more
pub node_pushed : (nodes : List ScriptNode) (i : ℕ) (node : ScriptNode) (vs ws : List Value) (v : Value) (whole : Items) → i < length nodes → node ≡ get_or nodes i node
    → ((rest : ScriptForest) → nodes_json (in_front node rest) ≡ item (view v) (nodes_json rest)) → ws ≡ vs ++ v ∷ []
    → items_then (map view vs) (nodes_json (script_forest (drop i nodes))) ≡ whole
    → items_then (map view ws) (nodes_json (script_forest (drop (i + 1) nodes))) ≡ whole
node_pushed nodes i node vs ws v whole within is here pushed before =
    rw (pushed, map-append view vs (v ∷ []), items_then-pushed (map view vs) (view v) (nodes_json (script_forest (drop (i + 1) nodes))), ← here (script_forest (drop (i + 1) nodes)), ← script_forest-drop nodes i node within is)
    before

-- all nodes
pub all_nodes : (nodes : List ScriptNode) (i : ℕ) (vs : List Value) (whole : Items) → length nodes ≤ i
    → items_then (map view vs) (nodes_json (script_forest (drop i nodes))) ≡ whole → items_view vs ≡ whole
all_nodes nodes i vs whole past before =
    sym (items_then-none (map view vs)) ∙ ap (λ left. items_then (map view vs) (nodes_json left)) (sym (script_forest-drop_end nodes i past)) ∙ before

-- where the labels of the nodes after the next one carry over to all, those of the next one do
pub labels_after : (nodes : List ScriptNode) (i : ℕ) (node : ScriptNode) (Whole : Type 0) → i < length nodes → node ≡ get_or nodes i node
    → ((rest : ScriptForest) → AreLabelsText rest → AreLabelsText (in_front node rest)) → (AreLabelsText (script_forest (drop i nodes)) → Whole)
    → AreLabelsText (script_forest (drop (i + 1) nodes)) → Whole
labels_after nodes i node Whole within is here before later =
    before (subst AreLabelsText (sym (script_forest-drop nodes i node within is)) (here (script_forest (drop (i + 1) nodes)) later))

-- no labels are left after the last index
pub labels_all : (nodes : List ScriptNode) (i : ℕ) (Whole : Type 0) → length nodes ≤ i → (AreLabelsText (script_forest (drop i nodes)) → Whole) → Whole
labels_all nodes i Whole past before = before (subst AreLabelsText (sym (script_forest-drop_end nodes i past)) tt)
