-- What is built of a script node and of those that follow it.
use Rattle.std.proofs.Common.{◌≡◌, ℕ, suc, ◌+◌, ◌<◌, ◌≤◌, List, [], ◌∷◌, length, get_or, drop, drop-cons, add-one, true, false, Bool, refl, ap, subst, sym, ◌∙◌}
use Rattle.std.specs.Prelude.{Some, None}
use Rattle.std.proofs.Math.ListN.{drop_of_length-le}
use Rattle.prop_table.specs.Props.{PropList}
use Rattle.shadow_kinds.specs.declared.Kind.{Kind}
use Rattle.shadow_kinds.specs.Traits.{is_leaf_of}
use Rattle.shadow_node.specs.Forest.{PlainForest}
use Rattle.shadow_node.specs.Fields.{SettledFields}
use Rattle.shadow_node.specs.Falls.{Shared, trees_of, forest_at}
use Rattle.shadow_node.specs.Sound.{FitsLeaf}
use Rattle.shadow_node.proofs.Trees.{trees_before, trees_before-none}
use Rattle.tree_build.specs.declared.ScriptNode.{ScriptNode, fold_out-ScriptNode}
use Rattle.tree_build.specs.declared.ScriptNode.TheOpen.{ScriptNode-F, Written, Kept}
use Rattle.tree_build.specs.declared.ScriptNode.TheViews as view
use Rattle.tree_build.proofs.Fronts.{front_written}
use Rattle.tree_build.specs.Script.{ScriptForest, no_more, written, kept, kept_with, in_front, script_layer, script_forest}
use Rattle.tree_build.specs.Refusals.{tag_of_parent}
use Rattle.tree_build.specs.Buildable.{AreBuildable}
use Rattle.tree_build.specs.Built.{built}

layer_parts : (held : PlainForest SettledFields) (layer : ScriptNode-F (ScriptForest → ScriptForest)) (rest : ScriptForest)
    → AreBuildable held (script_layer layer rest) → AreBuildable held (script_layer layer no_more) × AreBuildable held rest
layer_parts held (Written tag kind props label children) rest h = ((h.0, h.1, h.2, tt), h.3)
layer_parts held (Kept tag change None) rest h = ((h.0, h.1, tt), h.2)
layer_parts held (Kept tag change (Some children)) rest h = ((h.0, h.1, h.2, tt), h.3)

-- what holds of a script node and of those that follow it holds of it alone, and of those
front_parts : (held : PlainForest SettledFields) (front : ScriptNode) (rest : ScriptForest)
    → AreBuildable held (in_front front rest) → AreBuildable held (in_front front no_more) × AreBuildable held rest
front_parts held front rest h =
    let out = fold_out-ScriptNode (ScriptForest → ScriptForest) script_layer front in
    let parts = layer_parts held _ rest (subst (λ f. AreBuildable held (f rest)) out h) in
    (subst (λ f. AreBuildable held (f no_more)) (sym out) parts.0, parts.1)

-- the script nodes from an index on: the one there in front of those after it
pub script_forest_left : (nodes : List ScriptNode) (i : ℕ) (d : ScriptNode) → i < length nodes → d ≡ get_or nodes i d
    → script_forest (drop i nodes) ≡ in_front d (script_forest (drop (i + 1) nodes))
script_forest_left nodes i d h e =
    let f : drop i nodes ≡ get_or nodes i d ∷ drop (suc i) nodes = drop-cons nodes i d h in rw (f, ← e, add-one) refl

-- what is left is buildable: the node there, and those after it
pub left_parts : (held : PlainForest SettledFields) (nodes : List ScriptNode) (i : ℕ) (d : ScriptNode) → i < length nodes → d ≡ get_or nodes i d
    → AreBuildable held (script_forest (drop i nodes)) → AreBuildable held (in_front d no_more) × AreBuildable held (script_forest (drop (i + 1) nodes))
left_parts held nodes i d h e b = front_parts held d (script_forest (drop (i + 1) nodes)) (subst (AreBuildable held) (script_forest_left nodes i d h e) b)

-- a leaf that is given no child gets none
fits_leaf : (held : PlainForest SettledFields) (is_leaf : Bool) (tag : ℕ) (children : ScriptForest) → tag_of_parent is_leaf tag children ≡ None
    → FitsLeaf is_leaf (built held children)
fits_leaf held false tag children h = tt
fits_leaf held true tag no_more h = tt
fits_leaf held true tag (written fields children siblings) h = absurd (cc)
fits_leaf held true tag (kept own change siblings) h = absurd (cc)
fits_leaf held true tag (kept_with own change children siblings) h = absurd (cc)

-- a written node's children, as they are built, fit its kind
pub written_fits_leaf : (held : PlainForest SettledFields) (front : ScriptNode) (tag : ℕ) (kind : Kind) (props : PropList) (label : List ℕ) (children : List ScriptNode)
    (all : PlainForest SettledFields) → front ≡ view.Written tag kind props label children → AreBuildable held (in_front front no_more)
    → all ≡ built held (script_forest children) → FitsLeaf (is_leaf_of kind) all
written_fits_leaf held front tag kind props label children all f b a =
    let form = ap (λ n. in_front n no_more) f ∙ front_written tag kind props label children no_more in
    let parts = subst (AreBuildable held) form b in
    subst (FitsLeaf (is_leaf_of kind)) (sym a) (fits_leaf held (is_leaf_of kind) tag (script_forest children) parts.1)

-- once nothing is left, the whole is the nodes so far
pub whole_at_end : (held : PlainForest SettledFields) (nodes : List ScriptNode) (i : ℕ) (all : List Shared) (whole : PlainForest SettledFields)
    → length nodes ≤ i → trees_before (trees_of all) (built held (script_forest (drop i nodes))) ≡ whole → forest_at all ≡ whole
whole_at_end held nodes i all whole h w =
    let end : drop i nodes ≡ [] = drop_of_length-le nodes h in
    sym (trees_before-none (trees_of all)) ∙ ap (λ left. trees_before (trees_of all) (built held (script_forest left))) (sym end) ∙ w
