-- A script node of each form, in front of its later siblings.
use Rattle.std.proofs.Common.{◌≡◌, ℕ, List, ap, sym, ◌∙◌}
use Rattle.std.specs.Prelude.{Option, Some, None}
use Rattle.prop_table.specs.Props.{PropList}
use Rattle.shadow_kinds.specs.declared.Kind.{Kind}
use Rattle.shadow_node.specs.declared.NodeEdit.{NodeEdit}
use Rattle.tree_build.specs.declared.ScriptNode.{ScriptNode, fold-roll-ScriptNode}
use Rattle.tree_build.specs.declared.ScriptNode.TheOpen as open_form
use Rattle.tree_build.specs.declared.ScriptNode.TheViews as view
use Rattle.tree_build.specs.declared.ScriptNode.TheVariants.{rolls-Written, rolls-Kept}
use Rattle.tree_build.specs.Script.{ScriptForest, written, kept, kept_with, in_front, script_layer, script_forest}

-- a written node, with its children's forest
pub front_written : (tag : ℕ) (kind : Kind) (props : PropList) (label : List ℕ) (children : List ScriptNode) (rest : ScriptForest)
    → in_front (view.Written tag kind props label children) rest
    ≡ written (record { tag = tag; kind = kind; props = props; label = label }) (script_forest children) rest
front_written tag kind props label children rest =
    ap (λ n. in_front n rest) (sym (rolls-Written tag kind props label children))
    ∙ ap (λ f. f rest) (fold-roll-ScriptNode (ScriptForest → ScriptForest) script_layer (open_form.Written tag kind props label children))

-- a kept node without children of its own
pub front_kept : (tag : ℕ) (change : Option NodeEdit) (rest : ScriptForest) → in_front (view.Kept tag change None) rest ≡ kept tag change rest
front_kept tag change rest =
    ap (λ n. in_front n rest) (sym (rolls-Kept tag change None))
    ∙ ap (λ f. f rest) (fold-roll-ScriptNode (ScriptForest → ScriptForest) script_layer (open_form.Kept tag change None))

-- a kept node with children of its own
pub front_kept_with : (tag : ℕ) (change : Option NodeEdit) (children : List ScriptNode) (rest : ScriptForest)
    → in_front (view.Kept tag change (Some children)) rest ≡ kept_with tag change (script_forest children) rest
front_kept_with tag change children rest =
    ap (λ n. in_front n rest) (sym (rolls-Kept tag change (Some children)))
    ∙ ap (λ f. f rest) (fold-roll-ScriptNode (ScriptForest → ScriptForest) script_layer (open_form.Kept tag change (Some children)))
