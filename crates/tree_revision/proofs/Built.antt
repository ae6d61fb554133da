-- The contents of a forest that is built, or changed at a tag.
use Rattle.std.proofs.Common.{◌≡◌, ℕ, true, false, cond, Option, Some, None, nat_eq, refl, ap, ◌∙◌}
use Rattle.std.specs.Option.{option_map}
use Rattle.shadow_node.specs.declared.NodeEdit.{NodeEdit}
use Rattle.shadow_node.specs.Forest.{PlainForest, PlainNode, none, node}
use Rattle.shadow_node.specs.Fields.{SettledFields, contents_of}
use Rattle.shadow_node.specs.Find.{first_settled}
use Rattle.shadow_node.specs.Edit.{edited, edited_settled}
use Rattle.shadow_node.proofs.Found.{contents_of_node, first_with-contents}
use Rattle.tree_build.specs.Script.{ScriptForest, no_more, written, kept, kept_with}
use Rattle.tree_build.specs.Resolved.{edited_by, kept_node, kept_node_with, resolved}
use Rattle.tree_build.specs.Built.{changed_by, kept_tree, kept_tree_with, built}
use Rattle.clone_path.specs.Changed.{forest_edited_at}
use Rattle.tree_revision.specs.Revisions.{edited_at}

-- a change of a node is a change of its fields
fields_changed : (change : Option NodeEdit) (settled : SettledFields) → (changed_by change settled).fields ≡ edited_by change settled.fields
fields_changed None settled = refl
fields_changed (Some change) settled = refl

-- the contents of a kept node
kept_contents : (found : Option (PlainNode SettledFields)) (change : Option NodeEdit) (siblings : PlainForest SettledFields)
    → contents_of (kept_tree found change siblings) ≡ kept_node (option_map contents_of_node found) change (contents_of siblings)
kept_contents None change siblings = refl
kept_contents (Some tree) change siblings = ap (λ fields. node fields (contents_of tree.children) (contents_of siblings)) (fields_changed change tree.fields)

-- and of one with other children
kept_with_contents : (found : Option (PlainNode SettledFields)) (change : Option NodeEdit) (children siblings : PlainForest SettledFields)
    → contents_of (kept_tree_with found change children siblings) ≡ kept_node_with (option_map contents_of_node found) change (contents_of children) (contents_of siblings)
kept_with_contents None change children siblings = refl
kept_with_contents (Some tree) change children siblings = ap (λ fields. node fields (contents_of children) (contents_of siblings)) (fields_changed change tree.fields)

-- what is built has the contents that script nodes name
pub contents_of-built : (held : PlainForest SettledFields) (nodes : ScriptForest) → contents_of (built held nodes) ≡ resolved (contents_of held) nodes
contents_of-built held no_more = refl
contents_of-built held (written fields children siblings) = λ i. node fields (contents_of-built held children i) (contents_of-built held siblings i)
contents_of-built held (kept tag change siblings) =
    kept_contents (first_settled tag held) change (built held siblings)
    ∙ (λ i. kept_node (first_with-contents tag held i) change (contents_of-built held siblings i))
contents_of-built held (kept_with tag change children siblings) =
    kept_with_contents (first_settled tag held) change (built held children) (built held siblings)
    ∙ (λ i. kept_node_with (first_with-contents tag held i) change (contents_of-built held children i) (contents_of-built held siblings i))

-- a change at a tag changes the contents there
pub contents_of-forest_edited_at : (tag : ℕ) (change : NodeEdit) (forest : PlainForest SettledFields) → contents_of (forest_edited_at tag change forest) ≡ edited_at tag change (contents_of forest)
contents_of-forest_edited_at tag change none = refl
contents_of-forest_edited_at tag change (node settled children siblings) =
    let top : (cond (nat_eq settled.fields.tag tag) (edited_settled change settled) settled).fields ≡ cond (nat_eq settled.fields.tag tag) (edited change settled.fields) settled.fields =
    elim (nat_eq settled.fields.tag tag) as (λ b. (cond b (edited_settled change settled) settled).fields ≡ cond b (edited change settled.fields) settled.fields) [ true ↦ refl | false ↦ refl ] in
    λ i. node (top i) (contents_of-forest_edited_at tag change children i) (contents_of-forest_edited_at tag change siblings i)
