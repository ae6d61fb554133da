-- What holds of each node of a forest, and of the forests that script nodes name.
use Rattle.std.proofs.Common.{◌≡◌, ℕ, List, [], ◌∷◌, ◌++◌, true, false, cond, map, Option, Some, None, nat_eq, refl, sym, ◌∙◌}
use Rattle.std.specs.List.{AllByRecursion}
use Rattle.std.specs.Option.{option_or}
use Rattle.std.proofs.lemmas.List.{map-append}
use Rattle.shadow_node.specs.declared.NodeEdit.{NodeEdit}
use Rattle.shadow_node.specs.Forest.{PlainForest, PlainNode, none, node, preorder}
use Rattle.shadow_node.specs.Fields.{NodeFields, tags_of}
use Rattle.shadow_node.specs.Find.{first_with}
use Rattle.shadow_node.specs.Edit.{edited}
use Rattle.shadow_node.proofs.Maps.{AllFields}
use Rattle.tree_build.specs.Script.{ScriptForest, no_more, written, kept, kept_with}
use Rattle.tree_build.specs.Resolved.{edited_by, kept_node, kept_node_with, resolved}
use Rattle.shadow_node.specs.InRange.{IsTagInRange}
use Rattle.tree_build.specs.InRange.{AreNodesInRange}
use Rattle.tree_revision.specs.Revisions.{edited_at}

-- what holds of each in both parts holds of each in the whole
each_of_parts : {X : Type 0} (P : X → Type 0) (xs ys : List X) → AllByRecursion P xs → AllByRecursion P ys → AllByRecursion P (xs ++ ys)
each_of_parts P [] ys h k = k
each_of_parts P (x ∷ xs) ys h k = (h.0, each_of_parts P xs ys h.1 k)

-- what holds of each node holds of each in preorder
pub in_preorder : {A : Type 0} (P : A → Type 0) (forest : PlainForest A) → AllFields P forest → AllByRecursion P (preorder forest)
in_preorder P none h = tt
in_preorder P (node fields children siblings) h =
    (h.0, each_of_parts P (preorder children) (preorder siblings) (in_preorder P children h.1) (in_preorder P siblings h.2))

-- what holds of each node's tag holds of each tag
pub of_tags : (P : ℕ → Type 0) (nodes : List NodeFields) → AllByRecursion (λ fields. P fields.tag) nodes → AllByRecursion P (map (λ fields. fields.tag) nodes)
of_tags P [] h = tt
of_tags P (fields ∷ others) h = (h.0, of_tags P others h.1)

-- what holds of a found node and of those below it
abbrev pub OfFound : (NodeFields → Type 0) → Option (PlainNode NodeFields) → Type 0
OfFound P None = Unit {0}
OfFound P (Some tree) = P tree.fields × AllFields P tree.children

-- what holds of both answers holds of the first that is there
of_first : (P : NodeFields → Type 0) (a b : Option (PlainNode NodeFields)) → OfFound P a → OfFound P b → OfFound P (option_or a b)
of_first P None b h k = k
of_first P (Some tree) b h k = h

-- what holds of each node holds of the one that is found
pub found_in : (P : NodeFields → Type 0) (tag : ℕ) (forest : PlainForest NodeFields) → AllFields P forest → OfFound P (first_with tag forest)
found_in P tag none h = tt
found_in P tag (node fields children siblings) h =
    elim (nat_eq fields.tag tag) as (λ b. OfFound P (cond b (Some (record { fields = fields; children = children })) (option_or (first_with tag children) (first_with tag siblings)))) [
      | true ↦ (h.0, h.1)
      | false ↦ of_first P (first_with tag children) (first_with tag siblings) (found_in P tag children h.1) (found_in P tag siblings h.2)
    ]

-- a change of a node keeps its tag
tag_kept : (change : Option NodeEdit) (fields : NodeFields) → (edited_by change fields).tag ≡ fields.tag
tag_kept None fields = refl
tag_kept (Some change) fields = refl

-- a tag in range
abbrev IsInRange : NodeFields → Type 0
IsInRange fields = IsTagInRange fields.tag

-- a change of a node keeps its tag in range
range_kept : (change : Option NodeEdit) (fields : NodeFields) → IsInRange fields → IsInRange (edited_by change fields)
range_kept None fields h = h
range_kept (Some change) fields h = h

-- a kept node has its tags in range
kept_in_range : (found : Option (PlainNode NodeFields)) (change : Option NodeEdit) (siblings : PlainForest NodeFields) → OfFound IsInRange found → AllFields IsInRange siblings
    → AllFields IsInRange (kept_node found change siblings)
kept_in_range None change siblings h k = k
kept_in_range (Some tree) change siblings h k = (range_kept change tree.fields h.0, h.1, k)

-- a kept node with other children has its tags in range
kept_with_in_range : (found : Option (PlainNode NodeFields)) (change : Option NodeEdit) (children siblings : PlainForest NodeFields) → OfFound IsInRange found
    → AllFields IsInRange children → AllFields IsInRange siblings → AllFields IsInRange (kept_node_with found change children siblings)
kept_with_in_range None change children siblings h c k = k
kept_with_in_range (Some tree) change children siblings h c k = (range_kept change tree.fields h.0, c, k)

-- the tags that script nodes in range name over a forest with tags in range are in range
pub resolved_in_range : (held : PlainForest NodeFields) (nodes : ScriptForest) → AllFields IsInRange held → AreNodesInRange nodes → AllFields IsInRange (resolved held nodes)
resolved_in_range held no_more h r = tt
resolved_in_range held (written fields children siblings) h r = (r.0.tag, resolved_in_range held children h r.1, resolved_in_range held siblings h r.2)
resolved_in_range held (kept tag change siblings) h r =
    kept_in_range (first_with tag held) change (resolved held siblings) (found_in IsInRange tag held h) (resolved_in_range held siblings h r.2)
resolved_in_range held (kept_with tag change children siblings) h r =
    kept_with_in_range (first_with tag held) change (resolved held children) (resolved held siblings) (found_in IsInRange tag held h)
    (resolved_in_range held children h r.2) (resolved_in_range held siblings h r.3)

-- what a change keeps holds of each node of the forest with that change
pub edited_each : (P : NodeFields → Type 0) (tag : ℕ) (change : NodeEdit) → ((fields : NodeFields) → P fields → P (edited change fields))
    → (forest : PlainForest NodeFields) → AllFields P forest → AllFields P (edited_at tag change forest)
edited_each P tag change keeps none h = tt
edited_each P tag change keeps (node fields children siblings) h = (
  elim (nat_eq fields.tag tag) as (λ b. P (cond b (edited change fields) fields)) [ true ↦ keeps fields h.0 | false ↦ h.0 ],
  edited_each P tag change keeps children h.1,
  edited_each P tag change keeps siblings h.2,
)

-- a change keeps the tags
pub tags_edited : (tag : ℕ) (change : NodeEdit) (forest : PlainForest NodeFields) → tags_of (edited_at tag change forest) ≡ tags_of forest
tags_edited tag change none = refl
tags_edited tag change (node fields children siblings) =
    let first : (cond (nat_eq fields.tag tag) (edited change fields) fields).tag ≡ fields.tag =
    elim (nat_eq fields.tag tag) as (λ b. (cond b (edited change fields) fields).tag ≡ fields.tag) [ true ↦ refl | false ↦ refl ] in
    let tag_in = λ (fields : NodeFields). fields.tag in
    let rest : map tag_in (preorder (edited_at tag change children) ++ preorder (edited_at tag change siblings)) ≡ map tag_in (preorder children ++ preorder siblings) =
    map-append tag_in (preorder (edited_at tag change children)) (preorder (edited_at tag change siblings))
    ∙ (λ i. tags_edited tag change children i ++ tags_edited tag change siblings i)
    ∙ sym (map-append tag_in (preorder children) (preorder siblings)) in
    λ i. first i ∷ rest i

-- what holds of each in the whole holds of each in the first part
each_of_first : {X : Type 0} (P : X → Type 0) (xs ys : List X) → AllByRecursion P (xs ++ ys) → AllByRecursion P xs
each_of_first P [] ys h = tt
each_of_first P (x ∷ xs) ys h = (h.0, each_of_first P xs ys h.1)

-- and of each in the second part
each_of_second : {X : Type 0} (P : X → Type 0) (xs ys : List X) → AllByRecursion P (xs ++ ys) → AllByRecursion P ys
each_of_second P [] ys h = h
each_of_second P (x ∷ xs) ys h = each_of_second P xs ys h.1

-- what holds of each in preorder holds of each node
pub from_preorder : {A : Type 0} (P : A → Type 0) (forest : PlainForest A) → AllByRecursion P (preorder forest) → AllFields P forest
from_preorder P none h = tt
from_preorder P (node fields children siblings) h = (
  h.0,
  from_preorder P children (each_of_first P (preorder children) (preorder siblings) h.1),
  from_preorder P siblings (each_of_second P (preorder children) (preorder siblings) h.1),
)
