-- A changed forest keeps the limits.
use Rattle.std.proofs.Common.{◌≡◌, ℕ, true, false, refl, sym, ◌∙◌, subst}
use Rattle.std.specs.Prelude.{Bool, Err, IfOk, Ok, Result, nat_eq, cond, ◌≤◌}
use Rattle.std.specs.List.{IsDistinct}
use Rattle.shadow_node.specs.declared.NodeEdit.{NodeEdit}
use Rattle.shadow_node.specs.Edit.{edited_settled}
use Rattle.shadow_node.specs.Forest.{PlainForest, none, node, node_count, depth_of}
use Rattle.shadow_node.specs.Fields.{SettledFields, contents_of}
use Rattle.shadow_node.specs.Limits.{IsForestWithin}
use Rattle.shadow_node.specs.Sound.{FitsLeaf}
use Rattle.clone_path.specs.Changed.{forest_edited_at}
use Rattle.std.specs.declared.alloc.AllocError.{AllocError}
use Rattle.clone_path.proofs.Tags.{all_tags, all_tags-node}

module _ (tag : ℕ) (change : NodeEdit) where
  -- a change is no change of a tag
  same_tag : (settled : SettledFields) (b : Bool) → (cond b (edited_settled change settled) settled).fields.tag ≡ settled.fields.tag
  same_tag settled true = refl
  same_tag settled false = refl

  same_tags : (forest : PlainForest SettledFields) → all_tags (forest_edited_at tag change forest) ≡ all_tags forest
  same_tags none = refl
  same_tags (node settled children siblings) =
      all_tags-node (cond (nat_eq settled.fields.tag tag) (edited_settled change settled) settled) (forest_edited_at tag change children) (forest_edited_at tag change siblings)
      ∙ rw (same_tag settled (nat_eq settled.fields.tag tag), same_tags children, same_tags siblings) refl
      ∙ sym (all_tags-node settled children siblings)

  same_depth : (forest : PlainForest SettledFields) → depth_of (contents_of (forest_edited_at tag change forest)) ≡ depth_of (contents_of forest)
  same_depth none = refl
  same_depth (node settled children siblings) = rw (same_depth children, same_depth siblings) refl

  same_count : (forest : PlainForest SettledFields) → node_count (contents_of (forest_edited_at tag change forest)) ≡ node_count (contents_of forest)
  same_count none = refl
  same_count (node settled children siblings) = rw (same_count children, same_count siblings) refl

  pub changed_within : (forest : PlainForest SettledFields) → IsForestWithin (contents_of forest) → IsForestWithin (contents_of (forest_edited_at tag change forest))
  changed_within forest h = record {
    differ = subst (IsDistinct nat_eq) (sym (same_tags forest)) h.differ;
    depth = subst (λ n. n ≤ 48) (sym (same_depth forest)) h.depth;
    count = subst (λ n. n ≤ 2000) (sym (same_count forest)) h.count;
  }

  -- a leaf has no children to change
  pub fits_leaf : (is_leaf : Bool) (children : PlainForest SettledFields) → FitsLeaf is_leaf children → FitsLeaf is_leaf (forest_edited_at tag change children)
  fits_leaf true none h = tt
  fits_leaf true (node settled children siblings) h = absurd h
  fits_leaf false children h = tt

-- what holds of a value holds of an answer that is it
pub if_ok_is : {A : Type 0} (P : A → Type 0) (answer : Result A AllocError) (value : A) → IfOk answer (λ given. given ≡ value) → P value → IfOk answer P
if_ok_is P (Ok given) value is holds = subst P (sym is) holds
if_ok_is P (Err error) value is holds = tt
