-- A change of the one node of a tag.
use Rattle.std.proofs.Common.{◌≡◌, ◌≢◌, ℕ, ◌∷◌, ◌++◌, true, false, refl, ap, sym, ◌∙◌, subst}
use Rattle.std.specs.Prelude.{nat_eq, is_some}
use Rattle.std.specs.List.{AllByRecursion, IsDistinct}
use Rattle.std.proofs.lemmas.Bool.{eq-eqb, ne_eqb}
use Rattle.shadow_node.specs.declared.NodeEdit.{NodeEdit}
use Rattle.shadow_node.specs.Edit.{edited_settled}
use Rattle.shadow_node.specs.Forest.{PlainForest, none, node}
use Rattle.shadow_node.specs.Fields.{SettledFields}
use Rattle.shadow_node.specs.Find.{first_settled}
use Rattle.clone_path.specs.Changed.{forest_edited_at}
use Rattle.clone_path.proofs.Tags.{all_tags, all_tags-node, found_here, found_past, found_apart, none_found, none_of_two, distinct_in_first, distinct_in_second, each_in_first, each_in_second}

module _ (tag : ℕ) (change : NodeEdit) where
  -- without a node of the tag nothing is changed
  pub unchanged : (forest : PlainForest SettledFields) → is_some (first_settled tag forest) ≡ false → forest_edited_at tag change forest ≡ forest
  unchanged none h = refl
  unchanged (node settled children siblings) h =
      let other : settled.fields.tag ≢ tag = λ same. let here = found_here tag settled children siblings same in cc in
      let parts = none_of_two (first_settled tag children) (first_settled tag siblings) (sym (ap is_some (found_past tag settled children siblings other)) ∙ h) in
      rw (ne_eqb settled.fields.tag tag other, unchanged children parts.0, unchanged siblings parts.1) refl

  module _ (settled : SettledFields) (children siblings : PlainForest SettledFields) where
    -- the first node is the one of the tag
    pub changed_here : settled.fields.tag ≡ tag → IsDistinct nat_eq (all_tags (node settled children siblings))
        → forest_edited_at tag change (node settled children siblings) ≡ node (edited_settled change settled) children siblings
    unfolding IsDistinct
    changed_here same differ =
        let apart : IsDistinct nat_eq (settled.fields.tag ∷ all_tags children ++ all_tags siblings) = subst (IsDistinct nat_eq) (all_tags-node settled children siblings) differ in
        let each : AllByRecursion (λ other. nat_eq tag other ≡ false) (all_tags children ++ all_tags siblings) =
        subst (λ tag. AllByRecursion (λ other. nat_eq tag other ≡ false) (all_tags children ++ all_tags siblings)) same apart.0 in
        rw (
          eq-eqb settled.fields.tag tag same,
          unchanged children (none_found tag children (each_in_first _ (all_tags children) (all_tags siblings) each)),
          unchanged siblings (none_found tag siblings (each_in_second _ (all_tags children) (all_tags siblings) each)),
        ) refl

    -- the node of the tag is below the first node
    pub changed_below : settled.fields.tag ≢ tag → is_some (first_settled tag children) ≡ true → IsDistinct nat_eq (all_tags (node settled children siblings))
        → forest_edited_at tag change (node settled children siblings) ≡ node settled (forest_edited_at tag change children) siblings
    unfolding IsDistinct
    changed_below other found differ =
        let apart : IsDistinct nat_eq (settled.fields.tag ∷ all_tags children ++ all_tags siblings) = subst (IsDistinct nat_eq) (all_tags-node settled children siblings) differ in
        rw (
          ne_eqb settled.fields.tag tag other,
          unchanged siblings (none_found tag siblings (found_apart tag children (all_tags siblings) found apart.1)),
        ) refl

    -- no node of the first tree has the tag
    pub changed_past : settled.fields.tag ≢ tag → is_some (first_settled tag children) ≡ false
        → forest_edited_at tag change (node settled children siblings) ≡ node settled children (forest_edited_at tag change siblings)
    changed_past other absent = rw (ne_eqb settled.fields.tag tag other, unchanged children absent) refl

-- the tags below the first node differ, and so do those after its tree
pub differ_below : (settled : SettledFields) (children siblings : PlainForest SettledFields) → IsDistinct nat_eq (all_tags (node settled children siblings))
    → IsDistinct nat_eq (all_tags children) × IsDistinct nat_eq (all_tags siblings)
unfolding IsDistinct
differ_below settled children siblings differ =
    let apart : IsDistinct nat_eq (settled.fields.tag ∷ all_tags children ++ all_tags siblings) = subst (IsDistinct nat_eq) (all_tags-node settled children siblings) differ in
    (distinct_in_first (all_tags children) (all_tags siblings) apart.1, distinct_in_second (all_tags children) (all_tags siblings) apart.1)
