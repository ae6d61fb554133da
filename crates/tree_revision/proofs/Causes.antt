-- The cause of a cancel is the same over a revision as it is kept and over the plain one.
use Rattle.std.proofs.Common.{◌≡◌, ℕ, ◌+◌, List, [], ◌∷◌, length, map, true, false, cond, Option, Some, None, unwrap_or, nat_eq, nat_lt, refl, ap, ◌∙◌}
use Rattle.std.specs.List.{IsDistinct}
use Rattle.std.specs.Option.{option_map, option_or, option_and_then}
use Rattle.std.specs.Ordering.{nat_cmp}
use Rattle.std.specs.FinMap.{FinMap, len}
use Rattle.std.proofs.lemmas.Bool.{eq-eqb}
use Rattle.native_state.specs.declared.StateCell.{StateCell}
use Rattle.native_state.specs.declared.Family.{Family}
use Rattle.shadow_kinds.specs.declared.Kind.{Kind}
use Rattle.shadow_kinds.specs.Words.{code_of}
use Rattle.shadow_node.specs.Forest.{PlainForest, preorder}
use Rattle.shadow_node.specs.Fields.{NodeFields, contents_of, tags_of}
use Rattle.shadow_node.specs.Find.{first_with}
use Rattle.tree_build.specs.Script.{ScriptForest}
use Rattle.tree_build.specs.Resolved.{resolved}
use Rattle.tree_build.specs.Refusals.{build_refusal_of}
use Rattle.tree_revision.specs.declared.record.Cancel.{Cancel}
use Rattle.tree_revision.specs.declared.record.Cancel.TheVariants.{KindChanged, FamiliesFull}
use Rattle.tree_revision.specs.Records.{PlainOp, complete, state, props, resize, stop, suspend, resume}
use Rattle.tree_revision.specs.Revisions.{PlainFamily, PlainRevision, kind_of_family}
use Rattle.tree_revision.specs.Cancels.{cancel_for, is_other_kind, kind_changed, complete_cancel, state_cancel, props_cancel, cancel_at}
use Rattle.tree_revision.proofs.Shorthands.{families_full}
use Rattle.tree_revision.specs.Settled.{SettledRevision}
use Rattle.tree_revision.specs.Stands.{family_of}
use Rattle.tree_revision.specs.Prepared.{new_nodes, other_kind, too_many_families, cause_in}
use Rattle.tree_revision.proofs.Families.{distinct_unless_repeated, no_repeat}
use Rattle.tree_revision.proofs.Cells.{AreFamilies, StartNew, cell_in-families}
use Rattle.tree_revision.proofs.Counts.{AreOnce, len-families, length-families_with, new_alike}

-- the code of a family's kind differs exactly where the kind does
other_code : (kind : Kind) (cell : StateCell) (found : Option Kind) (cause : Cancel) (rest : Option Cancel)
    → cond (nat_eq (unwrap_or (option_map (λ family. family.kind) (option_map (family_of cell) found)) (code_of kind)) (code_of kind)) rest (Some cause)
    ≡ cond (is_other_kind kind found) (Some cause) rest
other_code kind cell None cause rest = ap (λ b. cond b rest (Some cause)) (eq-eqb (code_of kind) (code_of kind) refl)
other_code kind cell (Some was) cause rest =
    elim (nat_eq (code_of was) (code_of kind)) as (λ b. cond b rest (Some cause) ≡ cond (cond b false true) (Some cause) rest) [ true ↦ refl | false ↦ refl ]

-- the first node of another kind than its family is the same
other_kind-changed : (table : FinMap nat_cmp Family) (families : List PlainFamily) (newest : ℕ → StateCell) → AreFamilies table families newest → (nodes : List NodeFields)
    → other_kind table nodes ≡ kind_changed families nodes
other_kind-changed table families newest are [] = refl
other_kind-changed table families newest are (fields ∷ others) =
    ap (λ found. cond (nat_eq (unwrap_or (option_map (λ family. family.kind) found) (code_of fields.kind)) (code_of fields.kind)) (other_kind table others) (Some (KindChanged fields.tag))) (are fields.tag)
    ∙ other_code fields.kind (newest fields.tag) (kind_of_family families fields.tag) (KindChanged fields.tag) (other_kind table others)
    ∙ ap (cond (is_other_kind fields.kind (kind_of_family families fields.tag)) (Some (KindChanged fields.tag))) (other_kind-changed table families newest are others)

-- there are too many families in both, where the nodes' tags differ
too_many-full : (table : FinMap nat_cmp Family) (families : List PlainFamily) (newest : ℕ → StateCell) → AreFamilies table families newest → AreOnce families → (nodes : List NodeFields)
    → IsDistinct nat_eq (map (λ fields. fields.tag) nodes) → too_many_families table nodes ≡ families_full families nodes
too_many-full table families newest are once nodes differ =
    let count : len table + length (new_nodes table nodes) ≡ _ =
    ap (λ n. n + length (new_nodes table nodes)) (len-families table families newest are once) ∙ length-families_with table families nodes differ (new_alike table families newest are nodes) in
    ap (λ n. cond (nat_lt 4096 n) (Some FamiliesFull) None) count

-- the tags of a forest that may be built differ
pub built_tags_differ : (held : PlainForest NodeFields) (nodes : ScriptForest) → option_and_then cancel_for (build_refusal_of held nodes) ≡ None
    → IsDistinct nat_eq (tags_of (resolved held nodes))
built_tags_differ held nodes h = distinct_unless_repeated (tags_of (resolved held nodes)) (no_repeat _ _ _ _ h)

-- a complete has the same cause
complete-cause : (nodes : ScriptForest) (front : SettledRevision) (plain_front plain_held : PlainRevision) (newest : ℕ → StateCell)
    → AreFamilies front.families plain_front.families newest → AreOnce plain_front.families
    → option_or (option_and_then cancel_for (build_refusal_of plain_held.forest nodes))
    (option_or (other_kind front.families (preorder (resolved plain_held.forest nodes))) (too_many_families front.families (preorder (resolved plain_held.forest nodes))))
    ≡ complete_cancel nodes plain_front plain_held
complete-cause nodes front plain_front plain_held newest are once = go (option_and_then cancel_for (build_refusal_of plain_held.forest nodes)) refl
  where
    made : List NodeFields
    made = preorder (resolved plain_held.forest nodes)

    go : (refusal : Option Cancel) → option_and_then cancel_for (build_refusal_of plain_held.forest nodes) ≡ refusal
        → option_or refusal (option_or (other_kind front.families made) (too_many_families front.families made))
        ≡ option_or refusal (option_or (kind_changed plain_front.families made) (families_full plain_front.families made))
    go (Some cause) e = refl
    go None e =
        let same_kinds = other_kind-changed front.families plain_front.families newest are made in
        let same_counts = too_many-full front.families plain_front.families newest are once made (built_tags_differ plain_held.forest nodes e) in
        λ i. option_or (same_kinds i) (same_counts i)

-- each change has the same cause
pub cause_in-cancel_at : (op : PlainOp) (front held : SettledRevision) (plain_front plain_held : PlainRevision) (newest : ℕ → StateCell)
    → contents_of front.forest ≡ plain_front.forest → contents_of held.forest ≡ plain_held.forest
    → AreFamilies front.families plain_front.families newest → AreOnce plain_front.families → StartNew plain_front.families newest
    → cause_in op front held ≡ cancel_at op plain_front plain_held newest
cause_in-cancel_at (complete nodes) front held plain_front plain_held newest front_is held_is are once starts =
    ap (λ forest. option_or (option_and_then cancel_for (build_refusal_of forest nodes))
    (option_or (other_kind front.families (preorder (resolved forest nodes))) (too_many_families front.families (preorder (resolved forest nodes))))) held_is
    ∙ complete-cause nodes front plain_front plain_held newest are once
cause_in-cancel_at (state tag change) front held plain_front plain_held newest front_is held_is are once starts =
    let cell = cell_in-families front.families plain_front.families newest are starts tag in
    λ i. state_cancel tag change (cell i) (first_with tag (front_is i))
cause_in-cancel_at (props tag change) front held plain_front plain_held newest front_is held_is are once starts = ap (λ forest. props_cancel tag (first_with tag forest)) front_is
cause_in-cancel_at (resize size) front held plain_front plain_held newest front_is held_is are once starts = refl
cause_in-cancel_at stop front held plain_front plain_held newest front_is held_is are once starts = refl
cause_in-cancel_at suspend front held plain_front plain_held newest front_is held_is are once starts = refl
cause_in-cancel_at resume front held plain_front plain_held newest front_is held_is are once starts = refl
