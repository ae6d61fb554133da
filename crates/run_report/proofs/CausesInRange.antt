-- The cause of a cancel is in range, where the change and the held revision are.
use Rattle.std.proofs.Common.{◌≡◌, ℕ, Bool, true, false, cond, List, [], ◌∷◌, length, nat_eq, nat_lt, if◌then◌else◌, Option, Some, None, arith, subst}
use Rattle.std.specs.Prelude.{is_some, option_map}
use Rattle.std.specs.List.{AllByRecursion, list_any}
use Rattle.std.specs.Option.{option_or, option_and_then}
use Rattle.native_state.specs.declared.StateCell.{StateCell}
use Rattle.native_state.specs.declared.StateChange.{StateChange}
use Rattle.native_state.specs.declared.StateChange.TheVariants.{Set, Add, SetIf}
use Rattle.shadow_kinds.specs.Traits.{is_leaf_of, has_state_of}
use Rattle.shadow_node.specs.Forest.{PlainForest, PlainNode, preorder, depth_of, node_count}
use Rattle.shadow_node.specs.Fields.{NodeFields, tags_of}
use Rattle.shadow_node.specs.Find.{first_with}
use Rattle.shadow_node.specs.InRange.{IsTagInRange, AreFieldsInRange}
use Rattle.shadow_node.proofs.Maps.{AllFields}
use Rattle.tree_build.specs.Script.{ScriptForest, no_more, written, kept, kept_with}
use Rattle.tree_build.specs.Resolved.{resolved}
use Rattle.tree_build.specs.InRange.{AreNodesInRange}
use Rattle.tree_build.specs.Refusals.{unkept_in, tag_of_parent, is_kept_leaf, leaf_with_child, repeated_after, repeated, forest_refusal_of}
use Rattle.tree_build.specs.declared.builds.BuildRefusal.{BuildRefusal}
use Rattle.tree_build.specs.declared.builds.BuildRefusal.TheVariants.{Unkept, ChildOfLeaf, TwiceTag, TooDeep, TooManyNodes}
use Rattle.tree_revision.specs.Records.{PlainOp, complete, state, props, resize, stop, suspend, resume}
use Rattle.tree_revision.specs.InRange.{IsOpInRange}
use Rattle.tree_revision.specs.Revisions.{PlainFamily, PlainRevision, kind_of_family, families_with}
use Rattle.tree_revision.specs.Cancels.{cancel_for, is_other_kind, kind_changed, complete_cancel, stale, state_cancel, cancel_at}
use Rattle.tree_revision.specs.declared.record.Cancel.{Cancel}
use Rattle.tree_revision.specs.declared.record.Cancel.TheVariants.{KindChanged, FamiliesFull, NotMounted, Stateless, Stale}
use Rattle.tree_revision.proofs.Forests.{in_preorder, of_tags}
use Rattle.run_report.specs.Ranges.{IsNumber, IsCauseInRange}
use Rattle.run_report.proofs.Lists.{all_weaker}
use Rattle.run_report.proofs.RevisionsInRange.{resolved_fields}

-- a cause that may be given
abbrev MayBeCause : Option Cancel → Type 0
MayBeCause None = Unit {0}
MayBeCause (Some cause) = IsCauseInRange cause

-- a tag that may be given
abbrev MayBeTag : Option ℕ → Type 0
MayBeTag None = Unit {0}
MayBeTag (Some tag) = IsNumber tag

-- a refusal to build that may be given
abbrev MayBeRefusal : Option BuildRefusal → Type 0
MayBeRefusal refusal = MayBeCause (option_and_then cancel_for refusal)

first_cause : (a b : Option Cancel) → MayBeCause a → MayBeCause b → MayBeCause (option_or a b)
first_cause None b h k = k
first_cause (Some cause) b h k = h

first_tag : (a b : Option ℕ) → MayBeTag a → MayBeTag b → MayBeTag (option_or a b)
first_tag None b h k = k
first_tag (Some tag) b h k = h

first_refusal : (a b : Option BuildRefusal) → MayBeRefusal a → MayBeRefusal b → MayBeRefusal (option_or a b)
first_refusal None b h k = k
first_refusal (Some refusal) b h k = h

-- a tag in range is a number
tag_number : (tag : ℕ) → IsTagInRange tag → IsNumber tag
tag_number tag h = omega (arith, h.high)

-- the first kept tag that is not there
unkept_tag : (held : PlainForest NodeFields) (nodes : ScriptForest) → AreNodesInRange nodes → MayBeTag (unkept_in held nodes)
unkept_tag held no_more r = tt
unkept_tag held (written fields children siblings) r = first_tag (unkept_in held children) (unkept_in held siblings) (unkept_tag held children r.1) (unkept_tag held siblings r.2)
unkept_tag held (kept tag change siblings) r =
    first_tag (if is_some (first_with tag held) then None else Some tag) (unkept_in held siblings)
    (elim (is_some (first_with tag held)) as (λ b. MayBeTag (cond b None (Some tag))) [ true ↦ tt | false ↦ tag_number tag r.0 ]) (unkept_tag held siblings r.2)
unkept_tag held (kept_with tag change children siblings) r =
    first_tag (if is_some (first_with tag held) then None else Some tag) (option_or (unkept_in held children) (unkept_in held siblings))
    (elim (is_some (first_with tag held)) as (λ b. MayBeTag (cond b None (Some tag))) [ true ↦ tt | false ↦ tag_number tag r.0 ])
    (first_tag (unkept_in held children) (unkept_in held siblings) (unkept_tag held children r.2) (unkept_tag held siblings r.3))

-- a leaf's tag, where it is given a child
parent_tag : (is_leaf : Bool) (tag : ℕ) (children : ScriptForest) → IsTagInRange tag → MayBeTag (tag_of_parent is_leaf tag children)
parent_tag false tag children h = tt
parent_tag true tag no_more h = tt
parent_tag true tag (written fields children siblings) h = tag_number tag h
parent_tag true tag (kept other change siblings) h = tag_number tag h
parent_tag true tag (kept_with other change children siblings) h = tag_number tag h

-- the first leaf that is given a child
leaf_tag : (held : PlainForest NodeFields) (nodes : ScriptForest) → AreNodesInRange nodes → MayBeTag (leaf_with_child held nodes)
leaf_tag held no_more r = tt
leaf_tag held (written fields children siblings) r =
    first_tag (tag_of_parent (is_leaf_of fields.kind) fields.tag children) (option_or (leaf_with_child held children) (leaf_with_child held siblings))
    (parent_tag (is_leaf_of fields.kind) fields.tag children r.0.tag)
    (first_tag (leaf_with_child held children) (leaf_with_child held siblings) (leaf_tag held children r.1) (leaf_tag held siblings r.2))
leaf_tag held (kept tag change siblings) r = leaf_tag held siblings r.2
leaf_tag held (kept_with tag change children siblings) r =
    first_tag (tag_of_parent (is_kept_leaf (first_with tag held)) tag children) (option_or (leaf_with_child held children) (leaf_with_child held siblings))
    (parent_tag (is_kept_leaf (first_with tag held)) tag children r.0)
    (first_tag (leaf_with_child held children) (leaf_with_child held siblings) (leaf_tag held children r.2) (leaf_tag held siblings r.3))

-- the first tag that repeats an earlier one
repeated_tag : (earlier tags : List ℕ) → AllByRecursion IsNumber tags → MayBeTag (repeated_after earlier tags)
repeated_tag earlier [] h = tt
repeated_tag earlier (tag ∷ tags) h =
    let later = repeated_tag (tag ∷ earlier) tags h.1 in
    elim (list_any (nat_eq tag) earlier) as (λ b. MayBeTag (cond b (Some tag) (repeated_after (tag ∷ earlier) tags))) [ true ↦ h.0 | false ↦ later ]

unkept_refusal : (tag : Option ℕ) → MayBeTag tag → MayBeRefusal (option_map (λ tag. Unkept tag) tag)
unkept_refusal None h = tt
unkept_refusal (Some tag) h = h

leaf_refusal : (tag : Option ℕ) → MayBeTag tag → MayBeRefusal (option_map (λ tag. ChildOfLeaf tag) tag)
leaf_refusal None h = tt
leaf_refusal (Some tag) h = h

twice_refusal : (tag : Option ℕ) → MayBeTag tag → MayBeRefusal (option_map (λ tag. TwiceTag tag) tag)
twice_refusal None h = tt
twice_refusal (Some tag) h = h

-- a forest that is too large
large_refusal : (deep many : Bool) → MayBeRefusal (cond deep (Some TooDeep) (cond many (Some TooManyNodes) None))
large_refusal true many = tt
large_refusal false true = tt
large_refusal false false = tt

-- the first node of another kind than its family
kind_cause : (families : List PlainFamily) (nodes : List NodeFields) → AllByRecursion AreFieldsInRange nodes → MayBeCause (kind_changed families nodes)
kind_cause families [] h = tt
kind_cause families (fields ∷ others) h =
    let later = kind_cause families others h.1 in
    elim (is_other_kind fields.kind (kind_of_family families fields.tag)) as (λ b. MayBeCause (cond b (Some (KindChanged fields.tag)) (kind_changed families others))) [
      | true ↦ tag_number fields.tag h.0.tag
      | false ↦ later
    ]

-- why a complete is cancelled
complete_cause : (nodes : ScriptForest) (front held : PlainRevision) → AllFields AreFieldsInRange held.forest → AreNodesInRange nodes
    → MayBeCause (complete_cancel nodes front held)
complete_cause nodes front held h r =
    let forest = resolved held.forest nodes in
    let named = in_preorder AreFieldsInRange forest (resolved_fields held.forest nodes h r) in
    let tags : AllByRecursion IsNumber (tags_of forest) =
    of_tags IsNumber (preorder forest) (all_weaker AreFieldsInRange (λ fields. IsNumber fields.tag) (λ fields f. tag_number fields.tag f.tag) (preorder forest) named) in
    let built =
    first_refusal (option_map (λ tag. Unkept tag) (unkept_in held.forest nodes)) _ (unkept_refusal (unkept_in held.forest nodes) (unkept_tag held.forest nodes r))
    (first_refusal (option_map (λ tag. ChildOfLeaf tag) (leaf_with_child held.forest nodes)) (forest_refusal_of forest) (leaf_refusal (leaf_with_child held.forest nodes) (leaf_tag held.forest nodes r))
    (first_refusal (option_map (λ tag. TwiceTag tag) (repeated (tags_of forest))) _ (twice_refusal (repeated (tags_of forest)) (repeated_tag [] (tags_of forest) tags))
    (large_refusal (nat_lt 48 (depth_of forest)) (nat_lt 2000 (node_count forest))))) in
    first_cause _ _ built
    (first_cause (kind_changed front.families (preorder forest)) _ (kind_cause front.families (preorder forest) named)
    (elim (nat_lt 4096 (length (families_with front.families (preorder forest)))) as (λ b. MayBeCause (cond b (Some FamiliesFull) None)) [ true ↦ tt | false ↦ tt ]))

-- why a change of a state is cancelled
stale_cause : (tag : ℕ) (change : StateChange) (cell : StateCell) → IsTagInRange tag → IsNumber cell.count → MayBeCause (stale tag change cell)
stale_cause tag (Set point) cell h c = tt
stale_cause tag (Add by) cell h c = tt
stale_cause tag (SetIf count point) cell h c =
    elim (nat_eq count cell.count) as (λ b. MayBeCause (cond b None (Some (Stale tag cell.count)))) [ true ↦ tt | false ↦ (tag_number tag h, c) ]

state_cause : (tag : ℕ) (change : StateChange) (cell : StateCell) (found : Option (PlainNode NodeFields)) → IsTagInRange tag → IsNumber cell.count
    → MayBeCause (state_cancel tag change cell found)
state_cause tag change cell None h c = tag_number tag h
state_cause tag change cell (Some tree) h c =
    elim (has_state_of tree.fields.kind) as (λ b. MayBeCause (cond b (stale tag change cell) (Some (Stateless tag)))) [
      | true ↦ stale_cause tag change cell h c
      | false ↦ tag_number tag h
    ]

-- why a change of props is cancelled
props_cause : (tag : ℕ) (found : Bool) → IsTagInRange tag → MayBeCause (cond found None (Some (NotMounted tag)))
props_cause tag true h = tt
props_cause tag false h = tag_number tag h

-- why a change is cancelled
any_cause : (op : PlainOp) (front held : PlainRevision) (newest : ℕ → StateCell) → IsOpInRange op → AllFields AreFieldsInRange held.forest
    → ((tag : ℕ) → IsNumber (newest tag).count) → MayBeCause (cancel_at op front held newest)
any_cause (complete nodes) front held newest r h c = complete_cause nodes front held h r
any_cause (state tag change) front held newest r h c = state_cause tag change (newest tag) (first_with tag front.forest) r (c tag)
any_cause (props tag change) front held newest r h c = props_cause tag (is_some (first_with tag front.forest)) r.0
any_cause (resize size) front held newest r h c = tt
any_cause stop front held newest r h c = tt
any_cause suspend front held newest r h c = tt
any_cause resume front held newest r h c = tt

-- the cause of a cancel
pub cause_in_range : (op : PlainOp) (front held : PlainRevision) (newest : ℕ → StateCell) (cause : Cancel) → IsOpInRange op → AllFields AreFieldsInRange held.forest
    → ((tag : ℕ) → IsNumber (newest tag).count) → cancel_at op front held newest ≡ Some cause → IsCauseInRange cause
cause_in_range op front held newest cause r h c is = subst MayBeCause is (any_cause op front held newest r h c)
