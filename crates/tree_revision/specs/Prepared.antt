-- The revision after a change, as the code makes it: from the front and from the held revision. Only contracts inside the crate cite it.
use Rattle.std.specs.Prelude.{ℕ, ◌+◌, List, [], ◌∷◌, length, map, filter, nat_eq, nat_lt, is_none, if◌then◌else◌, Option, Some, None, option_and_then, unwrap_or}
use Rattle.std.specs.Option.{option_map, option_or}
use Rattle.std.specs.Ordering.{nat_cmp}
use Rattle.std.specs.FinMap.{FinMap, get, insert, len}
use Rattle.shadow_frame.specs.declared.Size.{Size}
use Rattle.native_state.specs.declared.Family.{Family}
use Rattle.native_state.specs.State.{start_cell, cell_after}
use Rattle.page_map.specs.Entries.{all_added}
use Rattle.native_state.specs.Families.{cell_in}
use Rattle.shadow_kinds.specs.Words.{code_of}
use Rattle.shadow_node.specs.Forest.{preorder}
use Rattle.shadow_node.specs.Fields.{NodeFields, contents_of}
use Rattle.shadow_node.specs.Find.{first_with}
use Rattle.shadow_node.specs.Frames.{settled_forest}
use Rattle.shadow_node.specs.Stamps.{StampMap}
use Rattle.tree_build.specs.Script.{ScriptForest}
use Rattle.tree_build.specs.Resolved.{resolved}
use Rattle.tree_build.specs.Refusals.{build_refusal_of}
use Rattle.tree_revision.specs.Records.{PlainOp, complete, state, props, resize, suspend, resume}
use Rattle.tree_revision.specs.Cancels.{cancel_for, state_cancel, props_cancel}
use Rattle.tree_revision.specs.ForestStamps.{AreStampsAfter}
use Rattle.tree_revision.specs.Settled.{SettledRevision, KeptRevision}
use Rattle.tree_revision.specs.Made.{forest_next}
use Rattle.tree_revision.specs.declared.record.Cancel.{Cancel}
use Rattle.tree_revision.specs.declared.record.Cancel.TheVariants.{KindChanged, FamiliesFull}

-- the nodes whose tags have no family
abbrev pub new_nodes : FinMap nat_cmp Family → List NodeFields → List NodeFields
new_nodes families nodes = filter (λ fields. is_none (get families fields.tag)) nodes

-- the family that a node's tag begins with
abbrev pub first_family : NodeFields → ℕ × Family
first_family fields = (fields.tag, record { kind = code_of fields.kind; cell = start_cell })

-- families, and those of the nodes that are new
abbrev pub families_grown : FinMap nat_cmp Family → List NodeFields → FinMap nat_cmp Family
families_grown families nodes = all_added families (map first_family (new_nodes families nodes))

-- the cause at the first node whose tag has a family of another kind
abbrev pub other_kind : FinMap nat_cmp Family → List NodeFields → Option Cancel
other_kind families [] = None
other_kind families (fields ∷ others) =
    if nat_eq (unwrap_or (option_map (λ family. family.kind) (get families fields.tag)) (code_of fields.kind)) (code_of fields.kind)
    then other_kind families others else Some (KindChanged fields.tag)

-- the cause where families and new nodes are more than 4,096 together
abbrev pub too_many_families : FinMap nat_cmp Family → List NodeFields → Option Cancel
too_many_families families nodes = if nat_lt 4096 (len families + length (new_nodes families nodes)) then Some FamiliesFull else None

-- why a complete is cancelled
abbrev pub complete_cause : ScriptForest → (front held : SettledRevision) → Option Cancel
complete_cause nodes front held =
    option_or (option_and_then cancel_for (build_refusal_of (contents_of held.forest) nodes))
    (option_or (other_kind front.families (preorder (resolved (contents_of held.forest) nodes)))
    (too_many_families front.families (preorder (resolved (contents_of held.forest) nodes))))

-- why a change is cancelled
abbrev pub cause_in : PlainOp → (front held : SettledRevision) → Option Cancel
cause_in (complete nodes) front held = complete_cause nodes front held
cause_in (state tag change) front held = state_cancel tag change (cell_in front.families tag) (first_with tag (contents_of front.forest))
cause_in (props tag change) front held = props_cancel tag (first_with tag (contents_of front.forest))
cause_in _ front held = None

-- the families of the next revision
abbrev pub families_next : PlainOp → (front held : SettledRevision) → FinMap nat_cmp Family
families_next (complete nodes) front held = families_grown front.families (preorder (resolved (contents_of held.forest) nodes))
families_next (state tag change) front held =
    unwrap_or (option_map (λ family. insert front.families tag (record { kind = family.kind; cell = cell_after change family.cell })) (get front.families tag)) front.families
families_next _ front held = front.families

-- its size
abbrev pub size_next : PlainOp → SettledRevision → Size
size_next (resize size) front = size
size_next _ front = front.size

-- the next revision, with these stamps
abbrev pub content_next : PlainOp → (front held : SettledRevision) → StampMap → SettledRevision
content_next op front held stamps = record {
  number = front.number + 1;
  size = size_next op front;
  forest = settled_forest (size_next op front) (cell_in (families_next op front held)) (contents_of (forest_next op front held));
  families = families_next op front held;
  stamps = stamps;
}

-- the stamps of the next revision are those after a commit to it
abbrev pub AreNextStamps : (front next : SettledRevision) → Type 0
AreNextStamps front next = AreStampsAfter front.forest next.forest front.stamps next.number next.stamps

-- the revision that may be mounted with the next one: a surface is suspended where it is an older one
abbrev pub mountable_next : PlainOp → (front : KeptRevision) → (next : SettledRevision) → SettledRevision
mountable_next suspend front next = front.mountable
mountable_next resume front next = next
mountable_next _ front next = if nat_lt front.mountable.number front.newest.number then front.mountable else next
