-- Why a commit is cancelled: of the causes that apply, the first in their order.
use Rattle.std.specs.Prelude.{ℕ, List, [], ◌∷◌, length, take, Bool, true, false, nat_eq, nat_lt, if◌then◌else◌, Option, Some, None, is_some, option_and_then}
use Rattle.std.specs.Option.{option_or, option_map_or}
use Rattle.shadow_frame.specs.declared.Size.{Size}
use Rattle.native_state.specs.declared.StateCell.{StateCell}
use Rattle.native_state.specs.declared.StateChange.{StateChange}
use Rattle.native_state.specs.declared.StateChange.TheVariants.{SetIf}
use Rattle.shadow_kinds.specs.declared.Kind.{Kind}
use Rattle.shadow_kinds.specs.Traits.{has_state_of}
use Rattle.shadow_kinds.specs.Words.{code_of}
use Rattle.shadow_node.specs.Forest.{PlainNode, preorder}
use Rattle.shadow_node.specs.Fields.{NodeFields}
use Rattle.shadow_node.specs.Find.{first_with}
use Rattle.tree_build.specs.Script.{ScriptForest}
use Rattle.tree_build.specs.Resolved.{resolved}
use Rattle.tree_build.specs.Refusals.{build_refusal_of}
use Rattle.tree_build.specs.declared.builds.BuildRefusal.{BuildRefusal}
use Rattle.tree_build.specs.declared.builds.BuildRefusal.TheVariants.{Unkept as BuildUnkept, ChildOfLeaf as BuildChildOfLeaf, TwiceTag as BuildTwiceTag, TooDeep as BuildTooDeep, TooManyNodes as BuildTooManyNodes, Memory as BuildMemory}
use Rattle.tree_revision.specs.Records.{PlainOp, complete, state, props, PlainRecord}
use Rattle.tree_revision.specs.Revisions.{PlainFamily, PlainRevision, kind_of_family, families_with, revision_of}
use Rattle.tree_revision.specs.Newest.{newest_state}
use Rattle.tree_revision.specs.declared.record.Cancel.{Cancel}
use Rattle.tree_revision.specs.declared.record.Cancel.TheVariants.{Unkept, ChildOfLeaf, TwiceTag, TooDeep, TooManyNodes, KindChanged, FamiliesFull, NotMounted, Stateless, Stale}

-- the cause that a refusal to build is; want of memory is none
abbrev pub cancel_for : BuildRefusal → Option Cancel
cancel_for (BuildUnkept tag) = Some (Unkept tag)
cancel_for (BuildChildOfLeaf tag) = Some (ChildOfLeaf tag)
cancel_for (BuildTwiceTag tag) = Some (TwiceTag tag)
cancel_for BuildTooDeep = Some TooDeep
cancel_for BuildTooManyNodes = Some TooManyNodes
cancel_for BuildMemory = None

-- a family has another kind
abbrev pub is_other_kind : Kind → Option Kind → Bool
is_other_kind kind found = option_map_or (λ was. if nat_eq (code_of was) (code_of kind) then false else true) found false

-- the first node whose tag is that of a family of another kind
abbrev pub kind_changed : List PlainFamily → List NodeFields → Option Cancel
kind_changed families [] = None
kind_changed families (fields ∷ others) =
    if is_other_kind fields.kind (kind_of_family families fields.tag) then Some (KindChanged fields.tag) else kind_changed families others

-- why a complete is cancelled: no forest may be built, a tag has another kind than its family, or the families and the new ones are more than 4,096 together
abbrev pub complete_cancel : ScriptForest → (front held : PlainRevision) → Option Cancel
complete_cancel nodes front held =
    let named = preorder (resolved held.forest nodes) in
    option_or (option_and_then cancel_for (build_refusal_of held.forest nodes))
    (option_or (kind_changed front.families named) (if nat_lt 4096 (length (families_with front.families named)) then Some FamiliesFull else None))

-- a change that asks for a count of changes is stale where the cell has another
abbrev pub stale : ℕ → StateChange → StateCell → Option Cancel
stale tag (SetIf count point) cell = if nat_eq count cell.count then None else Some (Stale tag cell.count)
stale tag _ cell = None

-- why a change of a node's state is cancelled: the node is not mounted, its kind has no state, or the change is stale
abbrev pub state_cancel : ℕ → StateChange → StateCell → Option (PlainNode NodeFields) → Option Cancel
state_cancel tag change cell None = Some (NotMounted tag)
state_cancel tag change cell (Some tree) = if has_state_of tree.fields.kind then stale tag change cell else Some (Stateless tag)

-- why a change of a node's props is cancelled: the node is not mounted
abbrev pub props_cancel : ℕ → Option (PlainNode NodeFields) → Option Cancel
props_cancel tag found = if is_some found then None else Some (NotMounted tag)

-- why a change of the front is cancelled, by a caller that holds that revision
abbrev pub cancel_at : PlainOp → (front held : PlainRevision) → (newest : ℕ → StateCell) → Option Cancel
cancel_at (complete nodes) front held newest = complete_cancel nodes front held
cancel_at (state tag change) front held newest = state_cancel tag change (newest tag) (first_with tag front.forest)
cancel_at (props tag change) front held newest = props_cancel tag (first_with tag front.forest)
cancel_at _ front held newest = None

-- why a change is cancelled after a list of records, by a caller that holds the revision of that number; a number above the list's length counts as its length
abbrev pub cancel_of : Size → PlainOp → List PlainRecord → (held : ℕ) → Option Cancel
cancel_of first op entries held = cancel_at op (revision_of first entries) (revision_of first (take held entries)) (newest_state entries)
