-- Names for parts of the definitions of revisions and causes, by which the proofs speak of them.
use Rattle.std.specs.Prelude.{ℕ, List, [], ◌∷◌, ◌++◌, length, nat_lt, if◌then◌else◌, Option, Some, None, is_some}
use Rattle.std.specs.List.{flat_map}
use Rattle.shadow_kinds.specs.declared.Kind.{Kind}
use Rattle.shadow_node.specs.Fields.{NodeFields}
use Rattle.native_state.specs.declared.StateChange.{StateChange}
use Rattle.tree_revision.specs.Records.{PlainRecord}
use Rattle.tree_revision.specs.Newest.{change_of}
use Rattle.tree_revision.specs.Revisions.{PlainFamily, families_with}
use Rattle.tree_revision.specs.declared.record.Cancel.{Cancel}
use Rattle.tree_revision.specs.declared.record.Cancel.TheVariants.{FamiliesFull}

-- families and that of a node, which comes last where it is new
abbrev pub added_to : List PlainFamily → NodeFields → Option Kind → List PlainFamily
added_to families fields found = if is_some found then families else families ++ (record { tag = fields.tag; kind = fields.kind }) ∷ []

-- the families and those of these nodes that are new are more than 4,096 together
abbrev pub families_full : List PlainFamily → List NodeFields → Option Cancel
families_full families nodes = if nat_lt 4096 (length (families_with families nodes)) then Some FamiliesFull else None

-- the changes of a family's state, in their order
abbrev pub changes_of : ℕ → List PlainRecord → List StateChange
changes_of tag entries = flat_map (λ entry. change_of tag entry.op) entries
