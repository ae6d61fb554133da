-- Revisions as plain data: a commit is a function from one revision to the next.
use Rattle.std.specs.Prelude.{ℕ, List, [], ◌∷◌, ◌++◌, slice_get, nat_eq, if◌then◌else◌, Option, Some, None, is_some, unwrap_or}
use Rattle.std.specs.List.{fold}
use Rattle.shadow_frame.specs.declared.Size.{Size}
use Rattle.shadow_kinds.specs.declared.Kind.{Kind}
use Rattle.shadow_node.specs.Forest.{PlainForest, none, node, preorder}
use Rattle.shadow_node.specs.Fields.{NodeFields}
use Rattle.shadow_node.specs.declared.NodeEdit.{NodeEdit}
use Rattle.shadow_node.specs.Edit.{edited}
use Rattle.tree_build.specs.Resolved.{resolved}
use Rattle.tree_revision.specs.Records.{PlainOp, complete, props, resize, stop, PlainRecord}

-- a family: a tag, and the kind that it has for the life of the surface
abbrev pub PlainFamily : Type 0
PlainFamily = record { tag : ℕ; kind : Kind }

-- a surface's size, its forest, and the families of all tags that were ever mounted, in the order in which they came; a revision has no frames and no states of its own
abbrev pub PlainRevision : Type 0
PlainRevision = record { size : Size; forest : PlainForest NodeFields; families : List PlainFamily }

-- a surface before its first commit
abbrev pub opening : Size → PlainRevision
opening size = record { size = size; forest = none; families = [] }

-- the kind of a tag's family, where it has one
abbrev pub kind_of_family : List PlainFamily → ℕ → Option Kind
kind_of_family [] tag = None
kind_of_family (family ∷ families) tag = if nat_eq family.tag tag then Some family.kind else kind_of_family families tag

-- the families, and those of these nodes that are new, each of which comes last
abbrev pub families_with : List PlainFamily → List NodeFields → List PlainFamily
families_with families [] = families
families_with families (fields ∷ others) =
    families_with (if is_some (kind_of_family families fields.tag) then families else families ++ (record { tag = fields.tag; kind = fields.kind }) ∷ []) others

-- a forest with a change of the nodes of that tag
abbrev pub edited_at : ℕ → NodeEdit → PlainForest NodeFields → PlainForest NodeFields
edited_at tag change none = none
edited_at tag change (node fields children siblings) =
    node (if nat_eq fields.tag tag then edited change fields else fields) (edited_at tag change children) (edited_at tag change siblings)

-- the revision after a change of the front, by a caller that holds that revision; the new tags of a complete become families
abbrev pub revision_after : PlainOp → (front held : PlainRevision) → PlainRevision
revision_after (complete nodes) front held =
    record front { forest = resolved held.forest nodes; families = families_with front.families (preorder (resolved held.forest nodes)) }
revision_after (props tag change) front held = record front { forest = edited_at tag change front.forest }
revision_after (resize size) front held = record front { size = size }
revision_after stop front held = record front { forest = none }
revision_after _ front held = front

-- the revisions of a surface so far: the earlier ones in order, each at its number, and the newest
pub record PlainRevisions : Type 0 where
  pub earlier : List PlainRevision
  pub newest : PlainRevision

-- the revision of a number: that at its place among the earlier ones, and above them the newest
abbrev pub revision_numbered : PlainRevisions → ℕ → PlainRevision
revision_numbered revisions number = unwrap_or (slice_get revisions.earlier number) revisions.newest

-- the revisions and one more: what the record's change makes of the newest, by a caller that held the one of its number
abbrev pub one_more_revision : PlainRevisions → PlainRecord → PlainRevisions
one_more_revision revisions entry = record {
  earlier = revisions.earlier ++ revisions.newest ∷ [];
  newest = revision_after entry.op revisions.newest (revision_numbered revisions entry.held);
}

-- the revisions of a list of records, on a surface of that first size: before any record there is the opening one alone
abbrev pub revisions_of : Size → List PlainRecord → PlainRevisions
revisions_of first entries = fold one_more_revision (record { earlier = []; newest = opening first }) entries

-- the revision of a list of records, on a surface of that first size
abbrev pub revision_of : Size → List PlainRecord → PlainRevision
revision_of first entries = (revisions_of first entries).newest
