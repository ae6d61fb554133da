-- What holds of the tags of a revision, and of its families as more commits are admitted.
use Rattle.std.specs.Prelude.{◌≡◌, ℕ, nat_eq, Some}
use Rattle.std.specs.List.{AllByRecursion, IsDistinct}
use Rattle.shadow_kinds.specs.declared.Kind.{Kind}
use Rattle.shadow_node.specs.Forest.{preorder}
use Rattle.shadow_node.specs.Fields.{tags_of}
use Rattle.shadow_node.specs.InRange.{IsTagInRange}
use Rattle.tree_revision.specs.Revisions.{PlainRevision, kind_of_family}

-- the tags of a revision's forest differ and are in range, and each node's kind is that of its family
pub record HasSoundTags (revision : PlainRevision) : Type 0 where
  pub differ : IsDistinct nat_eq (tags_of revision.forest)
  pub in_range : AllByRecursion IsTagInRange (tags_of revision.forest)
  pub kinds : AllByRecursion (λ fields. kind_of_family revision.families fields.tag ≡ Some fields.kind) (preorder revision.forest)

-- the families of one revision are families of another one, each of the same kind
abbrev pub KeepsFamilies : (before after : PlainRevision) → Type 0
KeepsFamilies before after = (tag : ℕ) (kind : Kind) → kind_of_family before.families tag ≡ Some kind → kind_of_family after.families tag ≡ Some kind
