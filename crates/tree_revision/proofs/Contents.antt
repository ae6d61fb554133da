-- A revision stands for at most one content.
use Rattle.std.proofs.Common.{◌≡◌, ℕ, List, [], length, refl, ap, sym, ◌∙◌}
use Rattle.std.specs.Prelude.{Option, Some, None}
use Rattle.std.specs.Option.{option_map}
use Rattle.shadow_frame.specs.declared.Size.{Size}
use Rattle.native_state.specs.declared.StateCell.{StateCell}
use Rattle.native_state.specs.declared.Family.{Family}
use Rattle.shadow_kinds.specs.declared.Kind.{Kind}
use Rattle.shadow_node.specs.Fields.{contents_of}
use Rattle.tree_revision.specs.Records.{PlainRecord}
use Rattle.tree_revision.specs.Revisions.{revision_of, kind_of_family}
use Rattle.tree_revision.specs.Newest.{newest_state}
use Rattle.tree_revision.specs.Settled.{SettledRevision, KeptRevision}
use Rattle.tree_revision.specs.Stands.{HasContentOf, StandsFor, family_of}
use Rattle.tree_revision.proofs.Families.{same_kind}
use Rattle.tree_settle.proofs.Settled.{contents_of-settled}

-- the contents of a revision are those of its history
pub contents_of-stands : (first : Size) (revision : SettledRevision) (entries : List PlainRecord) → HasContentOf first revision entries
    → contents_of revision.forest ≡ (revision_of first entries).forest
contents_of-stands first revision entries h =
    ap contents_of h.forest ∙ contents_of-settled (revision_of first entries).size (newest_state entries) [] (revision_of first entries).forest

-- two lists that a revision stands for are equally long
pub same_length : (first : Size) (revision : KeptRevision) (entries others : List PlainRecord)
    → StandsFor first revision entries → StandsFor first revision others → length entries ≡ length others
same_length first revision entries others h k = sym h.newest.number ∙ k.newest.number

-- and have one size
pub same_size : (first : Size) (revision : KeptRevision) (entries others : List PlainRecord)
    → StandsFor first revision entries → StandsFor first revision others → (revision_of first entries).size ≡ (revision_of first others).size
same_size first revision entries others h k = sym h.newest.size ∙ k.newest.size

-- and one forest
pub same_forest : (first : Size) (revision : KeptRevision) (entries others : List PlainRecord)
    → StandsFor first revision entries → StandsFor first revision others → (revision_of first entries).forest ≡ (revision_of first others).forest
same_forest first revision entries others h k =
    sym (contents_of-stands first revision.newest entries h.newest) ∙ contents_of-stands first revision.newest others k.newest

-- the code of a family's kind, and 0 where there is no family
abbrev code_in : Option Family → ℕ
code_in None = 0
code_in (Some family) = family.kind

-- families with their cells tell their kinds
same_kinds : (a b : StateCell) (x y : Option Kind) → option_map (family_of a) x ≡ option_map (family_of b) y → x ≡ y
same_kinds a b None None e = refl
same_kinds a b None (Some k) e = cc
same_kinds a b (Some j) None e = cc
same_kinds a b (Some j) (Some k) e = ap Some (same_kind j k (ap code_in e))

-- and the same families
pub same_families : (first : Size) (revision : KeptRevision) (entries others : List PlainRecord)
    → StandsFor first revision entries → StandsFor first revision others
    → (tag : ℕ) → kind_of_family (revision_of first entries).families tag ≡ kind_of_family (revision_of first others).families tag
same_families first revision entries others h k tag =
    same_kinds (newest_state entries tag) (newest_state others tag) _ _ (sym (h.newest.families tag) ∙ k.newest.families tag)
