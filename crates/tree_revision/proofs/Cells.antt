-- The cells of families, and the newest states that they are.
use Rattle.std.proofs.Common.{◌≡◌, ℕ, List, [], ◌∷◌, ◌++◌, Bool, true, false, cond, Option, Some, None, unwrap_or, nat_eq, take, refl, ap, sym, ◌∙◌, subst, append_assoc, append-nil}
use Rattle.std.specs.Option.{option_map, option_or}
use Rattle.std.specs.Ordering.{nat_cmp}
use Rattle.std.specs.FinMap.{FinMap, get}
use Rattle.std.proofs.lemmas.Bool.{eqb-true}
use Rattle.shadow_frame.specs.declared.Size.{Size}
use Rattle.native_state.specs.Families.{cell_in}
use Rattle.native_state.specs.declared.StateCell.{StateCell}
use Rattle.native_state.specs.declared.StateChange.{StateChange}
use Rattle.native_state.specs.declared.Family.{Family}
use Rattle.native_state.specs.State.{start_cell, cell_from}
use Rattle.shadow_kinds.specs.declared.Kind.{Kind}
use Rattle.shadow_node.specs.Forest.{PlainForest, PlainNode, none, node}
use Rattle.shadow_node.specs.Fields.{NodeFields}
use Rattle.shadow_node.specs.Find.{first_with}
use Rattle.shadow_node.proofs.Maps.{AllFields}
use Rattle.tree_revision.specs.Records.{PlainOp, complete, state, props, resize, stop, suspend, resume, PlainRecord}
use Rattle.tree_revision.specs.Revisions.{PlainFamily, PlainRevision, kind_of_family, revision_of}
use Rattle.tree_revision.specs.Newest.{change_of, newest_state}
use Rattle.tree_revision.specs.Cancels.{state_cancel, cancel_at}
use Rattle.tree_revision.specs.Lawful.{MayFollow, MayAllFollow, IsLawful}
use Rattle.tree_revision.specs.Tags.{KeepsFamilies}
use Rattle.tree_revision.specs.Stands.{family_of}
use Rattle.tree_revision.proofs.Histories.{IsLawful-push, newest_state-push}
use Rattle.tree_revision.proofs.Forests.{from_preorder}
use Rattle.tree_revision.proofs.Tags.{lawful_tags, lawful_families}

-- each node has the kind of its family
abbrev AreOfFamilies : List PlainFamily → PlainForest NodeFields → Type 0
AreOfFamilies families forest = AllFields (λ fields. kind_of_family families fields.tag ≡ Some fields.kind) forest

-- a tag has a family where a node was found for it
abbrev HasFamily : List PlainFamily → ℕ → Option (PlainNode NodeFields) → Type 0
HasFamily families tag None = Unit {0}
HasFamily families tag (Some tree) = kind_of_family families tag ≡ Some tree.fields.kind

-- the first of two found nodes has a family where each has
of_first : (families : List PlainFamily) (tag : ℕ) (a b : Option (PlainNode NodeFields)) → HasFamily families tag a → HasFamily families tag b
    → HasFamily families tag (option_or a b)
of_first families tag None b h k = k
of_first families tag (Some tree) b h k = h

-- a mounted tag has a family
mounted_family : (families : List PlainFamily) (tag : ℕ) (forest : PlainForest NodeFields) → AreOfFamilies families forest → HasFamily families tag (first_with tag forest)
mounted_family families tag none h = tt
mounted_family families tag (node fields children siblings) h =
    go (nat_eq fields.tag tag) refl
    (of_first families tag (first_with tag children) (first_with tag siblings) (mounted_family families tag children h.1) (mounted_family families tag siblings h.2))
  where
    later : Option (PlainNode NodeFields)
    later = option_or (first_with tag children) (first_with tag siblings)

    go : (b : Bool) → nat_eq fields.tag tag ≡ b → HasFamily families tag later
        → HasFamily families tag (cond b (Some (record { fields = fields; children = children })) later)
    go true here rest = subst (λ t. kind_of_family families t ≡ Some fields.kind) (eqb-true fields.tag tag here) h.0
    go false other rest = rest

-- a change of state is cancelled where its tag has no family
state_needs_family : (families : List PlainFamily) (tag : ℕ) (change : StateChange) (cell : StateCell) (found : Option (PlainNode NodeFields)) → HasFamily families tag found
    → state_cancel tag change cell found ≡ None → kind_of_family families tag ≡ None → ⊥
state_needs_family families tag change cell None h admitted missing = absurd cc
state_needs_family families tag change cell (Some tree) h admitted missing = let both : Some tree.fields.kind ≡ None = sym h ∙ missing in absurd cc

-- a change that nothing cancels leaves a tag without a family as it is
unchanged : (op : PlainOp) (front held : PlainRevision) (newest : ℕ → StateCell) (tag : ℕ) → AreOfFamilies front.families front.forest
    → cancel_at op front held newest ≡ None → kind_of_family front.families tag ≡ None → change_of tag op ≡ []
unchanged (complete nodes) front held newest tag kinds admitted missing = refl
unchanged (state changed change) front held newest tag kinds admitted missing = go (nat_eq changed tag) refl
  where
    go : (b : Bool) → nat_eq changed tag ≡ b → cond b (change ∷ []) [] ≡ []
    go true same =
        absurd (state_needs_family front.families changed change (newest changed) (first_with changed front.forest) (mounted_family front.families changed front.forest kinds) admitted
        (subst (λ t. kind_of_family front.families t ≡ None) (sym (eqb-true changed tag same)) missing))
    go false other = refl
unchanged (props changed change) front held newest tag kinds admitted missing = refl
unchanged (resize size) front held newest tag kinds admitted missing = refl
unchanged stop front held newest tag kinds admitted missing = refl
unchanged suspend front held newest tag kinds admitted missing = refl
unchanged resume front held newest tag kinds admitted missing = refl

-- a tag that has no family had none before
none_before : (before after : PlainRevision) (tag : ℕ) → KeepsFamilies before after → kind_of_family after.families tag ≡ None → kind_of_family before.families tag ≡ None
none_before before after tag keeps missing = go (kind_of_family before.families tag) refl
  where
    go : (found : Option Kind) → kind_of_family before.families tag ≡ found → found ≡ None
    go None e = refl
    go (Some kind) e = let both : Some kind ≡ None = sym (keeps tag kind e) ∙ missing in absurd cc

-- tags without a family have the cell that a family begins with
abbrev pub StartNew : List PlainFamily → (newest : ℕ → StateCell) → Type 0
StartNew families newest = (tag : ℕ) → kind_of_family families tag ≡ None → newest tag ≡ start_cell

-- so they do after one more record that may follow
start_new_push : (first : Size) (entries : List PlainRecord) (entry : PlainRecord) → IsLawful first entries → StartNew (revision_of first entries).families (newest_state entries)
    → MayFollow first entries entry → StartNew (revision_of first (entries ++ entry ∷ [])).families (newest_state (entries ++ entry ∷ []))
start_new_push first entries entry lawful starts may = λ tag missing.
    let front = revision_of first entries in
    let keeps = lawful_families first entries (entry ∷ []) (IsLawful-push first entries entry lawful may) in
    let was : kind_of_family front.families tag ≡ None = none_before front (revision_of first (entries ++ entry ∷ [])) tag keeps missing in
    let kinds = from_preorder (λ fields. kind_of_family front.families fields.tag ≡ Some fields.kind) front.forest (lawful_tags first entries lawful).kinds in
    newest_state-push entries entry tag
    ∙ ap (cell_from (newest_state entries tag)) (unchanged entry.op front (revision_of first (take entry.held entries)) (newest_state entries) tag kinds may.admitted was)
    ∙ starts tag was

-- and after more records that may follow
start_new_from : (first : Size) (before entries : List PlainRecord) → IsLawful first before → StartNew (revision_of first before).families (newest_state before)
    → MayAllFollow first before entries → StartNew (revision_of first (before ++ entries)).families (newest_state (before ++ entries))
start_new_from first before [] lawful starts all = subst (λ l. StartNew (revision_of first l).families (newest_state l)) (sym (append-nil before)) starts
start_new_from first before (entry ∷ entries) lawful starts all =
    subst (λ l. StartNew (revision_of first l).families (newest_state l)) (append_assoc before (entry ∷ []) entries)
    (start_new_from first (before ++ entry ∷ []) entries (IsLawful-push first before entry lawful all.0) (start_new_push first before entry lawful starts all.0) all.1)

-- in a lawful history a tag that never had a family never changed its state
pub lawful_start_new : (first : Size) (entries : List PlainRecord) → IsLawful first entries → StartNew (revision_of first entries).families (newest_state entries)
lawful_start_new first entries lawful = start_new_from first [] entries tt (λ tag missing. refl) lawful

-- a table has the families of a list, each with its newest state
abbrev pub AreFamilies : FinMap nat_cmp Family → List PlainFamily → (newest : ℕ → StateCell) → Type 0
AreFamilies table families newest = (tag : ℕ) → get table tag ≡ option_map (family_of (newest tag)) (kind_of_family families tag)

-- each tag's cell in such a table is its newest state
pub cell_in-families : (table : FinMap nat_cmp Family) (families : List PlainFamily) (newest : ℕ → StateCell) → AreFamilies table families newest → StartNew families newest
    → (tag : ℕ) → cell_in table tag ≡ newest tag
cell_in-families table families newest are starts tag =
    ap (λ found. unwrap_or (option_map (λ family. family.cell) found) start_cell) (are tag) ∙ go (kind_of_family families tag) refl
  where
    go : (kind : Option Kind) → kind_of_family families tag ≡ kind
        → unwrap_or (option_map (λ family. family.cell) (option_map (family_of (newest tag)) kind)) start_cell ≡ newest tag
    go None e = sym (starts tag e)
    go (Some kind) e = refl
