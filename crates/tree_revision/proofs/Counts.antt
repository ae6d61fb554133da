-- How many families there are.
use Rattle.std.proofs.Common.{◌≡◌, ℕ, ◌+◌, List, [], ◌∷◌, ◌++◌, length, length-append, map, Bool, true, false, cond, is_none, is_some, Option, Some, None, nat_eq, arith, refl, ap, sym, ◌∙◌}
use Rattle.std.specs.List.{AllByRecursion, IsDistinct, fold}
use Rattle.std.specs.Option.{option_map, option_or}
use Rattle.std.specs.Ordering.{nat_cmp, eq_by_cmp}
use Rattle.std.specs.Cmp.{nat_cmp_total}
use Rattle.std.specs.FinMap.{FinMap, find, get, len, from_entries, get-from_entries, len-empty, len-insert, same_map, nat_cmp-IsAntisymmetric}
use Rattle.std.proofs.lemmas.Bool.{eqb-true}
use Rattle.std.proofs.lemmas.Bool.Decides.{nat_tests}
use Rattle.std.proofs.lemmas.Map.Keys.{IsDistinct-head, IsDistinct-tail}
use Rattle.shadow_frame.specs.declared.Size.{Size}
use Rattle.native_state.specs.declared.StateCell.{StateCell}
use Rattle.native_state.specs.declared.Family.{Family}
use Rattle.shadow_kinds.specs.declared.Kind.{Kind}
use Rattle.shadow_node.specs.Forest.{preorder}
use Rattle.shadow_node.specs.Fields.{NodeFields}
use Rattle.tree_build.specs.Resolved.{resolved}
use Rattle.tree_revision.specs.Records.{PlainOp, complete, state, props, resize, stop, suspend, resume, PlainRecord}
use Rattle.tree_revision.specs.Revisions.{PlainFamily, PlainRevision, PlainRevisions, opening, kind_of_family, families_with, revision_after, revision_numbered, one_more_revision, revision_of}
use Rattle.tree_revision.proofs.Shorthands.{added_to}
use Rattle.tree_revision.specs.Stands.{family_of}
use Rattle.tree_revision.specs.Prepared.{new_nodes}
use Rattle.tree_revision.proofs.Cells.{AreFamilies}

-- equal numbers may be compared either way round
pub nat_eq-turned : (x y : ℕ) → nat_eq x y ≡ nat_eq y x
nat_eq-turned x y = grind (arith, nat_tests)

-- numbers that tie in their order are equal
pub ties-nat_eq : (x y : ℕ) → eq_by_cmp nat_cmp x y ≡ nat_eq y x
ties-nat_eq x y = grind (arith, nat_tests)

-- a family is found among the first families, or else among the others
pub kind_of_family-append : (families more : List PlainFamily) (tag : ℕ) → kind_of_family (families ++ more) tag ≡ option_or (kind_of_family families tag) (kind_of_family more tag)
kind_of_family-append [] more tag = refl
kind_of_family-append (family ∷ families) more tag =
    elim (nat_eq family.tag tag) as (λ b. cond b (Some family.kind) (kind_of_family (families ++ more) tag) ≡ option_or (cond b (Some family.kind) (kind_of_family families tag)) (kind_of_family more tag)) [
      | true ↦ refl
      | false ↦ kind_of_family-append families more tag
    ]

-- an answer, or else none, is that answer
option_or-None : {A : Type 0} (o : Option A) → option_or o None ≡ o
option_or-None None = refl
option_or-None (Some x) = refl

-- one more family with another tag makes no difference to a tag
pub kind_of_family-past : (families : List PlainFamily) (last : PlainFamily) (tag : ℕ) → nat_eq last.tag tag ≡ false → kind_of_family (families ++ last ∷ []) tag ≡ kind_of_family families tag
kind_of_family-past families last tag other =
    kind_of_family-append families (last ∷ []) tag
    ∙ ap (λ b. option_or (kind_of_family families tag) (cond b (Some last.kind) None)) other
    ∙ option_or-None (kind_of_family families tag)

-- ---- no tag has two families

-- each family's tag is none of those after it
abbrev pub AreOnce : List PlainFamily → Type 0
AreOnce [] = Unit {0}
AreOnce (family ∷ families) = (kind_of_family families family.tag ≡ None) × AreOnce families

-- what is not found first is not found later
none_of_both : {A : Type 0} (b : Bool) (x : A) (rest : Option A) → cond b (Some x) rest ≡ None → (b ≡ false) × (rest ≡ None)
none_of_both true x rest h = absurd cc
none_of_both false x rest h = (refl, h)

-- one more family with a new tag
once_push : (families : List PlainFamily) (last : PlainFamily) → kind_of_family families last.tag ≡ None → AreOnce families → AreOnce (families ++ last ∷ [])
once_push [] last none once = (refl, tt)
once_push (family ∷ families) last none once =
    let parts = none_of_both (nat_eq family.tag last.tag) family.kind (kind_of_family families last.tag) none in (
      kind_of_family-past families last family.tag (nat_eq-turned last.tag family.tag ∙ parts.0) ∙ once.0,
      once_push families last parts.1 once.1,
    )

-- a node's family is added where it is new
once_added : (families : List PlainFamily) (fields : NodeFields) (found : Option Kind) → kind_of_family families fields.tag ≡ found → AreOnce families → AreOnce (added_to families fields found)
once_added families fields None e once = once_push families (record { tag = fields.tag; kind = fields.kind }) e once
once_added families fields (Some kind) e once = once

-- the families of more nodes are added
once_with : (families : List PlainFamily) (nodes : List NodeFields) → AreOnce families → AreOnce (families_with families nodes)
once_with families [] once = once
once_with families (fields ∷ others) once =
    once_with (added_to families fields (kind_of_family families fields.tag)) others (once_added families fields (kind_of_family families fields.tag) refl once)

-- after a change
once_after : (op : PlainOp) (front held : PlainRevision) → AreOnce front.families → AreOnce (revision_after op front held).families
once_after (complete nodes) front held once = once_with front.families (preorder (resolved held.forest nodes)) once
once_after (state tag change) front held once = once
once_after (props tag change) front held once = once
once_after (resize size) front held once = once
once_after stop front held once = once
once_after suspend front held once = once
once_after resume front held once = once

-- after more changes
once_from : (revisions : PlainRevisions) (entries : List PlainRecord) → AreOnce revisions.newest.families
    → AreOnce (fold one_more_revision revisions entries).newest.families
once_from revisions [] once = once
once_from revisions (entry ∷ entries) once =
    once_from (one_more_revision revisions entry) entries (once_after entry.op revisions.newest (revision_numbered revisions entry.held) once)

-- no tag of a history has two families
pub families_once : (first : Size) (entries : List PlainRecord) → AreOnce (revision_of first entries).families
families_once first entries = once_from (record { earlier = []; newest = opening first }) entries tt

-- ---- a table of families

-- families with their cells, by their tags
abbrev entries_of : (newest : ℕ → StateCell) → List PlainFamily → List (ℕ × Family)
entries_of newest families = map (λ family. (family.tag, family_of (newest family.tag) family.kind)) families

-- a family and its cell are found by the tag
find-entries_of : (newest : ℕ → StateCell) (families : List PlainFamily) (tag : ℕ)
    → find nat_cmp tag (entries_of newest families) ≡ option_map (family_of (newest tag)) (kind_of_family families tag)
find-entries_of newest [] tag = refl
find-entries_of newest (family ∷ families) tag =
    ap (λ b. cond b (Some (family_of (newest family.tag) family.kind)) (find nat_cmp tag (entries_of newest families))) (ties-nat_eq tag family.tag)
    ∙ go (nat_eq family.tag tag) refl (find-entries_of newest families tag)
  where
    go : (b : Bool) → nat_eq family.tag tag ≡ b → find nat_cmp tag (entries_of newest families) ≡ option_map (family_of (newest tag)) (kind_of_family families tag)
        → cond b (Some (family_of (newest family.tag) family.kind)) (find nat_cmp tag (entries_of newest families))
        ≡ option_map (family_of (newest tag)) (cond b (Some family.kind) (kind_of_family families tag))
    go true here rest = ap (λ t. Some (family_of (newest t) family.kind)) (eqb-true family.tag tag here)
    go false other rest = rest

-- a table made of families has them
made_families : (newest : ℕ → StateCell) (families : List PlainFamily) → AreFamilies (from_entries (entries_of newest families)) families newest
made_families newest families = λ tag. get-from_entries nat_cmp_total (entries_of newest families) tag ∙ find-entries_of newest families tag

-- and is as long as they are, where no tag has two
made_length : (newest : ℕ → StateCell) (families : List PlainFamily) → AreOnce families → len (from_entries {R = nat_cmp} (entries_of newest families)) ≡ length families
made_length newest [] once = len-empty nat_cmp Family
made_length newest (family ∷ families) once =
    let table : FinMap nat_cmp Family = from_entries (entries_of newest families) in
    let new : get table family.tag ≡ None = made_families newest families family.tag ∙ ap (option_map (family_of (newest family.tag))) once.0 in
    len-insert nat_cmp_total table family.tag (family_of (newest family.tag) family.kind)
    ∙ ap (λ found. cond (is_some found) (len table) (len table + 1)) new
    ∙ ap (λ n. n + 1) (made_length newest families once.1)
    ∙ omega arith

-- a table of families is as long as they are
pub len-families : (table : FinMap nat_cmp Family) (families : List PlainFamily) (newest : ℕ → StateCell) → AreFamilies table families newest → AreOnce families
    → len table ≡ length families
len-families table families newest are once =
    ap len (same_map nat_cmp_total nat_cmp-IsAntisymmetric table (from_entries (entries_of newest families)) (λ tag. are tag ∙ sym (made_families newest families tag)))
    ∙ made_length newest families once

-- ---- the families of new nodes

-- the tags of some nodes are new to a table exactly where they are to families
abbrev pub AreNewAlike : FinMap nat_cmp Family → List PlainFamily → List NodeFields → Type 0
AreNewAlike table families nodes = AllByRecursion (λ fields. is_none (get table fields.tag) ≡ is_none (kind_of_family families fields.tag)) nodes

-- no answer stays no answer as it is mapped
is_none-option_map : {A B : Type 0} (f : A → B) (o : Option A) → is_none (option_map f o) ≡ is_none o
is_none-option_map f None = refl
is_none-option_map f (Some x) = refl

-- a tag is new to a table of families where it is to them
pub is_new_alike : (table : FinMap nat_cmp Family) (families : List PlainFamily) (newest : ℕ → StateCell) → AreFamilies table families newest → (tag : ℕ)
    → is_none (get table tag) ≡ is_none (kind_of_family families tag)
is_new_alike table families newest are tag = ap is_none (are tag) ∙ is_none-option_map (family_of (newest tag)) (kind_of_family families tag)

-- so are those of any nodes
pub new_alike : (table : FinMap nat_cmp Family) (families : List PlainFamily) (newest : ℕ → StateCell) → AreFamilies table families newest → (nodes : List NodeFields)
    → AreNewAlike table families nodes
new_alike table families newest are [] = tt
new_alike table families newest are (fields ∷ others) = (is_new_alike table families newest are fields.tag, new_alike table families newest are others)

-- one more family of another tag changes nothing of it
alike_past : (table : FinMap nat_cmp Family) (families : List PlainFamily) (last : PlainFamily) (nodes : List NodeFields)
    → AllByRecursion (λ tag. nat_eq last.tag tag ≡ false) (map (λ fields. fields.tag) nodes) → AreNewAlike table families nodes → AreNewAlike table (families ++ last ∷ []) nodes
alike_past table families last [] other alike = tt
alike_past table families last (fields ∷ others) other alike =
    (alike.0 ∙ ap is_none (sym (kind_of_family-past families last fields.tag other.0)), alike_past table families last others other.1 alike.1)

-- as many families come to be as there are new nodes, where the tags differ
pub length-families_with : (table : FinMap nat_cmp Family) (families : List PlainFamily) (nodes : List NodeFields) → IsDistinct nat_eq (map (λ fields. fields.tag) nodes)
    → AreNewAlike table families nodes → length families + length (new_nodes table nodes) ≡ length (families_with families nodes)
length-families_with table families [] differ alike = omega arith
length-families_with table families (fields ∷ others) differ alike =
    let other : AllByRecursion (λ tag. nat_eq fields.tag tag ≡ false) (map (λ fields. fields.tag) others) = IsDistinct-head nat_eq fields.tag (map (λ fields. fields.tag) others) differ in
    let rest = λ (families : List PlainFamily). length-families_with table families others (IsDistinct-tail nat_eq fields.tag (map (λ fields. fields.tag) others) differ) in
    counted (kind_of_family families fields.tag) refl (λ alike. rest (families ++ own ∷ []) (alike_past table families own others other alike)) (rest families)
  where
    own : PlainFamily
    own = record { tag = fields.tag; kind = fields.kind }

    counted : (found : Option Kind) → kind_of_family families fields.tag ≡ found
        → (AreNewAlike table families others → length (families ++ own ∷ []) + length (new_nodes table others) ≡ length (families_with (families ++ own ∷ []) others))
        → (AreNewAlike table families others → length families + length (new_nodes table others) ≡ length (families_with families others))
        → length families + length (cond (is_none (get table fields.tag)) (fields ∷ new_nodes table others) (new_nodes table others)) ≡ length (families_with (added_to families fields found) others)
    counted None e more same =
        ap (λ b. length families + length (cond b (fields ∷ new_nodes table others) (new_nodes table others))) (alike.0 ∙ ap is_none e)
        ∙ omega (arith, length-append families (own ∷ []))
        ∙ more alike.1
    counted (Some kind) e more same =
        ap (λ b. length families + length (cond b (fields ∷ new_nodes table others) (new_nodes table others))) (alike.0 ∙ ap is_none e) ∙ same alike.1
