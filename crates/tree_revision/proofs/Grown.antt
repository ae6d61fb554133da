-- The families of the next revision, with their cells.
use Rattle.std.proofs.Common.{◌≡◌, ℕ, List, [], ◌∷◌, ◌++◌, map, Bool, true, false, cond, is_none, Option, Some, None, unwrap_or, nat_eq, refl, ap, sym, ◌∙◌, subst}
use Rattle.std.specs.List.{AllByRecursion, IsDistinct}
use Rattle.std.specs.Option.{option_map, option_or}
use Rattle.std.specs.Ordering.{nat_cmp}
use Rattle.std.specs.Cmp.{nat_cmp_total}
use Rattle.std.specs.FinMap.{FinMap, get, insert, get-insert}
use Rattle.std.proofs.lemmas.Bool.{eqb-true, eq-eqb}
use Rattle.std.proofs.lemmas.Map.Keys.{IsDistinct-head, IsDistinct-tail}
use Rattle.native_state.specs.declared.StateCell.{StateCell}
use Rattle.native_state.specs.declared.StateChange.{StateChange}
use Rattle.native_state.specs.declared.Family.{Family}
use Rattle.native_state.specs.State.{start_cell, cell_after, cell_from}
use Rattle.native_state.specs.Families.{cell_in}
use Rattle.page_map.specs.Entries.{all_added}
use Rattle.shadow_kinds.specs.declared.Kind.{Kind}
use Rattle.shadow_node.specs.Fields.{NodeFields}
use Rattle.tree_revision.specs.Revisions.{PlainFamily, kind_of_family, families_with}
use Rattle.tree_revision.proofs.Shorthands.{added_to}
use Rattle.tree_revision.specs.Stands.{family_of}
use Rattle.tree_revision.specs.Prepared.{new_nodes, first_family, families_grown}
use Rattle.tree_revision.specs.Steps.{families_changed}
use Rattle.tree_revision.proofs.Cells.{AreFamilies, StartNew}
use Rattle.tree_revision.proofs.Counts.{kind_of_family-append, kind_of_family-past, nat_eq-turned, ties-nat_eq, is_new_alike}

-- what a table has at a tag after one more family
get-insert_at : (table : FinMap nat_cmp Family) (tag : ℕ) (family : Family) (looked : ℕ) → get (insert table tag family) looked ≡ cond (nat_eq tag looked) (Some family) (get table looked)
get-insert_at table tag family looked = get-insert nat_cmp_total table tag family looked ∙ ap (λ b. cond b (Some family) (get table looked)) (ties-nat_eq looked tag)

-- ---- after a change of a family's state

-- the table after a change of the state of a tag, where it has a family
abbrev changed_table : FinMap nat_cmp Family → ℕ → StateChange → Option Family → FinMap nat_cmp Family
changed_table table tag change found = unwrap_or (option_map (λ family. insert table tag (record { kind = family.kind; cell = cell_after change family.cell })) found) table

-- what it has at that tag
changed_here : (table : FinMap nat_cmp Family) (tag : ℕ) (change : StateChange) (cell : StateCell) (found : Option Kind) → get table tag ≡ option_map (family_of cell) found
    → get (changed_table table tag change (option_map (family_of cell) found)) tag ≡ option_map (family_of (cell_after change cell)) found
changed_here table tag change cell None was = was
changed_here table tag change cell (Some kind) was =
    let family = family_of (cell_after change cell) kind in
    get-insert_at table tag family tag ∙ ap (λ b. cond b (Some family) (get table tag)) (eq-eqb tag tag refl)

-- and at another one
changed_elsewhere : (table : FinMap nat_cmp Family) (tag : ℕ) (change : StateChange) (found : Option Family) (looked : ℕ) → nat_eq tag looked ≡ false
    → get (changed_table table tag change found) looked ≡ get table looked
changed_elsewhere table tag change None looked other = refl
changed_elsewhere table tag change (Some family) looked other =
    let changed : Family = record { kind = family.kind; cell = cell_after change family.cell } in
    get-insert_at table tag changed looked ∙ ap (λ b. cond b (Some changed) (get table looked)) other

-- so the cell of each other tag stays
pub cell_in-elsewhere : (table : FinMap nat_cmp Family) (tag : ℕ) (change : StateChange) (looked : ℕ) → nat_eq looked tag ≡ false
    → cell_in table looked ≡ cell_in (families_changed tag change table) looked
cell_in-elsewhere table tag change looked other =
    ap (λ found. unwrap_or (option_map (λ family. family.cell) found) start_cell)
    (sym (changed_elsewhere table tag change (get table tag) looked (nat_eq-turned tag looked ∙ other)))

-- a change of a family's state moves its cell, and no other
pub families-changed : (table : FinMap nat_cmp Family) (families : List PlainFamily) (newest : ℕ → StateCell) (tag : ℕ) (change : StateChange) → AreFamilies table families newest
    → AreFamilies (changed_table table tag change (get table tag)) families (λ looked. cell_from (newest looked) (cond (nat_eq tag looked) (change ∷ []) []))
families-changed table families newest tag change are = λ looked.
    ap (λ found. get (changed_table table tag change found) looked) (are tag) ∙ go looked (nat_eq tag looked) refl
  where
    changed : ℕ → Option Family
    changed looked = get (changed_table table tag change (option_map (family_of (newest tag)) (kind_of_family families tag))) looked

    go : (looked : ℕ) (same : Bool) → nat_eq tag looked ≡ same
        → changed looked ≡ option_map (family_of (cell_from (newest looked) (cond same (change ∷ []) []))) (kind_of_family families looked)
    go looked true e =
        subst (λ t. changed t ≡ option_map (family_of (cell_after change (newest t))) (kind_of_family families t)) (eqb-true tag looked e)
        (changed_here table tag change (newest tag) (kind_of_family families tag) (are tag))
    go looked false e = changed_elsewhere table tag change (option_map (family_of (newest tag)) (kind_of_family families tag)) looked e ∙ are looked

-- ---- after a complete

-- nodes of other tags are new as before once a family is added
new_nodes-insert : (table : FinMap nat_cmp Family) (tag : ℕ) (family : Family) (nodes : List NodeFields) → AllByRecursion (λ other. nat_eq tag other ≡ false) (map (λ fields. fields.tag) nodes)
    → new_nodes (insert table tag family) nodes ≡ new_nodes table nodes
new_nodes-insert table tag family [] other = refl
new_nodes-insert table tag family (fields ∷ others) other =
    let here : get (insert table tag family) fields.tag ≡ get table fields.tag =
    get-insert_at table tag family fields.tag ∙ ap (λ b. cond b (Some family) (get table fields.tag)) other.0 in
    let rest = new_nodes-insert table tag family others other.1 in
    λ i. cond (is_none (here i)) (fields ∷ rest i) (rest i)

-- the first answer is none where neither is there
pub first_none : {A : Type 0} (a b : Option A) → option_or a b ≡ None → a ≡ None
first_none None b h = refl
first_none (Some x) b h = absurd cc

-- tags without a family have a new cell also once one more has a family
start_new_more : (families : List PlainFamily) (last : PlainFamily) (newest : ℕ → StateCell) → StartNew families newest → StartNew (families ++ last ∷ []) newest
start_new_more families last newest starts = λ tag missing.
    starts tag (first_none (kind_of_family families tag) (kind_of_family (last ∷ []) tag) (sym (kind_of_family-append families (last ∷ []) tag) ∙ missing))

-- one more family that is new
families_more : (table : FinMap nat_cmp Family) (families : List PlainFamily) (last : PlainFamily) (newest : ℕ → StateCell) → kind_of_family families last.tag ≡ None → StartNew families newest
    → AreFamilies table families newest → AreFamilies (insert table last.tag (family_of start_cell last.kind)) (families ++ last ∷ []) newest
families_more table families last newest missing starts are = λ tag. get-insert_at table last.tag (family_of start_cell last.kind) tag ∙ go tag (nat_eq last.tag tag) refl
  where
    go : (tag : ℕ) (same : Bool) → nat_eq last.tag tag ≡ same
        → cond same (Some (family_of start_cell last.kind)) (get table tag) ≡ option_map (family_of (newest tag)) (kind_of_family (families ++ last ∷ []) tag)
    go tag true e =
        let none_yet : kind_of_family families tag ≡ None = subst (λ t. kind_of_family families t ≡ None) (eqb-true last.tag tag e) missing in
        ap (λ cell. Some (family_of cell last.kind)) (sym (starts tag none_yet))
        ∙ sym (ap (option_map (family_of (newest tag)))
        (kind_of_family-append families (last ∷ []) tag ∙ (λ i. option_or (none_yet i) (cond (e i) (Some last.kind) None))))
    go tag false e = are tag ∙ ap (option_map (family_of (newest tag))) (sym (kind_of_family-past families last tag e))

-- the families of new nodes are added, each with a new cell
pub families-grown : (table : FinMap nat_cmp Family) (families : List PlainFamily) (newest : ℕ → StateCell) (nodes : List NodeFields) → IsDistinct nat_eq (map (λ fields. fields.tag) nodes)
    → StartNew families newest → AreFamilies table families newest → AreFamilies (families_grown table nodes) (families_with families nodes) newest
families-grown table families newest [] differ starts are = are
families-grown table families newest (fields ∷ others) differ starts are =
    let tags = map (λ (fields : NodeFields). fields.tag) others in
    let more = insert table fields.tag (family_of start_cell fields.kind) in
    let rest = IsDistinct-tail nat_eq fields.tag tags differ in
    go (kind_of_family families fields.tag) refl
    (λ e. families-grown more (families ++ own ∷ []) newest others rest (start_new_more families own newest starts) (families_more table families own newest e starts are))
    (families-grown table families newest others rest starts are)
  where
    own : PlainFamily
    own = record { tag = fields.tag; kind = fields.kind }

    is_new : is_none (get table fields.tag) ≡ is_none (kind_of_family families fields.tag)
    is_new = is_new_alike table families newest are fields.tag

    after : Bool → FinMap nat_cmp Family
    after new = all_added table (map first_family (cond new (fields ∷ new_nodes table others) (new_nodes table others)))

    go : (found : Option Kind) → kind_of_family families fields.tag ≡ found
        → (kind_of_family families fields.tag ≡ None → AreFamilies (families_grown (insert table fields.tag (family_of start_cell fields.kind)) others) (families_with (families ++ own ∷ []) others) newest)
        → AreFamilies (families_grown table others) (families_with families others) newest
        → AreFamilies (after (is_none (get table fields.tag))) (families_with (added_to families fields found) others) newest
    go None e more same =
        let kept = new_nodes-insert table fields.tag (family_of start_cell fields.kind) others (IsDistinct-head nat_eq fields.tag (map (λ fields. fields.tag) others) differ) in
        subst (λ new. AreFamilies (after new) (families_with (families ++ own ∷ []) others) newest) (sym (is_new ∙ ap is_none e))
        (subst (λ nodes. AreFamilies (all_added (insert table fields.tag (family_of start_cell fields.kind)) (map first_family nodes)) (families_with (families ++ own ∷ []) others) newest) kept (more e))
    go (Some kind) e more same = subst (λ new. AreFamilies (after new) (families_with families others) newest) (sym (is_new ∙ ap is_none e)) same
