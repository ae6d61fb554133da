-- The families of the nodes of a forest.
use Rattle.std.proofs.Common.{◌≡◌, inl, inr, ℕ, List, [], ◌∷◌, Bool, true, false, cond, map, Option, Some, None, nat_eq, ◌⊎◌, arith, refl, ap, sym, ◌∙◌, ◌++◌}
use Rattle.std.specs.List.{AllByRecursion, IsDistinct, list_any}
use Rattle.std.specs.Option.{option_or, option_map, option_and_then}
use Rattle.std.proofs.lemmas.Bool.{cases_Bool, eq-eqb, eqb-true, both_ways, or_parts}
use Rattle.std.proofs.lemmas.Bool.Decides.{nat_tests}
use Rattle.std.proofs.lemmas.Map.Keys.{IsDistinct-head, IsDistinct-tail, IsDistinct-cons}
use Rattle.shadow_kinds.specs.declared.Kind.{Kind}
use Rattle.shadow_kinds.specs.declared.Kind.TheVariants.{View, Text, Image, Scroll, Input}
use Rattle.shadow_kinds.specs.Words.{code_of}
use Rattle.shadow_node.specs.Fields.{NodeFields}
use Rattle.tree_build.specs.Refusals.{repeated_after, repeated}
use Rattle.tree_build.specs.declared.builds.BuildRefusal.{BuildRefusal}
use Rattle.tree_build.specs.declared.builds.BuildRefusal.TheVariants.{Unkept, ChildOfLeaf, TwiceTag}
use Rattle.tree_revision.specs.Revisions.{PlainFamily, kind_of_family, families_with}
use Rattle.tree_revision.proofs.Shorthands.{added_to}
use Rattle.tree_revision.specs.declared.record.Cancel.TheVariants.{KindChanged}
use Rattle.tree_revision.specs.Cancels.{cancel_for, is_other_kind, kind_changed}

-- kinds with one number are one kind
pub same_kind : (a b : Kind) → code_of a ≡ code_of b → a ≡ b
same_kind View View e = refl
same_kind Text Text e = refl
same_kind Image Image e = refl
same_kind Scroll Scroll e = refl
same_kind Input Input e = refl
same_kind _ _ e = absurd (omega arith)

-- a family of no other kind has that kind
kind_of_own : (kind was : Kind) (family : Option Kind) → is_other_kind kind family ≡ false → family ≡ Some was → kind ≡ was
kind_of_own kind was family h e = go (cases_Bool (nat_eq (code_of was) (code_of kind)))
  where
    same : (cond (nat_eq (code_of was) (code_of kind)) false true) ≡ false
    same = rw e at h

    go : ◌⊎◌ (nat_eq (code_of was) (code_of kind) ≡ true) (nat_eq (code_of was) (code_of kind) ≡ false) → kind ≡ was
    go c = elim c as (λ c. kind ≡ was) [
      | inl tie ↦ sym (same_kind was kind (eqb-true (code_of was) (code_of kind) tie))
      | inr apart ↦ absurd (both_ways _ same (ap (λ b. cond b false true) apart))
    ]

-- the tags of nodes
abbrev tags_in : List NodeFields → List ℕ
tags_in nodes = map (λ fields. fields.tag) nodes

-- a node's own family
abbrev family_of : NodeFields → PlainFamily
family_of fields = record { tag = fields.tag; kind = fields.kind }

-- a family is found as before where one more comes last
found_before : (families : List PlainFamily) (last : PlainFamily) (tag : ℕ) (kind : Kind) → kind_of_family families tag ≡ Some kind → kind_of_family (families ++ last ∷ []) tag ≡ Some kind
found_before [] last tag kind e = absurd cc
found_before (family ∷ families) last tag kind e =
    elim (cases_Bool (nat_eq family.tag tag)) as (λ c. kind_of_family (family ∷ families ++ last ∷ []) tag ≡ Some kind) [
      | inl here ↦
          ap (λ b. cond b (Some family.kind) (kind_of_family (families ++ last ∷ []) tag)) here
          ∙ (ap (λ b. cond b (Some family.kind) (kind_of_family families tag)) (sym here) ∙ e)
      | inr other ↦
          ap (λ b. cond b (Some family.kind) (kind_of_family (families ++ last ∷ []) tag)) other
          ∙ found_before families last tag kind (ap (λ b. cond b (Some family.kind) (kind_of_family families tag)) (sym other) ∙ e)
    ]

-- one more family with another tag makes no difference to a tag
found_past : (families : List PlainFamily) (last : PlainFamily) (tag : ℕ) → nat_eq last.tag tag ≡ false → kind_of_family (families ++ last ∷ []) tag ≡ kind_of_family families tag
found_past [] last tag e = ap (λ b. cond b (Some last.kind) None) e
found_past (family ∷ families) last tag e = ap (cond (nat_eq family.tag tag) (Some family.kind)) (found_past families last tag e)

-- a new family is found where none was
found_last : (families : List PlainFamily) (last : PlainFamily) → kind_of_family families last.tag ≡ None → kind_of_family (families ++ last ∷ []) last.tag ≡ Some last.kind
found_last [] last e = ap (λ b. cond b (Some last.kind) None) (eq-eqb last.tag last.tag refl)
found_last (family ∷ families) last e =
    elim (cases_Bool (nat_eq family.tag last.tag)) as (λ c. kind_of_family (family ∷ families ++ last ∷ []) last.tag ≡ Some last.kind) [
      | inl here ↦ let found : Some family.kind ≡ None = ap (λ b. cond b (Some family.kind) (kind_of_family families last.tag)) (sym here) ∙ e in absurd cc
      | inr other ↦
          ap (λ b. cond b (Some family.kind) (kind_of_family (families ++ last ∷ []) last.tag)) other
          ∙ found_last families last (ap (λ b. cond b (Some family.kind) (kind_of_family families last.tag)) (sym other) ∙ e)
    ]

-- families stay as a node is added
added_keeps : (families : List PlainFamily) (fields : NodeFields) (found : Option Kind) (tag : ℕ) (kind : Kind) → kind_of_family families tag ≡ Some kind
    → kind_of_family (added_to families fields found) tag ≡ Some kind
added_keeps families fields None tag kind e = found_before families (family_of fields) tag kind e
added_keeps families fields (Some was) tag kind e = e

-- families stay as nodes are added
pub families_stay : (families : List PlainFamily) (nodes : List NodeFields) (tag : ℕ) (kind : Kind) → kind_of_family families tag ≡ Some kind
    → kind_of_family (families_with families nodes) tag ≡ Some kind
families_stay families [] tag kind e = e
families_stay families (fields ∷ others) tag kind e =
    families_stay (added_to families fields (kind_of_family families fields.tag)) others tag kind (added_keeps families fields (kind_of_family families fields.tag) tag kind e)

-- each node is of no other kind than its family
abbrev AreOwnKinds : List PlainFamily → List NodeFields → Type 0
AreOwnKinds families nodes = AllByRecursion (λ fields. is_other_kind fields.kind (kind_of_family families fields.tag) ≡ false) nodes

-- where no node has another kind than its family, each has its family's kind
none_changed : (families : List PlainFamily) (nodes : List NodeFields) → kind_changed families nodes ≡ None → AreOwnKinds families nodes
none_changed families [] h = tt
none_changed families (fields ∷ others) h = go (is_other_kind fields.kind (kind_of_family families fields.tag)) refl h (none_changed families others)
  where
    go : (b : Bool) → is_other_kind fields.kind (kind_of_family families fields.tag) ≡ b → cond b (Some (KindChanged fields.tag)) (kind_changed families others) ≡ None
        → (kind_changed families others ≡ None → AreOwnKinds families others) → AreOwnKinds families (fields ∷ others)
    go true e h rest = absurd cc
    go false e h rest = (e, rest h)

-- nodes of other tags are of no other kind once a node is added
own_past : (families : List PlainFamily) (last : PlainFamily) (nodes : List NodeFields) → AllByRecursion (λ tag. nat_eq last.tag tag ≡ false) (tags_in nodes)
    → AreOwnKinds families nodes → AreOwnKinds (families ++ last ∷ []) nodes
own_past families last [] h k = tt
own_past families last (fields ∷ others) h k = (ap (is_other_kind fields.kind) (found_past families last fields.tag h.0) ∙ k.0, own_past families last others h.1 k.1)

-- a node that is added has its family, and the other nodes are of no other kind than theirs
record IsAdded (families after : List PlainFamily) (fields : NodeFields) (others : List NodeFields) : Type 0 where
  own : kind_of_family after fields.tag ≡ Some fields.kind
  others_own : AreOwnKinds after others

-- a node of no other kind than its family is added
added : (families : List PlainFamily) (fields : NodeFields) (others : List NodeFields) (found : Option Kind) → kind_of_family families fields.tag ≡ found
    → IsDistinct nat_eq (tags_in (fields ∷ others)) → AreOwnKinds families (fields ∷ others) → IsAdded families (added_to families fields found) fields others
added families fields others None e d h = record {
  own = found_last families (family_of fields) e;
  others_own = own_past families (family_of fields) others (IsDistinct-head nat_eq fields.tag (tags_in others) d) h.1;
}
added families fields others (Some was) e d h = record {
  own = e ∙ ap Some (sym (kind_of_own fields.kind was (kind_of_family families fields.tag) h.0 e));
  others_own = h.1;
}

-- each node of no other kind than its family has its family's kind once all are added
own_each : (families : List PlainFamily) (nodes : List NodeFields) → IsDistinct nat_eq (tags_in nodes) → AreOwnKinds families nodes
    → AllByRecursion (λ fields. kind_of_family (families_with families nodes) fields.tag ≡ Some fields.kind) nodes
own_each families [] d h = tt
own_each families (fields ∷ others) d h =
    let after = added_to families fields (kind_of_family families fields.tag) in
    let one = added families fields others (kind_of_family families fields.tag) refl d h in (
      families_stay after others fields.tag fields.kind one.own,
      own_each after others (IsDistinct-tail nat_eq fields.tag (tags_in others) d) one.others_own,
    )

-- each node's kind is that of its family, once nodes with tags that differ are added and none has another kind than its family
pub own_families : (families : List PlainFamily) (nodes : List NodeFields) → IsDistinct nat_eq (tags_in nodes) → kind_changed families nodes ≡ None
    → AllByRecursion (λ fields. kind_of_family (families_with families nodes) fields.tag ≡ Some fields.kind) nodes
own_families families nodes d h = own_each families nodes d (none_changed families nodes h)

-- a tag that is earlier than others differs from them
apart : (tag : ℕ) (earlier tags : List ℕ) → AllByRecursion (λ x. list_any (nat_eq x) (tag ∷ earlier) ≡ false) tags → AllByRecursion (λ x. nat_eq tag x ≡ false) tags
apart tag earlier [] h = tt
apart tag earlier (x ∷ tags) h =
    let first : nat_eq x tag ≡ false = (or_parts (nat_eq x tag) (list_any (nat_eq x) earlier) h.0).0 in
    let flipped : nat_eq tag x ≡ false = grind (arith, nat_tests) in
    (flipped, apart tag earlier tags h.1)

-- what is among none of the earlier tags and one more is among none of the earlier tags
not_earlier : (tag : ℕ) (earlier tags : List ℕ) → AllByRecursion (λ x. list_any (nat_eq x) (tag ∷ earlier) ≡ false) tags → AllByRecursion (λ x. list_any (nat_eq x) earlier ≡ false) tags
not_earlier tag earlier [] h = tt
not_earlier tag earlier (x ∷ tags) h = ((or_parts (nat_eq x tag) (list_any (nat_eq x) earlier) h.0).1, not_earlier tag earlier tags h.1)

-- no tags differ
pub distinct_none : IsDistinct nat_eq []
unfolding IsDistinct
distinct_none = tt

-- tags of which none is equal to an earlier one differ
none_repeated : (earlier tags : List ℕ) → repeated_after earlier tags ≡ None → IsDistinct nat_eq tags × AllByRecursion (λ x. list_any (nat_eq x) earlier ≡ false) tags
none_repeated earlier [] h = (distinct_none, tt)
none_repeated earlier (tag ∷ tags) h = go (list_any (nat_eq tag) earlier) refl h (none_repeated (tag ∷ earlier) tags)
  where
    go : (b : Bool) → list_any (nat_eq tag) earlier ≡ b → cond b (Some tag) (repeated_after (tag ∷ earlier) tags) ≡ None
        → (repeated_after (tag ∷ earlier) tags ≡ None → IsDistinct nat_eq tags × AllByRecursion (λ x. list_any (nat_eq x) (tag ∷ earlier) ≡ false) tags)
        → IsDistinct nat_eq (tag ∷ tags) × AllByRecursion (λ x. list_any (nat_eq x) earlier ≡ false) (tag ∷ tags)
    go true e h rest = absurd cc
    go false e h rest =
        let others = rest h in
        (IsDistinct-cons nat_eq tag tags (apart tag earlier tags others.1) others.0, (e, not_earlier tag earlier tags others.1))

-- tags of which none is repeated differ
pub distinct_unless_repeated : (tags : List ℕ) → repeated tags ≡ None → IsDistinct nat_eq tags
distinct_unless_repeated tags h = (none_repeated [] tags h).0

-- where nothing refuses to build, no tag is repeated
pub no_repeat : (unkept leaf twice : Option ℕ) (rest : Option BuildRefusal)
    → option_and_then cancel_for (option_or (option_map (λ tag. Unkept tag) unkept) (option_or (option_map (λ tag. ChildOfLeaf tag) leaf) (option_or (option_map (λ tag. TwiceTag tag) twice) rest))) ≡ None
    → twice ≡ None
no_repeat (Some a) leaf twice rest h = absurd cc
no_repeat None (Some b) twice rest h = absurd cc
no_repeat None None (Some c) rest h = absurd cc
no_repeat None None None rest h = refl
