-- The tags of a forest, where they differ.
use Rattle.std.proofs.Common.{◌≡◌, ◌≢◌, ◌⊎◌, inl, inr, ℕ, List, [], ◌∷◌, ◌++◌, true, false, refl, ap, sym, ◌∙◌, subst}
use Rattle.std.specs.Prelude.{Option, Some, None, nat_eq, is_some}
use Rattle.std.specs.List.{AllByRecursion, IsDistinct}
use Rattle.std.proofs.lemmas.Bool.{cases_eq, eq-eqb, ne_eqb}
use Rattle.std.proofs.lemmas.List.{append_assoc, map-append}
use Rattle.shadow_node.specs.Forest.{PlainForest, none, node, preorder}
use Rattle.shadow_node.specs.Fields.{NodeFields, SettledFields, contents_of, tags_of}
use Rattle.std.specs.Option.{option_or}
use Rattle.shadow_node.specs.Find.{first_settled}

-- the tags of a forest with states and frames
abbrev pub all_tags : PlainForest SettledFields → List ℕ
all_tags forest = tags_of (contents_of forest)

-- the tags of a tree and of the forest after it
pub all_tags-node : (settled : SettledFields) (children siblings : PlainForest SettledFields)
    → all_tags (node settled children siblings) ≡ settled.fields.tag ∷ all_tags children ++ all_tags siblings
all_tags-node settled children siblings =
    ap (λ tags. settled.fields.tag ∷ tags) (map-append (λ (fields : NodeFields). fields.tag) (preorder (contents_of children)) (preorder (contents_of siblings)))

pub each_in_first : (P : ℕ → Type 0) (xs ys : List ℕ) → AllByRecursion P (xs ++ ys) → AllByRecursion P xs
each_in_first P [] ys h = tt
each_in_first P (x ∷ xs) ys h = (h.0, each_in_first P xs ys h.1)

pub each_in_second : (P : ℕ → Type 0) (xs ys : List ℕ) → AllByRecursion P (xs ++ ys) → AllByRecursion P ys
each_in_second P [] ys h = h
each_in_second P (x ∷ xs) ys h = each_in_second P xs ys h.1

pub distinct_in_first : (xs ys : List ℕ) → IsDistinct nat_eq (xs ++ ys) → IsDistinct nat_eq xs
unfolding IsDistinct
distinct_in_first [] ys d = tt
distinct_in_first (x ∷ xs) ys d = (each_in_first (λ y. nat_eq x y ≡ false) xs ys d.0, distinct_in_first xs ys d.1)

pub distinct_in_second : (xs ys : List ℕ) → IsDistinct nat_eq (xs ++ ys) → IsDistinct nat_eq ys
unfolding IsDistinct
distinct_in_second [] ys d = d
distinct_in_second (x ∷ xs) ys d = distinct_in_second xs ys d.1

-- a tag is none of those
abbrev pub IsNone : ℕ → List ℕ → Type 0
IsNone tag tags = AllByRecursion (λ other. nat_eq tag other ≡ false) tags

-- one of two answers is there
some_of_two : {A : Type 0} (a b : Option A) → is_some (option_or a b) ≡ true → (is_some a ≡ true) ⊎ (is_some b ≡ true)
some_of_two (Some x) b h = inl refl
some_of_two None b h = inr h

-- neither of two answers is there
pub none_of_two : {A : Type 0} (a b : Option A) → is_some (option_or a b) ≡ false → (is_some a ≡ false) × (is_some b ≡ false)
none_of_two (Some x) b h = cc
none_of_two None b h = (refl, h)

-- neither of two answers is there where both are not
none_from_two : {A : Type 0} (a b : Option A) → is_some a ≡ false → is_some b ≡ false → is_some (option_or a b) ≡ false
none_from_two (Some x) b h k = cc
none_from_two None b h k = k

-- where the first node has another tag, the tag is looked for below it and after it
pub found_past : (tag : ℕ) (settled : SettledFields) (children siblings : PlainForest SettledFields) → settled.fields.tag ≢ tag
    → first_settled tag (node settled children siblings) ≡ option_or (first_settled tag children) (first_settled tag siblings)
found_past tag settled children siblings other = rw (ne_eqb settled.fields.tag tag other) refl

-- a node of that tag is found
pub found_here : (tag : ℕ) (settled : SettledFields) (children siblings : PlainForest SettledFields) → settled.fields.tag ≡ tag
    → is_some (first_settled tag (node settled children siblings)) ≡ true
found_here tag settled children siblings same = rw (eq-eqb settled.fields.tag tag same) refl

-- a tag that is none of a forest's is not found
pub none_found : (tag : ℕ) (forest : PlainForest SettledFields) → IsNone tag (all_tags forest) → is_some (first_settled tag forest) ≡ false
none_found tag none h = refl
none_found tag (node settled children siblings) h =
    let each : IsNone tag (settled.fields.tag ∷ all_tags children ++ all_tags siblings) = subst (IsNone tag) (all_tags-node settled children siblings) h in
    let other : settled.fields.tag ≢ tag = λ same. let bad = eq-eqb tag settled.fields.tag (sym same) in cc (bad, each.0) in
    ap is_some (found_past tag settled children siblings other)
    ∙ none_from_two (first_settled tag children) (first_settled tag siblings)
    (none_found tag children (each_in_first _ (all_tags children) (all_tags siblings) each.1))
    (none_found tag siblings (each_in_second _ (all_tags children) (all_tags siblings) each.1))

-- a tag that is found in a forest is none of those that its tags differ from
pub found_apart : (tag : ℕ) (forest : PlainForest SettledFields) (others : List ℕ) → is_some (first_settled tag forest) ≡ true
    → IsDistinct nat_eq (all_tags forest ++ others) → IsNone tag others
unfolding IsDistinct
found_apart tag none others h d = cc
found_apart tag (node settled children siblings) others h d =
    let below = all_tags children in
    let after = all_tags siblings in
    let all : IsDistinct nat_eq (settled.fields.tag ∷ (below ++ after) ++ others) =
    subst (λ tags. IsDistinct nat_eq (tags ++ others)) (all_tags-node settled children siblings) d in
    let past : IsDistinct nat_eq (below ++ (after ++ others)) = subst (IsDistinct nat_eq) (append_assoc below after others) all.1 in
    elim (cases_eq settled.fields.tag tag) as (λ c. IsNone tag others) [
      | inl same ↦ subst (λ tag. IsNone tag others) same (each_in_second _ (below ++ after) others all.0)
      | inr other ↦ elim (some_of_two (first_settled tag children) (first_settled tag siblings) (sym (ap is_some (found_past tag settled children siblings other)) ∙ h)) as (λ c. IsNone tag others) [
        | inl in_children ↦ each_in_second _ after others (found_apart tag children (after ++ others) in_children past)
        | inr in_siblings ↦ found_apart tag siblings others in_siblings (distinct_in_second below (after ++ others) past)
      ]
    ]
