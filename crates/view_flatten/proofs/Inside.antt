-- What lies below a node, among all nodes of a forest.
use Rattle.std.proofs.Common.{◌≡◌, ◌≤◌, ℕ, List, [], ◌∷◌, ◌++◌, append-nil, map, filter, Bool, true, false, cond, ◌||◌, nat_eq, unwrap_or, Option, Some, None, refl, ap, sym, ◌∙◌, subst, inl, inr, arith}
use Rattle.std.specs.Option.{option_or}
use Rattle.std.specs.List.{AllByRecursion, IsDistinct, find, list_any}
use Rattle.std.proofs.lemmas.Bool.{both_ways, cases_Bool, or_from, or_right, eq-eqb, eqb-true, ne_eqb, false_from_ne_true}
use Rattle.std.proofs.lemmas.Bool.Decides.{nat_tests}
use Rattle.std.proofs.lemmas.Map.Keys.{IsDistinct-head, IsDistinct-tail, IsDistinct-cons}
use Rattle.std.proofs.lemmas.List.{map-append}
use Rattle.std.proofs.lemmas.List.Elements.{filter-append}
use Rattle.shadow_node.specs.Forest.{PlainForest, PlainNode, none, node}
use Rattle.shadow_node.specs.Fields.{SettledFields}
use Rattle.shadow_node.specs.Find.{first_settled}
use Rattle.shadow_node.specs.Shown.{Descendant, descendants, descendants_below}
use Rattle.view_flatten.specs.HostTree.{host_parent}
use Rattle.view_flatten.proofs.Shorthands.{is_context}
use Rattle.view_flatten.proofs.Agree.{all_kept, none_kept}
use Rattle.view_flatten.proofs.Distinct.{distinct_none, each_in_both, each_in_first, each_in_second, each_then, each_of_two}
use Rattle.view_flatten.proofs.Order.{tag_at, tags_at, not_kept}

-- a node lies below the one of that tag
abbrev pub lies_below : ℕ → Descendant → Bool
lies_below tag here = list_any (λ settled. nat_eq settled.fields.tag tag) here.above

-- the nodes of a forest that lie below the one of a tag
abbrev pub inside : PlainForest SettledFields → ℕ → List Descendant
inside forest tag = filter (lies_below tag) (descendants forest)

-- what holds of each ancestor, as a node with its own ancestors
abbrev pub Along : (Descendant → Type 0) → List SettledFields → Type 0
Along P [] = Unit {0}
Along P (settled ∷ above) = P (record { settled = settled; above = above }) × Along P above

-- what holds of each node holds of each node's ancestors
pub each_along : (P : Descendant → Type 0) (above : List SettledFields) (forest : PlainForest SettledFields) → Along P above → AllByRecursion P (descendants_below above forest)
    → AllByRecursion (λ here. Along P here.above) (descendants_below above forest)
each_along P above none h own = tt
each_along P above (node settled children siblings) h own =
    let below = descendants_below (settled ∷ above) children in
    let beside = descendants_below above siblings in (
      h,
      each_in_both (λ here. Along P here.above) below beside (each_along P (settled ∷ above) children (own.0, h) (each_in_first P below beside own.1))
          (each_along P above siblings h (each_in_second P below beside own.1)),
    )

-- below an ancestor that passes a test each node has one
pub each_below_passes : (test : SettledFields → Bool) (above : List SettledFields) (forest : PlainForest SettledFields) → list_any test above ≡ true
    → AllByRecursion (λ here. list_any test here.above ≡ true) (descendants_below above forest)
each_below_passes test above none h = tt
each_below_passes test above (node settled children siblings) h = (
  h,
  each_in_both (λ here. list_any test here.above ≡ true) (descendants_below (settled ∷ above) children) (descendants_below above siblings)
      (each_below_passes test (settled ∷ above) children (or_right (test settled) (list_any test above) h)) (each_below_passes test above siblings h),
)

-- no ancestor has a tag that none of them has
none_along : (tag : ℕ) (above : List SettledFields) → Along (λ here. nat_eq (tag_at here) tag ≡ false) above → list_any (λ settled. nat_eq settled.fields.tag tag) above ≡ false
none_along tag [] k = refl
none_along tag (settled ∷ above) k = or_from (nat_eq settled.fields.tag tag) (list_any (λ settled. nat_eq settled.fields.tag tag) above) k.0 (none_along tag above k.1)

-- where neither the ancestors nor a node has a tag, no node lies below it
none_below : (tag : ℕ) (above : List SettledFields) (forest : PlainForest SettledFields) → Along (λ here. nat_eq (tag_at here) tag ≡ false) above
    → AllByRecursion (λ here. nat_eq (tag_at here) tag ≡ false) (descendants_below above forest) → filter (lies_below tag) (descendants_below above forest) ≡ []
none_below tag above forest h own =
    let other = λ (here : Descendant). nat_eq (tag_at here) tag ≡ false in
    none_kept (lies_below tag) (descendants_below above forest)
    (each_then (λ here. Along other here.above) (λ here. lies_below tag here ≡ false) (λ here k. none_along tag here.above k) (descendants_below above forest) (each_along other above forest h own))

-- the tree of a tag in a forest below some ancestors: its own ancestors, and what lies below it
pub record IsBlock (tag : ℕ) (above : List SettledFields) (forest : PlainForest SettledFields) (tree : PlainNode SettledFields) : Type 0 where
  pub up : List SettledFields
  pub found : find (λ here. nat_eq (tag_at here) tag) (descendants_below above forest) ≡ Some (record { settled = tree.fields; above = up })
  pub below : filter (lies_below tag) (descendants_below above forest) ≡ descendants_below (tree.fields ∷ up) tree.children

-- no node has the tag
abbrev pub IsAbsent : ℕ → List Descendant → Type 0
IsAbsent tag nodes = AllByRecursion (λ here. nat_eq (tag_at here) tag ≡ false) nodes

-- of nodes whose tags differ, those after the one of a tag do not have it
absent_after : (tag : ℕ) (xs ys : List Descendant) (x : Descendant) → IsDistinct nat_eq (tags_at (xs ++ ys)) → find (λ here. nat_eq (tag_at here) tag) xs ≡ Some x → IsAbsent tag ys
absent_after tag [] ys x d e = let no : ⊥ = cc in absurd no
absent_after tag (y ∷ xs) ys x d e =
    elim (cases_Bool (nat_eq (tag_at y) tag)) as (λ c. IsAbsent tag ys) [
      | inl here ↦ each_in_second (λ here. nat_eq (tag_at here) tag ≡ false) xs ys (others here (xs ++ ys) (IsDistinct-head nat_eq (tag_at y) (tags_at (xs ++ ys)) d))
      | inr other ↦
          absent_after tag xs ys x (IsDistinct-tail nat_eq (tag_at y) (tags_at (xs ++ ys)) d)
          (sym (ap (λ b. cond b (Some y) (find (λ here. nat_eq (tag_at here) tag) xs)) other) ∙ e)
    ]
  where
    others : nat_eq (tag_at y) tag ≡ true → (zs : List Descendant) → AllByRecursion (λ tag. nat_eq (tag_at y) tag ≡ false) (tags_at zs) → IsAbsent tag zs
    others here [] h = tt
    others here (z ∷ zs) h = (
      ne_eqb (tag_at z) tag (λ e. both_ways (nat_eq (tag_at y) (tag_at z)) h.0 (eq-eqb (tag_at y) (tag_at z) (eqb-true (tag_at y) tag here ∙ sym e))),
      others here zs h.1,
    )

-- where none is found no node has the tag
pub absent : (tag : ℕ) (xs : List Descendant) → find (λ here. nat_eq (tag_at here) tag) xs ≡ None → IsAbsent tag xs
absent tag [] e = tt
absent tag (x ∷ xs) e =
    elim (cases_Bool (nat_eq (tag_at x) tag)) as (λ c. IsAbsent tag (x ∷ xs)) [
      | inl here ↦ let some = sym (ap (λ b. cond b (Some x) (find (λ here. nat_eq (tag_at here) tag) xs)) here) ∙ e in let no : ⊥ = cc in absurd no
      | inr other ↦ (other, absent tag xs (sym (ap (λ b. cond b (Some x) (find (λ here. nat_eq (tag_at here) tag) xs)) other) ∙ e))
    ]

-- the first that passes in two lists
found_first : {X : Type 0} (p : X → Bool) (xs ys : List X) → find p (xs ++ ys) ≡ option_or (find p xs) (find p ys)
found_first p [] ys = refl
found_first p (x ∷ xs) ys = elim (p x) as (λ b. cond b (Some x) (find p (xs ++ ys)) ≡ option_or (cond b (Some x) (find p xs)) (find p ys)) [ true ↦ refl | false ↦ found_first p xs ys ]

-- where the tree of a tag is not found, no node has it
pub absent_tree : (tag : ℕ) (above : List SettledFields) (forest : PlainForest SettledFields) → first_settled tag forest ≡ None → find (λ here. nat_eq (tag_at here) tag) (descendants_below above forest) ≡ None
absent_tree tag above none e = refl
absent_tree tag above (node settled children siblings) e =
    elim (cases_Bool (nat_eq settled.fields.tag tag)) [
      | inl here ↦ let some = sym (ap (λ b. cond b (Some tree) others) here) ∙ e in let no : ⊥ = cc in absurd no
      | inr other ↦
          let parts = neither (first_settled tag children) (first_settled tag siblings) (sym (ap (λ b. cond b (Some tree) others) other) ∙ e) in
          let below = descendants_below (settled ∷ above) children in
          let beside = descendants_below above siblings in
          ap (λ b. cond b (Some (record { settled = settled; above = above })) (find (λ here. nat_eq (tag_at here) tag) (below ++ beside))) other
          ∙ found_first (λ here. nat_eq (tag_at here) tag) below beside
          ∙ (λ i. option_or (absent_tree tag (settled ∷ above) children parts.0 i) (absent_tree tag above siblings parts.1 i))
    ]
  where
    tree : PlainNode SettledFields
    tree = record { fields = settled; children = children }

    others : Option (PlainNode SettledFields)
    others = option_or (first_settled tag children) (first_settled tag siblings)

    neither : (a b : Option (PlainNode SettledFields)) → option_or a b ≡ None → (a ≡ None) × (b ≡ None)
    neither None b e = (refl, e)
    neither (Some x) b e = let no : ⊥ = cc in absurd no

-- tags that differ in two lists differ in each
distinct_first : (xs ys : List Descendant) → IsDistinct nat_eq (tags_at (xs ++ ys)) → IsDistinct nat_eq (tags_at xs)
distinct_first [] ys d = distinct_none
distinct_first (x ∷ xs) ys d =
    let apart = IsDistinct-head nat_eq (tag_at x) (tags_at (xs ++ ys)) d in
    IsDistinct-cons nat_eq (tag_at x) (tags_at xs)
    (each_in_first (λ tag. nat_eq (tag_at x) tag ≡ false) (tags_at xs) (tags_at ys) (subst (AllByRecursion (λ tag. nat_eq (tag_at x) tag ≡ false)) (map-append tag_at xs ys) apart))
    (distinct_first xs ys (IsDistinct-tail nat_eq (tag_at x) (tags_at (xs ++ ys)) d))

distinct_second : (xs ys : List Descendant) → IsDistinct nat_eq (tags_at (xs ++ ys)) → IsDistinct nat_eq (tags_at ys)
distinct_second [] ys d = d
distinct_second (x ∷ xs) ys d = distinct_second xs ys (IsDistinct-tail nat_eq (tag_at x) (tags_at (xs ++ ys)) d)

-- the tree of a tag that the ancestors do not have
pub block : (tag : ℕ) (tree : PlainNode SettledFields) (above : List SettledFields) (forest : PlainForest SettledFields) → Along (λ here. nat_eq (tag_at here) tag ≡ false) above
    → IsDistinct nat_eq (tags_at (descendants_below above forest)) → first_settled tag forest ≡ Some tree → IsBlock tag above forest tree
block tag tree above none h d e = let no : ⊥ = cc in absurd no
block tag tree above (node settled children siblings) h d e =
    elim (cases_Bool (nat_eq settled.fields.tag tag)) [
      | inl own ↦ at_top own (sym (ap (λ b. cond b (Some top) others) own) ∙ e)
      | inr other ↦
          lower other (first_settled tag children) refl (sym (ap (λ b. cond b (Some top) others) other) ∙ e)
          (λ k. block tag tree (settled ∷ above) children (other, h) (distinct_first below beside apart) k)
          (λ k. block tag tree above siblings h (distinct_second below beside apart) k)
    ]
  where
    here : Descendant
    here = record { settled = settled; above = above }

    below : List Descendant
    below = descendants_below (settled ∷ above) children

    beside : List Descendant
    beside = descendants_below above siblings

    top : PlainNode SettledFields
    top = record { fields = settled; children = children }

    others : Option (PlainNode SettledFields)
    others = option_or (first_settled tag children) (first_settled tag siblings)

    has_tag : Descendant → Bool
    has_tag here = nat_eq (tag_at here) tag

    apart : IsDistinct nat_eq (tags_at (below ++ beside))
    apart = IsDistinct-tail nat_eq settled.fields.tag (tags_at (below ++ beside)) d

    -- the node itself does not lie below the one of the tag
    all_lower : filter (lies_below tag) (here ∷ below ++ beside) ≡ filter (lies_below tag) below ++ filter (lies_below tag) beside
    all_lower =
        ap (λ b. cond b (here ∷ filter (lies_below tag) (below ++ beside)) (filter (lies_below tag) (below ++ beside))) (none_along tag above h)
        ∙ filter-append (lies_below tag) below beside

    at_top : nat_eq settled.fields.tag tag ≡ true → Some top ≡ Some tree → IsBlock tag above (node settled children siblings) tree
    at_top own e =
        let same : top ≡ tree = ap (λ o. unwrap_or o top) e in
        let line : list_any (λ settled. nat_eq settled.fields.tag tag) (settled ∷ above) ≡ true = ap (λ b. b || list_any (λ settled. nat_eq settled.fields.tag tag) above) own in
        let gone = absent_after tag (here ∷ below) beside here d (ap (λ b. cond b (Some here) (find has_tag below)) own) in
        subst (IsBlock tag above (node settled children siblings)) same (record {
          up = above;
          found = ap (λ b. cond b (Some here) (find has_tag (below ++ beside))) own;
          below = all_lower
              ∙ (λ i. all_kept (lies_below tag) below (each_below_passes (λ settled. nat_eq settled.fields.tag tag) (settled ∷ above) children line) i ++ none_below tag above siblings h gone i)
              ∙ append-nil below;
        })

    lower : nat_eq settled.fields.tag tag ≡ false → (o : Option (PlainNode SettledFields)) → first_settled tag children ≡ o → option_or o (first_settled tag siblings) ≡ Some tree
        → (first_settled tag children ≡ Some tree → IsBlock tag (settled ∷ above) children tree) → (first_settled tag siblings ≡ Some tree → IsBlock tag above siblings tree)
        → IsBlock tag above (node settled children siblings) tree
    lower other (Some t) k e first second =
        let b = first (k ∙ e) in record {
          up = b.up;
          found = ap (λ b. cond b (Some here) (find has_tag (below ++ beside))) other ∙ found_first has_tag below beside ∙ ap (λ o. option_or o (find has_tag beside)) b.found;
          below = all_lower ∙ (λ i. b.below i ++ none_below tag above siblings h (absent_after tag below beside _ apart b.found) i)
              ∙ append-nil (descendants_below (tree.fields ∷ b.up) tree.children);
        }
    lower other None k e first second =
        let b = second e in
        let nowhere = absent_tree tag (settled ∷ above) children k in record {
          up = b.up;
          found = ap (λ b. cond b (Some here) (find has_tag (below ++ beside))) other ∙ found_first has_tag below beside ∙ ap (λ o. option_or o (find has_tag beside)) nowhere ∙ b.found;
          below = all_lower ∙ (λ i. none_below tag (settled ∷ above) children (other, h) (absent tag below nowhere) i ++ b.below i);
        }

-- of nodes whose tags differ, the one that is found by a tag is the only one that has it
pub only_found : (tag : ℕ) (x : Descendant) (xs : List Descendant) → IsDistinct nat_eq (tags_at xs) → find (λ here. nat_eq (tag_at here) tag) xs ≡ Some x
    → AllByRecursion (λ here. nat_eq (tag_at here) tag ≡ true → here ≡ x) xs
only_found tag x [] d e = tt
only_found tag x (y ∷ xs) d e =
    elim (cases_Bool (nat_eq (tag_at y) tag)) as (λ c. AllByRecursion (λ here. nat_eq (tag_at here) tag ≡ true → here ≡ x) (y ∷ xs)) [
      | inl here ↦
          let same : y ≡ x = ap (λ o. unwrap_or o y) (sym (ap (λ b. cond b (Some y) (find (λ here. nat_eq (tag_at here) tag) xs)) here) ∙ e) in
          let gone = absent_after tag (y ∷ []) xs y d (ap (λ b. cond b (Some y) None) here) in
          (λ _. same, each_then (λ here. nat_eq (tag_at here) tag ≡ false) (λ here. nat_eq (tag_at here) tag ≡ true → here ≡ x) (λ here no yes. absurd (both_ways (nat_eq (tag_at here) tag) no yes)) xs gone)
      | inr other ↦ (
        λ yes. absurd (both_ways (nat_eq (tag_at y) tag) other yes),
        only_found tag x xs (IsDistinct-tail nat_eq (tag_at y) (tags_at xs) d) (sym (ap (λ b. cond b (Some y) (find (λ here. nat_eq (tag_at here) tag) xs)) other) ∙ e),
      )
    ]

-- a tag that none of some items has is not among those that are kept
not_kept_by : {X : Type 0} (key : X → ℕ) (tag : ℕ) (test : X → Bool) (xs : List X) → AllByRecursion (λ key. nat_eq tag key ≡ false) (map key xs) → list_any (nat_eq tag) (map key (filter test xs)) ≡ false
not_kept_by key tag test [] h = refl
not_kept_by key tag test (x ∷ xs) h =
    elim (test x) as (λ b. list_any (nat_eq tag) (map key (cond b (x ∷ filter test xs) (filter test xs))) ≡ false) [
      | true ↦ or_from (nat_eq tag (key x)) (list_any (nat_eq tag) (map key (filter test xs))) h.0 (not_kept_by key tag test xs h.1)
      | false ↦ not_kept_by key tag test xs h.1
    ]

-- of items whose keys differ, the key of one is among those of the kept ones exactly where it passes
pub passes_by_key : {X : Type 0} (key : X → ℕ) (test : X → Bool) (xs : List X) → IsDistinct nat_eq (map key xs) → AllByRecursion (λ x. list_any (nat_eq (key x)) (map key (filter test xs)) ≡ test x) xs
passes_by_key key test [] d = tt
passes_by_key {X = X} key test (x ∷ xs) d =
    let kept = filter test xs in
    let apart = IsDistinct-head nat_eq (key x) (map key xs) d in (
      elim (test x) as (λ b. list_any (nat_eq (key x)) (map key (cond b (x ∷ kept) kept)) ≡ b) [
        | true ↦ ap (λ b. b || list_any (nat_eq (key x)) (map key kept)) (eq-eqb (key x) (key x) refl)
        | false ↦ not_kept_by key (key x) test xs apart
      ],
      others xs apart (passes_by_key key test xs (IsDistinct-tail nat_eq (key x) (map key xs) d)),
    )
  where
    others : (ys : List X) → AllByRecursion (λ k. nat_eq (key x) k ≡ false) (map key ys) → AllByRecursion (λ y. list_any (nat_eq (key y)) (map key (filter test xs)) ≡ test y) ys
        → AllByRecursion (λ y. list_any (nat_eq (key y)) (map key (filter test (x ∷ xs))) ≡ test y) ys
    others [] h k = tt
    others (y ∷ ys) h k =
        let flipped : nat_eq (key y) (key x) ≡ false = let e : nat_eq (key x) (key y) ≡ false = h.0 in grind (arith, nat_tests) in (
          elim (test x) as (λ b. list_any (nat_eq (key y)) (map key (cond b (x ∷ filter test xs) (filter test xs))) ≡ test y) [
            | true ↦ ap (λ b. b || list_any (nat_eq (key y)) (map key (filter test xs))) flipped ∙ k.0
            | false ↦ k.0
          ],
          others ys h.1 k.1,
        )

-- a node's tag is that of a node or of one below it
abbrev pub is_within : PlainForest SettledFields → (tag : ℕ) → ℕ → Bool
is_within forest tag other = nat_eq other tag || list_any (nat_eq other) (tags_at (inside forest tag))

-- a node lies below another exactly where its tag is among those inside
pub each_inside : (forest : PlainForest SettledFields) → IsDistinct nat_eq (tags_at (descendants forest)) → (tag : ℕ)
    → AllByRecursion (λ here. list_any (nat_eq (tag_at here)) (tags_at (inside forest tag)) ≡ lies_below tag here) (descendants forest)
each_inside forest distinct tag = passes_by_key tag_at (lies_below tag) (descendants forest) distinct

-- a node with what is known of it: whether it is within, and that the one of the tag is a context
record IsKnown (forest : PlainForest SettledFields) (tag : ℕ) (here : Descendant) : Type 0 where
  within : is_within forest tag (tag_at here) ≡ (nat_eq (tag_at here) tag || lies_below tag here)
  context : nat_eq (tag_at here) tag ≡ true → is_context here.settled ≡ true

-- a node lies below a context exactly where its host parent is that context or lies below it
host_within : (forest : PlainForest SettledFields) (tag : ℕ) → is_within forest tag 0 ≡ false → (above : List SettledFields) → Along (IsKnown forest tag) above
    → is_within forest tag (host_parent above) ≡ list_any (λ settled. nat_eq settled.fields.tag tag) above
host_within forest tag root [] h = root
host_within forest tag root (parent ∷ above) h =
    let rest = list_any (λ settled. nat_eq settled.fields.tag tag) above in
    elim (cases_Bool (is_context parent)) [
      | inl context ↦ ap (λ b. is_within forest tag (cond b parent.fields.tag (host_parent above))) context ∙ h.0.within
      | inr other ↦
          let differs : nat_eq parent.fields.tag tag ≡ false = false_from_ne_true (nat_eq parent.fields.tag tag) (λ e. both_ways (is_context parent) other (h.0.context e)) in
          ap (λ b. is_within forest tag (cond b parent.fields.tag (host_parent above))) other ∙ host_within forest tag root above h.1 ∙ ap (λ b. b || rest) (sym differs)
    ]

-- no node has the tag 0
zero_absent : (tags : List ℕ) → AllByRecursion (λ tag. 1 ≤ tag) tags → list_any (nat_eq 0) tags ≡ false
zero_absent [] h = refl
zero_absent (tag ∷ tags) h = let low : 1 ≤ tag = h.0 in or_from (nat_eq 0 tag) (list_any (nat_eq 0) tags) (ne_eqb 0 tag (λ e. omega arith)) (zero_absent tags h.1)

-- where the one of a tag is a context, each node lies below it exactly where its host parent is within
pub each_host_within : (forest : PlainForest SettledFields) → IsDistinct nat_eq (tags_at (descendants forest)) → AllByRecursion (λ tag. 1 ≤ tag) (tags_at (descendants forest))
    → (tag : ℕ) → 1 ≤ tag → AllByRecursion (λ here. nat_eq (tag_at here) tag ≡ true → is_context here.settled ≡ true) (descendants forest)
    → AllByRecursion (λ here. is_within forest tag (host_parent here.above) ≡ lies_below tag here) (descendants forest)
each_host_within forest distinct low tag one context =
    let nodes = descendants forest in
    let known = each_then (λ here. (list_any (nat_eq (tag_at here)) (tags_at (inside forest tag)) ≡ lies_below tag here) × (nat_eq (tag_at here) tag ≡ true → is_context here.settled ≡ true)) (IsKnown forest tag)
    (λ here h. record { within = ap (λ b. nat_eq (tag_at here) tag || b) h.0; context = h.1 }) nodes
    (each_of_two (λ here. list_any (nat_eq (tag_at here)) (tags_at (inside forest tag)) ≡ lies_below tag here) (λ here. nat_eq (tag_at here) tag ≡ true → is_context here.settled ≡ true) nodes (each_inside forest distinct tag) context) in
    let root : is_within forest tag 0 ≡ false =
    or_from (nat_eq 0 tag) (list_any (nat_eq 0) (tags_at (inside forest tag))) (ne_eqb 0 tag (λ e. omega arith))
    (not_kept 0 (lies_below tag) nodes (zero_absent (tags_at nodes) low)) in
    each_then (λ here. Along (IsKnown forest tag) here.above) (λ here. is_within forest tag (host_parent here.above) ≡ lies_below tag here) (λ here h. host_within forest tag root here.above h) nodes
    (each_along (IsKnown forest tag) [] forest tt known)
