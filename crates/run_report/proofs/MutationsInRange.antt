-- The mutations between two host trees in range are in range.
use Rattle.std.proofs.Common.{◌≤◌, ◌<◌, ◌+◌, ◌^◌, ℕ, zero, suc, Bool, true, false, cond, not, List, [], ◌∷◌, length, map, filter, drop, nat_eq, arith}
use Rattle.std.specs.List.{AllByRecursion, flat_map}
use Rattle.std.proofs.lemmas.List.{length-map, length-drop}
use Rattle.host_views.specs.Plain.{PlainPlacedView, PlainHostTree, create, delete, remove, update, host_tags, children_at}
use Rattle.host_views.specs.HostTree.{has_tag}
use Rattle.view_mutation.specs.Mutations.{common_prefix, staying, removes_from, inserts_from, removes_at, inserts_at, view_at, is_other_view, mutations_between}
use Rattle.run_report.specs.Ranges.{IsNumber, IsMutationInRange, IsPlacedInRange}
use Rattle.run_report.proofs.Lists.{all_append, all_map, all_weaker}

-- a host tree in range: each of its views, of which there are at most 2,000
pub record IsTreeInRange (tree : PlainHostTree) : Type 0 where
  pub views : AllByRecursion IsPlacedInRange tree
  pub count : length tree ≤ 2000

-- what holds of each item holds of each that passes a test
all_filtered : {A : Type 0} (P : A → Type 0) (p : A → Bool) (xs : List A) → AllByRecursion P xs → AllByRecursion P (filter p xs)
all_filtered P p [] h = tt
all_filtered P p (x ∷ xs) h =
    let rest = all_filtered P p xs h.1 in
    elim (p x) as (λ b. AllByRecursion P (cond b (x ∷ filter p xs) (filter p xs))) [ true ↦ (h.0, rest) | false ↦ rest ]

-- of which there are no more
filtered_le : {A : Type 0} (p : A → Bool) (xs : List A) → length (filter p xs) ≤ length xs
filtered_le p [] = omega arith
filtered_le p (x ∷ xs) =
    let rest = filtered_le p xs in
    elim (p x) as (λ b. length (cond b (x ∷ filter p xs) (filter p xs)) ≤ suc (length xs)) [ true ↦ omega (arith, rest) | false ↦ omega (arith, rest) ]

-- and of each after some
all_dropped : {A : Type 0} (P : A → Type 0) (n : ℕ) (xs : List A) → AllByRecursion P xs → AllByRecursion P (drop n xs)
all_dropped P zero xs h = h
all_dropped P (suc n) [] h = tt
all_dropped P (suc n) (x ∷ xs) h = all_dropped P n xs h.1

-- and of all that each gives
all_given : {A B : Type 0} (P : B → Type 0) (f : A → List B) (xs : List A) → AllByRecursion (λ x. AllByRecursion P (f x)) xs → AllByRecursion P (flat_map f xs)
all_given P f [] h = tt
all_given P f (x ∷ xs) h = all_append P (f x) (flat_map f xs) h.0 (all_given P f xs h.1)

-- a common prefix is no longer than the first list
prefix_le_old : (xs ys : List ℕ) → common_prefix xs ys ≤ length xs
prefix_le_old [] ys = omega arith
prefix_le_old (x ∷ xs) [] = omega arith
prefix_le_old (x ∷ xs) (y ∷ ys) =
    let rest = prefix_le_old xs ys in
    elim (nat_eq x y) as (λ b. cond b (common_prefix xs ys + 1) 0 ≤ suc (length xs)) [ true ↦ omega (arith, rest) | false ↦ omega arith ]

-- nor than the second
prefix_le_new : (xs ys : List ℕ) → common_prefix xs ys ≤ length ys
prefix_le_new [] ys = omega arith
prefix_le_new (x ∷ xs) [] = omega arith
prefix_le_new (x ∷ xs) (y ∷ ys) =
    let rest = prefix_le_new xs ys in
    elim (nat_eq x y) as (λ b. cond b (common_prefix xs ys + 1) 0 ≤ suc (length ys)) [ true ↦ omega (arith, rest) | false ↦ omega arith ]

-- removes of few children from an index on
removes_in_range : (parent index : ℕ) (tags : List ℕ) → parent < 2 ^ 64 → index + length tags ≤ 2000 → AllByRecursion IsNumber tags
    → AllByRecursion IsMutationInRange (removes_from parent index tags)
removes_in_range parent index [] p few h = tt
removes_in_range parent index (tag ∷ tags) p few h =
    all_append IsMutationInRange (removes_from parent (index + 1) tags) (remove parent tag index ∷ [])
    (removes_in_range parent (index + 1) tags p (omega arith) h.1) ((p, h.0, omega arith), tt)

-- inserts of few children from an index on
inserts_in_range : (parent index : ℕ) (tags : List ℕ) → parent < 2 ^ 64 → index + length tags ≤ 2000 → AllByRecursion IsNumber tags
    → AllByRecursion IsMutationInRange (inserts_from parent index tags)
inserts_in_range parent index [] p few h = tt
inserts_in_range parent index (tag ∷ tags) p few h = ((p, h.0, omega arith), inserts_in_range parent (index + 1) tags p (omega arith) h.1)

-- the tags of a tree in range
tags_in_range : (tree : PlainHostTree) → AllByRecursion IsPlacedInRange tree → AllByRecursion IsNumber (host_tags tree)
tags_in_range tree h = all_map IsNumber (λ (placed : PlainPlacedView). placed.tag) tree (all_weaker IsPlacedInRange (λ placed. IsNumber placed.tag) (λ placed p. p.tag) tree h)

-- the children of a host parent in a tree in range
children_in_range : (tree : PlainHostTree) (parent : ℕ) → AllByRecursion IsPlacedInRange tree → AllByRecursion IsNumber (children_at tree parent)
children_in_range tree parent h =
    let below = filter (λ (placed : PlainPlacedView). nat_eq placed.parent parent) tree in
    tags_in_range below (all_filtered IsPlacedInRange (λ placed. nat_eq placed.parent parent) tree h)

-- of which there are no more than views
children_le : (tree : PlainHostTree) (parent : ℕ) → length (children_at tree parent) ≤ length tree
children_le tree parent =
    let test = λ (placed : PlainPlacedView). nat_eq placed.parent parent in
    omega (arith, length-map (filter test tree) (λ (placed : PlainPlacedView). placed.tag), filtered_le test tree)

-- the removes at a host parent
removes_at_in_range : (old new : PlainHostTree) → IsTreeInRange old → (parent : ℕ) → parent < 2 ^ 64 → AllByRecursion IsMutationInRange (removes_at old new parent)
removes_at_in_range old new o parent p =
    let children = children_at old parent in
    let stay = staying old new parent in
    removes_in_range parent stay (drop stay children) p
    (omega (arith, length-drop stay children, prefix_le_old children (children_at new parent), children_le old parent, o.count))
    (all_dropped IsNumber stay children (children_in_range old parent o.views))

-- the inserts at a host parent
inserts_at_in_range : (old new : PlainHostTree) → IsTreeInRange new → (parent : ℕ) → parent < 2 ^ 64 → AllByRecursion IsMutationInRange (inserts_at old new parent)
inserts_at_in_range old new n parent p =
    let children = children_at new parent in
    let stay = staying old new parent in
    inserts_in_range parent stay (drop stay children) p
    (omega (arith, length-drop stay children, prefix_le_new (children_at old parent) children, children_le new parent, n.count))
    (all_dropped IsNumber stay children (children_in_range new parent n.views))

-- all mutations between two trees in range
pub mutations_in_range : (old new : PlainHostTree) → IsTreeInRange old → IsTreeInRange new → AllByRecursion IsMutationInRange (mutations_between old new)
mutations_in_range old new o n =
    let gone = λ (placed : PlainPlacedView). not (has_tag new placed.tag) in
    let fresh = λ (placed : PlainPlacedView). not (has_tag old placed.tag) in
    let other = λ (placed : PlainPlacedView). is_other_view (view_at old placed.tag) placed.view in
    let removes = all_given IsMutationInRange (removes_at old new) (0 ∷ host_tags old)
    (removes_at_in_range old new o 0 (omega arith), all_weaker IsNumber (λ parent. AllByRecursion IsMutationInRange (removes_at old new parent)) (λ parent p. removes_at_in_range old new o parent p) (host_tags old) (tags_in_range old o.views)) in
    let deletes = all_map IsMutationInRange (λ (placed : PlainPlacedView). delete placed.tag) (filter gone old)
    (all_weaker IsPlacedInRange (λ placed. IsNumber placed.tag) (λ placed p. p.tag) (filter gone old) (all_filtered IsPlacedInRange gone old o.views)) in
    let creates = all_map IsMutationInRange (λ (placed : PlainPlacedView). create placed.tag placed.view) (filter fresh new)
    (all_weaker IsPlacedInRange (λ placed. IsMutationInRange (create placed.tag placed.view)) (λ placed p. (p.tag, p.view)) (filter fresh new) (all_filtered IsPlacedInRange fresh new n.views)) in
    let updates = all_map IsMutationInRange (λ (placed : PlainPlacedView). update placed.tag placed.view) (filter other new)
    (all_weaker IsPlacedInRange (λ placed. IsMutationInRange (update placed.tag placed.view)) (λ placed p. (p.tag, p.view)) (filter other new) (all_filtered IsPlacedInRange other new n.views)) in
    let inserts = all_given IsMutationInRange (inserts_at old new) (0 ∷ host_tags new)
    (inserts_at_in_range old new n 0 (omega arith), all_weaker IsNumber (λ parent. AllByRecursion IsMutationInRange (inserts_at old new parent)) (λ parent p. inserts_at_in_range old new n parent p) (host_tags new) (tags_in_range new n.views)) in
    all_append IsMutationInRange _ (flat_map (inserts_at old new) (0 ∷ host_tags new))
    (all_append IsMutationInRange _ (map (λ (placed : PlainPlacedView). update placed.tag placed.view) (filter other new))
    (all_append IsMutationInRange _ (map (λ (placed : PlainPlacedView). create placed.tag placed.view) (filter fresh new))
    (all_append IsMutationInRange (flat_map (removes_at old new) (0 ∷ host_tags old)) (map (λ (placed : PlainPlacedView). delete placed.tag) (filter gone old)) removes deletes)
    creates) updates) inserts
