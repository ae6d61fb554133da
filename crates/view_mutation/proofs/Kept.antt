-- The children that stay: the longest prefix that is equal in both trees.
use Rattle.std.proofs.Common.{◌≡◌, ◌≤◌, inl, inr, ℕ, suc, List, [], ◌∷◌, ◌++◌, length, take, drop, false, nat_eq, add-one, arith, refl, ap, ◌∙◌, length-take-le, take-append-drop}
use Rattle.std.specs.List.{list_any}
use Rattle.std.proofs.lemmas.Bool.{cases_eq, eq-eqb, ne_eqb}
use Rattle.host_views.specs.Plain.{PlainHostTree, children_at}
use Rattle.view_mutation.specs.Mutations.{common_prefix, staying}
use Rattle.view_mutation.proofs.Lists.{prefix_none}
use Rattle.view_mutation.proofs.Trees.{not_in_take}

-- the children of a parent that stay
abbrev pub kept : (old new : PlainHostTree) → ℕ → List ℕ
kept old new parent = take (staying old new parent) (children_at old parent)

-- the prefix of equal first items
prefix_more : (x y : ℕ) (xs ys : List ℕ) → x ≡ y → common_prefix (x ∷ xs) (y ∷ ys) ≡ suc (common_prefix xs ys)
prefix_more x y xs ys e = rw (eq-eqb x y e, add-one) refl

-- there is no equal prefix of first items that differ
prefix_apart : (x y : ℕ) (xs ys : List ℕ) → (x ≡ y → ⊥) → common_prefix (x ∷ xs) (y ∷ ys) ≡ 0
prefix_apart x y xs ys n = rw (ne_eqb x y n) refl

-- the equal prefix is the same part of both lists
prefix_same : (xs ys : List ℕ) → take (common_prefix xs ys) xs ≡ take (common_prefix xs ys) ys
prefix_same [] ys = refl
prefix_same (x ∷ xs) [] = refl
prefix_same (x ∷ xs) (y ∷ ys) =
    elim (cases_eq x y) as (λ c. take (common_prefix (x ∷ xs) (y ∷ ys)) (x ∷ xs) ≡ take (common_prefix (x ∷ xs) (y ∷ ys)) (y ∷ ys)) [
      | inl same ↦ rw (prefix_more x y xs ys same) (λ i. same i ∷ prefix_same xs ys i)
      | inr apart ↦ rw (prefix_apart x y xs ys apart) refl
    ]

-- the equal prefix is no longer than either list
prefix_within : (xs ys : List ℕ) → (common_prefix xs ys ≤ length xs) × (common_prefix xs ys ≤ length ys)
prefix_within [] ys = (omega arith, omega arith)
prefix_within (x ∷ xs) [] = (omega arith, omega arith)
prefix_within (x ∷ xs) (y ∷ ys) =
    elim (cases_eq x y) as (λ c. (common_prefix (x ∷ xs) (y ∷ ys) ≤ length (x ∷ xs)) × (common_prefix (x ∷ xs) (y ∷ ys) ≤ length (y ∷ ys))) [
      | inl same ↦ let others = prefix_within xs ys in rw (prefix_more x y xs ys same) (omega arith, omega arith)
      | inr apart ↦ rw (prefix_apart x y xs ys apart) (omega arith, omega arith)
    ]

-- how many children stay
pub length_kept : (old new : PlainHostTree) (parent : ℕ) → length (kept old new parent) ≡ staying old new parent
length_kept old new parent = length-take-le (staying old new parent) (children_at old parent) (prefix_within (children_at old parent) (children_at new parent)).0

-- those that stay are the first of the new children too
pub kept_of_new : (old new : PlainHostTree) (parent : ℕ) → kept old new parent ≡ take (staying old new parent) (children_at new parent)
kept_of_new old new parent = prefix_same (children_at old parent) (children_at new parent)

-- those that stay, and the other old children
pub kept_and_old : (old new : PlainHostTree) (parent : ℕ) → kept old new parent ++ drop (staying old new parent) (children_at old parent) ≡ children_at old parent
kept_and_old old new parent = take-append-drop (staying old new parent) (children_at old parent)

-- those that stay, and the other new children
pub kept_and_new : (old new : PlainHostTree) (parent : ℕ) → kept old new parent ++ drop (staying old new parent) (children_at new parent) ≡ children_at new parent
kept_and_new old new parent =
    ap (λ front. front ++ drop (staying old new parent) (children_at new parent)) (kept_of_new old new parent) ∙ take-append-drop (staying old new parent) (children_at new parent)

-- where there are no old children none stays
pub kept_without_old : (old new : PlainHostTree) (parent : ℕ) → children_at old parent ≡ [] → kept old new parent ≡ []
kept_without_old old new parent e = ap (λ kids. take (common_prefix kids (children_at new parent)) kids) e

-- where there are no new children none stays
pub kept_without_new : (old new : PlainHostTree) (parent : ℕ) → children_at new parent ≡ [] → kept old new parent ≡ []
kept_without_new old new parent e =
    ap (λ kids. take (common_prefix (children_at old parent) kids) (children_at old parent)) e
    ∙ ap (λ n. take n (children_at old parent)) (prefix_none (children_at old parent))

-- a tag that is no new child is none that stays
pub not_kept : (old new : PlainHostTree) (tag parent : ℕ) → list_any (nat_eq tag) (children_at new parent) ≡ false → list_any (nat_eq tag) (kept old new parent) ≡ false
not_kept old new tag parent e =
    ap (list_any (nat_eq tag)) (kept_of_new old new parent) ∙ not_in_take tag (staying old new parent) (children_at new parent) e
