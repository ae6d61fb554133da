-- Forests by their trees.
use Rattle.std.proofs.Common.{◌≡◌, ℕ, suc, ◌+◌, ◌<◌, ◌≤◌, List, [], ◌∷◌, ◌++◌, length, get_or, drop, drop-cons, add-one, refl, ap, ◌∙◌}
use Rattle.std.proofs.Math.ListN.{drop_of_length-le}
use Rattle.shadow_node.specs.Forest.{PlainForest, none, node, PlainNode, forest_of}
use Rattle.shadow_node.specs.Fields.{SettledFields}
use Rattle.shadow_node.specs.Falls.{Shared, trees_of, forest_at}

-- trees in front of a forest
abbrev pub trees_before : {A : Type 0} → List (PlainNode A) → PlainForest A → PlainForest A
trees_before [] forest = forest
trees_before (tree ∷ trees) forest = node tree.fields tree.children (trees_before trees forest)

-- one more tree stands in front of the forest
pub trees_before-push : {A : Type 0} (trees : List (PlainNode A)) (tree : PlainNode A) (forest : PlainForest A)
    → trees_before (trees ++ tree ∷ []) forest ≡ trees_before trees (node tree.fields tree.children forest)
trees_before-push [] tree forest = refl
trees_before-push (first ∷ trees) tree forest = ap (node first.fields first.children) (trees_before-push trees tree forest)

-- in front of nothing, trees are their forest
pub trees_before-none : {A : Type 0} (trees : List (PlainNode A)) → trees_before trees none ≡ forest_of trees
trees_before-none [] = refl
trees_before-none (tree ∷ trees) = ap (node tree.fields tree.children) (trees_before-none trees)

-- the trees of joined lists are the joined trees
pub trees_of-append : (xs ys : List Shared) → trees_of (xs ++ ys) ≡ trees_of xs ++ trees_of ys
trees_of-append [] ys = refl
trees_of-append (x ∷ xs) ys = ap (λ rest. x.value ∷ rest) (trees_of-append xs ys)

-- the forest from an index on: the tree there and the forest after it
pub forest_at-drop : (xs : List Shared) (i : ℕ) (d : Shared) → i < length xs → d ≡ get_or xs i d
    → forest_at (drop i xs) ≡ node d.value.fields d.value.children (forest_at (drop (i + 1) xs))
forest_at-drop xs i d h e =
    let f : drop i xs ≡ get_or xs i d ∷ drop (suc i) xs = drop-cons xs i d h in rw (f, ← e, add-one) refl

-- nothing is left after the last index
pub forest_at-drop_end : (xs : List Shared) (i : ℕ) → length xs ≤ i → forest_at (drop i xs) ≡ none
forest_at-drop_end xs i h =
    let e : drop i xs ≡ [] = drop_of_length-le xs h in rw e refl

-- a whole that begins with some nodes begins with one more
pub trees_before-pushed : (all more : List Shared) (new : Shared) (rest whole : PlainForest SettledFields) → more ≡ all ++ new ∷ []
    → trees_before (trees_of all) (node new.value.fields new.value.children rest) ≡ whole → trees_before (trees_of more) rest ≡ whole
trees_before-pushed all more new rest whole m w =
    rw (m, trees_of-append all (new ∷ [])) (trees_before-push (trees_of all) new.value rest ∙ w)
