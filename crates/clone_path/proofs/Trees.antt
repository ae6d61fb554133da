-- A list of shared nodes in which one is another.
use Rattle.std.proofs.Common.{◌≡◌, ℕ, zero, suc, ◌+◌, ◌<◌, List, [], ◌∷◌, ◌++◌, length, get_or, take, drop, slice_set, false, refl, ap, sym, subst, ◌∙◌, arith}
use Rattle.std.proofs.lemmas.List.{take_more}
use Rattle.std.specs.Prelude.{nat_eq, is_some}
use Rattle.std.specs.List.{IsDistinct}
use Rattle.shadow_node.specs.Forest.{PlainForest, node, PlainNode, forest_of}
use Rattle.shadow_node.specs.Fields.{SettledFields}
use Rattle.shadow_node.specs.Falls.{Shared, trees_of, forest_at}
use Rattle.shadow_node.specs.Find.{first_settled}
use Rattle.shadow_node.proofs.Trees.{trees_before, trees_before-push, trees_of-append, forest_at-drop}
use Rattle.clone_path.proofs.Tags.{all_tags}
use Rattle.clone_path.proofs.OneNode.{differ_below}

-- the forest with another tree at an index: the trees before it, that tree, and the trees after it
pub with_tree : (nodes : List Shared) (at : ℕ) (new : PlainNode SettledFields) → at < length nodes
    → forest_of (slice_set (trees_of nodes) at new) ≡ trees_before (trees_of (take at nodes)) (node new.fields new.children (forest_at (drop (at + 1) nodes)))
with_tree [] at new h = absurd (omega arith)
with_tree (first ∷ nodes) zero new h = refl
with_tree (first ∷ nodes) (suc at) new h =
    let next : suc at + 1 ≡ suc (at + 1) = omega arith in rw next (ap (node first.value.fields first.value.children) (with_tree nodes at new (omega arith)))

-- the tags below the tree at an index differ, and so do those after it
pub differ_at : (nodes : List Shared) (at : ℕ) (d : Shared) → at < length nodes → d ≡ get_or nodes at d → IsDistinct nat_eq (all_tags (forest_at (drop at nodes)))
    → IsDistinct nat_eq (all_tags d.value.children) × IsDistinct nat_eq (all_tags (forest_at (drop (at + 1) nodes)))
differ_at nodes at d h e differ =
    differ_below d.value.fields d.value.children (forest_at (drop (at + 1) nodes)) (subst (λ forest. IsDistinct nat_eq (all_tags forest)) (forest_at-drop nodes at d h e) differ)

-- one more tree is passed
pub tree_passed : (nodes : List Shared) (at : ℕ) (d : Shared) (rest : PlainForest SettledFields) → at < length nodes → d ≡ get_or nodes at d
    → trees_before (trees_of (take (at + 1) nodes)) rest ≡ trees_before (trees_of (take at nodes)) (node d.value.fields d.value.children rest)
tree_passed nodes at d rest h e =
    ap (λ front. trees_before (trees_of front) rest) (take_more nodes at d h ∙ ap (λ d. take at nodes ++ d ∷ []) (sym e))
    ∙ ap (λ trees. trees_before trees rest) (trees_of-append (take at nodes) (d ∷ []))
    ∙ trees_before-push (trees_of (take at nodes)) d.value rest

-- no tag is found where there is no node
pub none_there : (tag : ℕ) (nodes : List Shared) (forest : PlainForest SettledFields) → forest_at nodes ≡ forest → length nodes ≡ 0
    → is_some (first_settled tag forest) ≡ false
none_there tag [] forest e h = ap (λ f. is_some (first_settled tag f)) (sym e)
none_there tag (first ∷ nodes) forest e h = cc
