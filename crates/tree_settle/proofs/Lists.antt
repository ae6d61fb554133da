-- The list of new nodes.
use Rattle.std.proofs.Common.{◌≡◌, ℕ, zero, suc, ◌+◌, ◌<◌, ◌≤◌, List, [], ◌∷◌, ◌++◌, length, get_or, take, refl, ap, sym, ◌∙◌, arith}
use Rattle.std.proofs.lemmas.List.{take_more}
use Rattle.shadow_node.specs.Falls.{Shared}
use Rattle.tree_settle.specs.Walk.{begun_or}

-- the nodes up to an index, and the one there
pub taken_more : (nodes : List Shared) (i : ℕ) (node : Shared) → i < length nodes → node ≡ get_or nodes i node
    → take (i + 1) nodes ≡ take i nodes ++ node ∷ []
taken_more nodes i node lt is = take_more nodes i node lt ∙ ap (λ (n : Shared). take i nodes ++ n ∷ []) (sym is)

-- all nodes, up to an index behind the last
pub take_all : (nodes : List Shared) (i : ℕ) → length nodes ≤ i → take i nodes ≡ nodes
take_all [] zero h = refl
take_all [] (suc i) h = refl
take_all (node ∷ nodes) zero h = absurd (omega arith)
take_all (node ∷ nodes) (suc i) h = ap (λ rest. node ∷ rest) (take_all nodes i (omega arith))

-- a list without a node is not begun
pub not_begun : (all before : List Shared) → length all ≡ 0 → begun_or all before ≡ before
not_begun [] before h = refl
not_begun (first ∷ all) before h = cc

-- a list with a node is begun
pub is_begun : (all before : List Shared) → 0 < length all → begun_or all before ≡ all
is_begun [] before h = absurd (omega arith)
is_begun (first ∷ all) before h = refl
