-- One step of the walk that settles a forest.
use Rattle.std.proofs.Common.{◌≡◌, ℕ, ◌+◌, ◌≤◌, List, [], ◌∷◌, ◌++◌, length, drop, true, false, refl, ap, sym, ◌∙◌, arith}
use Rattle.std.specs.Prelude.{nat_lt, ◌||◌, max}
use Rattle.std.proofs.lemmas.Int.{ints}
use Rattle.std.proofs.lemmas.Bool.Decides.{nat_tests}
use Rattle.shadow_frame.specs.declared.Size.{Size}
use Rattle.native_state.specs.declared.StateCell.{StateCell}
use Rattle.counts.specs.Raised.{raised}
use Rattle.native_state.specs.Made.{MadeCounts, nodes_more}
use Rattle.shadow_node.specs.Forest.{PlainForest, PlainNode, node, depth_of}
use Rattle.shadow_node.specs.Fields.{SettledFields, contents_of}
use Rattle.shadow_node.specs.Falls.{Shared, trees_of, forest_at}
use Rattle.shadow_node.proofs.Trees.{trees_before, trees_before-push, trees_before-none, forest_at-drop_end}
use Rattle.tree_settle.specs.Changes.{changes_in}
use Rattle.tree_settle.specs.Walk.{HasRoomInside, settled_in, settled_tree}

-- room for a forest is room for what follows its first node
pub HasRoomInside-rest : (size : Size) (all children siblings : PlainForest SettledFields) (settled : SettledFields) → all ≡ node settled children siblings
    → HasRoomInside size (depth_of all) → HasRoomInside size (depth_of siblings)
HasRoomInside-rest size all children siblings settled e room =
    let depth : depth_of all ≡ max (depth_of children + 1) (depth_of siblings) = ap depth_of e in
    record {
      width_low = room.width_low;
      width_high = omega (arith, ints, depth, room.width_high);
      height_low = room.height_low;
      height_high = omega (arith, ints, depth, room.height_high);
    }

-- a settled whole that begins with the trees so far begins with one more
pub settled-pushed : (parent : Size) (newest : ℕ → StateCell) (left next whole : PlainForest SettledFields) (tree new : PlainNode SettledFields)
    (all more : List (PlainNode SettledFields)) → left ≡ node tree.fields tree.children next → new ≡ settled_tree parent newest tree → more ≡ all ++ new ∷ []
    → trees_before all (settled_in parent newest (contents_of left)) ≡ whole → trees_before more (settled_in parent newest (contents_of next)) ≡ whole
settled-pushed parent newest left next whole tree new all more l n m w =
    let e : node new.fields new.children (settled_in parent newest (contents_of next)) ≡ settled_in parent newest (contents_of left) = rw (n, l) refl in
    ap (λ trees. trees_before trees (settled_in parent newest (contents_of next))) m
    ∙ trees_before-push all new (settled_in parent newest (contents_of next))
    ∙ ap (trees_before all) e ∙ w

-- once nothing is left, the settled whole is the nodes so far
pub settled-end : (parent : Size) (newest : ℕ → StateCell) (nodes : List Shared) (i : ℕ) (all : List Shared) (whole : PlainForest SettledFields) → length nodes ≤ i
    → trees_before (trees_of all) (settled_in parent newest (contents_of (forest_at (drop i nodes)))) ≡ whole → forest_at all ≡ whole
settled-end parent newest nodes i all whole h w =
    sym (trees_before-none (trees_of all))
    ∙ ap (λ left. trees_before (trees_of all) (settled_in parent newest (contents_of left))) (sym (forest_at-drop_end nodes i h)) ∙ w

-- whether fewer are left than all, once some more are taken
pub fewer_left : (left taken next all : ℕ) → left ≡ taken + next → left ≤ all → (nat_lt left all || nat_lt 0 taken) ≡ nat_lt next all
fewer_left left taken next all e h = grind (arith, nat_tests)

-- where none was taken once nothing is left, none changes
pub none_left : (parent : Size) (newest : ℕ → StateCell) (nodes : List Shared) (i taken all : ℕ) → length nodes ≤ i → taken ≡ 0
    → nat_lt 0 taken ≡ nat_lt (changes_in parent newest (forest_at (drop i nodes))) all → false ≡ nat_lt 0 all
none_left parent newest nodes i taken all h n e =
    rw n at (e ∙ ap (λ left. nat_lt (changes_in parent newest left) all) (forest_at-drop_end nodes i h))

-- counts that rise twice
pub nodes_more-more : (made after whole : MadeCounts) (first second all : ℕ) → after ≡ nodes_more made first → all ≡ first + second → nodes_more made all ≡ whole
    → nodes_more after second ≡ whole
nodes_more-more made after whole first second all a n w =
    let e : raised (raised made.nodes first) second ≡ raised made.nodes (first + second) = omega arith in rw (a, e, ← n) w

-- one more than some is some
pub some_more : (n m : ℕ) → n ≡ m + 1 → true ≡ nat_lt 0 n
some_more n m e = grind (arith, nat_tests)
