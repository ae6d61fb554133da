-- More levels than a host tree needs change nothing.
use Rattle.std.proofs.Common.{◌≡◌, ◌≤◌, ◌+◌, ℕ, zero, suc, List, [], ◌∷◌, length, filter, false, nat_eq, ap, ◌∙◌, arith}
use Rattle.std.specs.List.{AllByRecursion, IsDistinct, flat_map}
use Rattle.std.proofs.lemmas.Bool.{eqb-true, false_from_ne_true}
use Rattle.std.proofs.lemmas.List.{length-map}
use Rattle.shadow_node.specs.Forest.{PlainForest}
use Rattle.shadow_node.specs.Fields.{SettledFields, contents_of, tags_of}
use Rattle.shadow_node.specs.Shown.{Descendant, descendants}
use Rattle.host_views.specs.Plain.{PlainPlacedView}
use Rattle.view_flatten.specs.HostTree.{host_parent, viewed, by_z, placed_from, placed_below, views_below, host_tree_of}
use Rattle.view_flatten.proofs.Shorthands.{is_child_of, is_context, has_view}
use Rattle.view_flatten.proofs.Agree.{same_flat_map, none_kept}
use Rattle.view_flatten.proofs.Distinct.{each_then, each_of_two}
use Rattle.view_flatten.proofs.Order.{tag_at, each_kept}
use Rattle.view_flatten.proofs.Lines.{IsLined, IsOwnLine, line_of_tag, each_own_line, viewed_lined}
use Rattle.view_flatten.proofs.Below.{IsChild, children_below}
use Rattle.view_flatten.proofs.Viewed.{IsHostReached, depth, each_host_reached}

-- a node with a line of at most so many tags
record IsLinedWithin (line : ℕ → List ℕ) (n : ℕ) (here : Descendant) : Type 0 where
  lined : IsLined line here
  within : length (line (tag_at here)) ≤ n

-- a host parent whose line is so long has no children
no_children : (line : ℕ → List ℕ) (n : ℕ) (nodes : List Descendant) → AllByRecursion (IsLinedWithin line n) nodes → (parent : ℕ) → n ≤ length (line parent) → placed_below nodes parent ≡ []
no_children line n nodes h parent long =
    ap (λ kept. placed_from parent 0 (by_z kept))
    (none_kept (is_child_of parent) nodes
    (each_then (IsLinedWithin line n) (λ here. is_child_of parent here ≡ false)
    (λ here own. false_from_ne_true (is_child_of parent here) (λ e. too_long here own (eqb-true (host_parent here.above) parent e))) nodes h))
  where
    too_long : (here : Descendant) → IsLinedWithin line n here → host_parent here.above ≡ parent → ⊥
    too_long here own e =
        let lengths : length (line (tag_at here)) ≡ suc (length (line parent)) = ap length own.lined.line_is ∙ ap (λ p. suc (length (line p))) e in
        let within : length (line (tag_at here)) ≤ n = own.within in
        omega (arith, long)

-- with one more level there is nothing more
one_more : (line : ℕ → List ℕ) (n : ℕ) (nodes : List Descendant) → AllByRecursion (IsLined line) nodes → AllByRecursion (IsLinedWithin line n) nodes → (levels parent : ℕ)
    → n ≤ levels + length (line parent) → views_below (suc levels) nodes parent ≡ views_below levels nodes parent
one_more line n nodes lined h zero parent long =
    ap (flat_map (λ placed. placed ∷ views_below zero nodes placed.tag)) (no_children line n nodes h parent (omega arith))
one_more line n nodes lined h (suc levels) parent long =
    same_flat_map (λ placed. placed ∷ views_below (suc levels) nodes placed.tag) (λ placed. placed ∷ views_below levels nodes placed.tag) (placed_below nodes parent)
    (each_then (IsChild line parent) (λ placed. placed ∷ views_below (suc levels) nodes placed.tag ≡ placed ∷ views_below levels nodes placed.tag)
    (λ placed child. ap (λ below. placed ∷ below) (one_more line n nodes lined h levels placed.tag (deeper placed child))) (placed_below nodes parent) (children_below line nodes parent lined))
  where
    deeper : (placed : PlainPlacedView) → IsChild line parent placed → n ≤ levels + length (line placed.tag)
    deeper placed child = let lengths : length (line placed.tag) ≡ suc (length (line parent)) = ap length child.line_is in omega (arith, long)

-- a forest has as many levels as it has nodes with a view
pub more_levels : (forest : PlainForest SettledFields) → IsDistinct nat_eq (tags_of (contents_of forest)) → AllByRecursion (λ tag. 1 ≤ tag) (tags_of (contents_of forest)) → (more : ℕ)
    → views_below (more + length (viewed forest)) (viewed forest) 0 ≡ host_tree_of forest
more_levels forest distinct low more = add more
  where
    nodes : List Descendant
    nodes = viewed forest

    line : ℕ → List ℕ
    line = line_of_tag forest

    own : AllByRecursion (IsOwnLine line) nodes
    own = each_kept (IsOwnLine line) has_view (descendants forest) (each_own_line forest distinct)

    within : AllByRecursion (IsLinedWithin line (length nodes)) nodes
    within =
        each_then (λ here. (IsHostReached nodes (length nodes) here × IsOwnLine line here) × IsLined line here) (IsLinedWithin line (length nodes))
        (λ here h. record { lined = h.1; within = short here h.0.0 h.0.1 }) nodes
        (each_of_two (λ here. IsHostReached nodes (length nodes) here × IsOwnLine line here) (IsLined line) nodes
        (each_of_two (IsHostReached nodes (length nodes)) (IsOwnLine line) nodes (each_host_reached forest) own) (viewed_lined forest distinct low))
      where
        short : (here : Descendant) → IsHostReached nodes (length nodes) here → IsOwnLine line here → length (line (tag_at here)) ≤ length nodes
        short here h e =
            let lengths : length (line (tag_at here)) ≡ suc (depth here.above) = ap length e ∙ ap suc (length-map (filter is_context here.above) (λ settled. settled.fields.tag)) in
            let room : suc (depth here.above) ≤ length nodes = h.room in
            omega arith

    add : (more : ℕ) → views_below (more + length nodes) nodes 0 ≡ views_below (length nodes) nodes 0
    add zero = let e : zero + length nodes ≡ length nodes = omega arith in ap (λ levels. views_below levels nodes 0) e
    add (suc more) =
        let e : suc more + length nodes ≡ suc (more + length nodes) = omega arith in
        ap (λ levels. views_below levels nodes 0) e
        ∙ one_more line (length nodes) nodes (viewed_lined forest distinct low) within (more + length nodes) 0 (omega arith)
        ∙ add more
