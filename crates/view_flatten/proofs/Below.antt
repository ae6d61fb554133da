-- The views below a host parent: each is placed there, and no tag comes twice.
use Rattle.std.proofs.Common.{◌≡◌, ◌≤◌, ℕ, zero, suc, List, [], ◌∷◌, ◌++◌, length, length-append, append_assoc, filter, true, false, ◌||◌, nat_eq, refl, ap, sym, ◌∙◌, subst, arith}
use Rattle.std.specs.List.{AllByRecursion, IsDistinct, flat_map, list_any}
use Rattle.std.proofs.lemmas.Bool.{or_from, or_right, or_left, eq-eqb, ne_eqb, eqb-true, eqb-false}
use Rattle.std.proofs.lemmas.Map.Keys.{IsDistinct-head, IsDistinct-tail}
use Rattle.std.proofs.lemmas.List.{map-append, append_cancel_right, same_from_push}
use Rattle.shadow_node.specs.Shown.{Descendant}
use Rattle.shadow_node.specs.Forest.{PlainForest}
use Rattle.shadow_node.specs.Fields.{SettledFields, contents_of, tags_of}
use Rattle.host_views.specs.Plain.{PlainPlacedView, PlainHostTree, host_tags}
use Rattle.host_views.specs.HostTree.{has_tag, IsPlacedIn, IsHostTree}
use Rattle.view_flatten.specs.HostTree.{host_parent, view_of, by_z, placed_below, views_below, viewed, host_tree_of}
use Rattle.view_flatten.proofs.Shorthands.{is_child_of}
use Rattle.view_flatten.proofs.Distinct.{not_among, distinct_more, distinct_both, distinct_none, not_in_both, each_in_both, each_in_first, each_in_second, each_then, each_of_two}
use Rattle.view_flatten.proofs.Order.{tag_at, tags_at, each_kept, each_passes, each_by_z, each_placed, tags_placed, distinct_kept, distinct_by_z}
use Rattle.view_flatten.proofs.Lines.{IsLined, line_of_tag, viewed_lined, viewed_distinct}

-- a child of a host parent: its line is its tag, and then the parent's line
pub record IsChild (line : ℕ → List ℕ) (parent : ℕ) (placed : PlainPlacedView) : Type 0 where
  pub tag : 1 ≤ placed.tag
  pub parent_is : placed.parent ≡ parent
  pub line_is : line placed.tag ≡ placed.tag ∷ line parent

-- a lined node of a host parent is its child at any index
child_at : (line : ℕ → List ℕ) (parent : ℕ) (here : Descendant) → IsLined line here × (is_child_of parent here ≡ true) → (at : ℕ)
    → IsChild line parent (record { tag = tag_at here; parent = parent; index = at; view = view_of here })
child_at line parent here h at = record {
  tag = h.0.tag;
  parent_is = refl;
  line_is = h.0.line_is ∙ ap (λ p. tag_at here ∷ line p) (eqb-true (host_parent here.above) parent h.1);
}

-- the placed nodes below a host parent are its children
pub children_below : (line : ℕ → List ℕ) (nodes : List Descendant) (parent : ℕ) → AllByRecursion (IsLined line) nodes → AllByRecursion (IsChild line parent) (placed_below nodes parent)
children_below line nodes parent h =
    let here = filter (is_child_of parent) nodes in
    let own = each_of_two (IsLined line) (λ here. is_child_of parent here ≡ true) here (each_kept (IsLined line) (is_child_of parent) nodes h) (each_passes (is_child_of parent) nodes) in
    let placed = each_then (λ here. IsLined line here × (is_child_of parent here ≡ true)) (λ here. (at : ℕ) → IsChild line parent (record { tag = tag_at here; parent = parent; index = at; view = view_of here })) (child_at line parent) here own in
    each_placed (IsChild line parent) parent 0 (by_z here) (each_by_z (λ here. (at : ℕ) → IsChild line parent (record { tag = tag_at here; parent = parent; index = at; view = view_of here })) here placed)

-- their tags differ
distinct_below : (nodes : List Descendant) (parent : ℕ) → IsDistinct nat_eq (tags_at nodes) → IsDistinct nat_eq (host_tags (placed_below nodes parent))
distinct_below nodes parent d =
    let here = filter (is_child_of parent) nodes in
    subst (IsDistinct nat_eq) (sym (tags_placed parent 0 (by_z here))) (distinct_by_z here (distinct_kept (is_child_of parent) nodes d))

-- a view, and those below it
abbrev block : ℕ → List Descendant → PlainPlacedView → PlainHostTree
block levels nodes placed = placed ∷ views_below levels nodes placed.tag

-- a tag below a host parent: its line ends with the parent's line, after some tags
record IsUnder (line : ℕ → List ℕ) (parent tag : ℕ) : Type 0 where
  front : List ℕ
  ends : line tag ≡ front ++ line parent
  some : 1 ≤ length front

-- a tag in the block of a child: its line ends with the child and the parent's line
record IsInBlock (line : ℕ → List ℕ) (parent child tag : ℕ) : Type 0 where
  front : List ℕ
  ends : line tag ≡ front ++ child ∷ line parent

-- a child is in its own block
in_own_block : (line : ℕ → List ℕ) (parent : ℕ) (child : PlainPlacedView) → IsChild line parent child → IsInBlock line parent child.tag child.tag
in_own_block line parent child c = record { front = []; ends = c.line_is }

-- what is below a child is in its block
in_block : (line : ℕ → List ℕ) (parent : ℕ) (child : PlainPlacedView) (tag : ℕ) → IsChild line parent child → IsUnder line child.tag tag → IsInBlock line parent child.tag tag
in_block line parent child tag c u = record { front = u.front; ends = u.ends ∙ ap (λ rest. u.front ++ rest) c.line_is }

-- a tag in the block of a child is below the parent
under_parent : (line : ℕ → List ℕ) (parent child tag : ℕ) → IsInBlock line parent child tag → IsUnder line parent tag
under_parent line parent child tag b = record {
  front = b.front ++ child ∷ [];
  ends = b.ends ∙ sym (append_assoc b.front (child ∷ []) (line parent));
  some = omega (arith, length-append b.front (child ∷ []));
}

-- a tag is in the block of one child only
one_block : (line : ℕ → List ℕ) (parent a b tag : ℕ) → IsInBlock line parent a tag → IsInBlock line parent b tag → a ≡ b
one_block line parent a b tag h k =
    let whole : (h.front ++ a ∷ []) ++ line parent ≡ (k.front ++ b ∷ []) ++ line parent =
    append_assoc h.front (a ∷ []) (line parent) ∙ sym h.ends ∙ k.ends ∙ sym (append_assoc k.front (b ∷ []) (line parent)) in
    (same_from_push h.front k.front a b (append_cancel_right (h.front ++ a ∷ []) (k.front ++ b ∷ []) (line parent) whole)).1

-- no tag is below itself
not_under_itself : (line : ℕ → List ℕ) (parent tag : ℕ) → IsUnder line parent tag → parent ≡ tag → ⊥
not_under_itself line parent tag u e =
    let some : 1 ≤ length u.front = u.some in
    let lengths : length (line parent) ≡ length (u.front ++ line parent) = ap (λ t. length (line t)) e ∙ ap length u.ends in
    omega (arith, length-append u.front (line parent))

-- the tags of children's blocks are below the parent
under_blocks : (line : ℕ → List ℕ) (levels : ℕ) (nodes : List Descendant) (parent : ℕ) → ((q : ℕ) → AllByRecursion (IsUnder line q) (host_tags (views_below levels nodes q)))
    → (children : PlainHostTree) → AllByRecursion (IsChild line parent) children → AllByRecursion (IsUnder line parent) (host_tags (flat_map (block levels nodes) children))
under_blocks line levels nodes parent below [] h = tt
under_blocks line levels nodes parent below (child ∷ children) h =
    let inner = views_below levels nodes child.tag in
    let rest = flat_map (block levels nodes) children in (
      under_parent line parent child.tag child.tag (in_own_block line parent child h.0),
      subst (AllByRecursion (IsUnder line parent)) (sym (map-append (λ placed. placed.tag) inner rest))
          (each_in_both (IsUnder line parent) (host_tags inner) (host_tags rest)
          (each_then (IsUnder line child.tag) (IsUnder line parent) (λ tag u. under_parent line parent child.tag tag (in_block line parent child tag h.0 u)) (host_tags inner) (below child.tag))
          (under_blocks line levels nodes parent below children h.1)),
    )

-- the tags of the views below a parent are below it
all_under : (line : ℕ → List ℕ) (levels : ℕ) (nodes : List Descendant) → AllByRecursion (IsLined line) nodes → (parent : ℕ)
    → AllByRecursion (IsUnder line parent) (host_tags (views_below levels nodes parent))
all_under line zero nodes h parent = tt
all_under line (suc levels) nodes h parent =
    under_blocks line levels nodes parent (all_under line levels nodes h) (placed_below nodes parent) (children_below line nodes parent h)

-- a tag of one child's block is in no other child's block
not_in_blocks : (line : ℕ → List ℕ) (levels : ℕ) (nodes : List Descendant) (parent child tag : ℕ) → AllByRecursion (IsLined line) nodes → IsInBlock line parent child tag
    → (children : PlainHostTree) → AllByRecursion (IsChild line parent) children → AllByRecursion (λ other. nat_eq child other ≡ false) (host_tags children)
    → list_any (nat_eq tag) (host_tags (flat_map (block levels nodes) children)) ≡ false
not_in_blocks line levels nodes parent child tag lined b [] h apart = refl
not_in_blocks line levels nodes parent child tag lined b (other ∷ children) h apart =
    let inner = views_below levels nodes other.tag in
    let rest = flat_map (block levels nodes) children in
    let clash : (t : ℕ) → IsInBlock line parent other.tag t → nat_eq tag t ≡ false =
    λ t k. ne_eqb tag t (λ e. eqb-false child other.tag apart.0 (one_block line parent child other.tag t (subst (IsInBlock line parent child) e b) k)) in
    or_from (nat_eq tag other.tag) (list_any (nat_eq tag) (host_tags (inner ++ rest))) (clash other.tag (in_own_block line parent other h.0))
    (ap (list_any (nat_eq tag)) (map-append (λ placed. placed.tag) inner rest)
    ∙ not_in_both tag (host_tags inner) (host_tags rest)
    (not_among tag (host_tags inner)
    (each_then (IsUnder line other.tag) (λ t. nat_eq tag t ≡ false) (λ t u. clash t (in_block line parent other t h.0 u)) (host_tags inner) (all_under line levels nodes lined other.tag)))
    (not_in_blocks line levels nodes parent child tag lined b children h.1 apart.1))

-- the tags of children's blocks differ
distinct_blocks : (line : ℕ → List ℕ) (levels : ℕ) (nodes : List Descendant) (parent : ℕ) → AllByRecursion (IsLined line) nodes
    → ((q : ℕ) → IsDistinct nat_eq (host_tags (views_below levels nodes q)))
    → (children : PlainHostTree) → AllByRecursion (IsChild line parent) children → IsDistinct nat_eq (host_tags children)
    → IsDistinct nat_eq (host_tags (flat_map (block levels nodes) children))
distinct_blocks line levels nodes parent lined inside [] h d = distinct_none
distinct_blocks line levels nodes parent lined inside (child ∷ children) h d =
    let inner = views_below levels nodes child.tag in
    let rest = flat_map (block levels nodes) children in
    let apart = IsDistinct-head nat_eq child.tag (host_tags children) d in
    let under = all_under line levels nodes lined child.tag in
    let elsewhere : (t : ℕ) → IsInBlock line parent child.tag t → list_any (nat_eq t) (host_tags rest) ≡ false =
    λ t k. not_in_blocks line levels nodes parent child.tag t lined k children h.1 apart in
    let others = distinct_blocks line levels nodes parent lined inside children h.1 (IsDistinct-tail nat_eq child.tag (host_tags children) d) in
    let not_itself = not_among child.tag (host_tags inner)
    (each_then (IsUnder line child.tag) (λ t. nat_eq child.tag t ≡ false) (λ t u. ne_eqb child.tag t (not_under_itself line child.tag t u)) (host_tags inner) under) in
    subst (IsDistinct nat_eq) (sym (map-append (λ placed. placed.tag) (child ∷ inner) rest))
    (distinct_both (child.tag ∷ host_tags inner) (host_tags rest) (distinct_more child.tag (host_tags inner) not_itself (inside child.tag)) others
    (elsewhere child.tag (in_own_block line parent child h.0), each_then (IsUnder line child.tag) (λ t. list_any (nat_eq t) (host_tags rest) ≡ false) (λ t u. elsewhere t (in_block line parent child t h.0 u)) (host_tags inner) under))

-- the tags of the views below a parent differ
all_distinct : (line : ℕ → List ℕ) (levels : ℕ) (nodes : List Descendant) → AllByRecursion (IsLined line) nodes → IsDistinct nat_eq (tags_at nodes) → (parent : ℕ)
    → IsDistinct nat_eq (host_tags (views_below levels nodes parent))
all_distinct line zero nodes h d parent = distinct_none
all_distinct line (suc levels) nodes h d parent =
    distinct_blocks line levels nodes parent h (all_distinct line levels nodes h d) (placed_below nodes parent) (children_below line nodes parent h) (distinct_below nodes parent d)

-- a tag of a tree
abbrev IsThere : PlainHostTree → ℕ → Type 0
IsThere tree tag = has_tag tree tag ≡ true

-- a child is placed in a tree where its parent is the root or there
placed_child : (tree : PlainHostTree) (line : ℕ → List ℕ) (parent : ℕ) (placed : PlainPlacedView) → IsChild line parent placed → (nat_eq parent 0 || has_tag tree parent) ≡ true
    → IsPlacedIn tree placed
placed_child tree line parent placed c h = record {
  tag = c.tag;
  other = λ e. not_under_itself line parent placed.tag (under_parent line parent placed.tag placed.tag (in_own_block line parent placed c)) (sym c.parent_is ∙ e);
  parent = ap (λ p. nat_eq p 0 || has_tag tree p) c.parent_is ∙ h;
}

-- children's blocks are placed in a tree that has their tags
placed_blocks : (tree : PlainHostTree) (line : ℕ → List ℕ) (levels : ℕ) (nodes : List Descendant) (parent : ℕ)
    → ((q : ℕ) → AllByRecursion (IsThere tree) (host_tags (views_below levels nodes q)) → (nat_eq q 0 || has_tag tree q) ≡ true → AllByRecursion (IsPlacedIn tree) (views_below levels nodes q))
    → (nat_eq parent 0 || has_tag tree parent) ≡ true
    → (children : PlainHostTree) → AllByRecursion (IsChild line parent) children → AllByRecursion (IsThere tree) (host_tags (flat_map (block levels nodes) children))
    → AllByRecursion (IsPlacedIn tree) (flat_map (block levels nodes) children)
placed_blocks tree line levels nodes parent inside e [] h there = tt
placed_blocks tree line levels nodes parent inside e (child ∷ children) h there =
    let inner = views_below levels nodes child.tag in
    let rest = flat_map (block levels nodes) children in
    let parts = subst (AllByRecursion (IsThere tree)) (map-append (λ placed. placed.tag) inner rest) there.1 in (
      placed_child tree line parent child h.0 e,
      each_in_both (IsPlacedIn tree) inner rest
          (inside child.tag (each_in_first (IsThere tree) (host_tags inner) (host_tags rest) parts) (or_right (nat_eq child.tag 0) (has_tag tree child.tag) there.0))
          (placed_blocks tree line levels nodes parent inside e children h.1 (each_in_second (IsThere tree) (host_tags inner) (host_tags rest) parts)),
    )

-- the views below a parent are placed in a tree that has their tags
all_placed : (tree : PlainHostTree) (line : ℕ → List ℕ) (levels : ℕ) (nodes : List Descendant) → AllByRecursion (IsLined line) nodes → (parent : ℕ)
    → AllByRecursion (IsThere tree) (host_tags (views_below levels nodes parent)) → (nat_eq parent 0 || has_tag tree parent) ≡ true
    → AllByRecursion (IsPlacedIn tree) (views_below levels nodes parent)
all_placed tree line zero nodes h parent there e = tt
all_placed tree line (suc levels) nodes h parent there e =
    placed_blocks tree line levels nodes parent (all_placed tree line levels nodes h) e (placed_below nodes parent) (children_below line nodes parent h) there

-- a tree has its own tags
has_own_tags : (tree : PlainHostTree) → AllByRecursion (IsThere tree) (host_tags tree)
has_own_tags [] = tt
has_own_tags (x ∷ xs) = (
  or_left (nat_eq x.tag x.tag) (has_tag xs x.tag) (eq-eqb x.tag x.tag refl),
  each_then (IsThere xs) (IsThere (x ∷ xs)) (λ tag h. or_right (nat_eq x.tag tag) (has_tag xs tag) h) (host_tags xs) (has_own_tags xs),
)

-- the host tree of a forest whose tags differ and are tags of nodes
pub is_host_tree : (forest : PlainForest SettledFields) → IsDistinct nat_eq (tags_of (contents_of forest)) → AllByRecursion (λ tag. 1 ≤ tag) (tags_of (contents_of forest))
    → IsHostTree (host_tree_of forest)
is_host_tree forest distinct low =
    let nodes = viewed forest in
    let line = line_of_tag forest in
    let lined = viewed_lined forest distinct low in
    record {
      tags = all_distinct line (length nodes) nodes lined (viewed_distinct forest distinct) 0;
      views = all_placed (host_tree_of forest) line (length nodes) nodes lined 0 (has_own_tags (host_tree_of forest)) refl;
    }
