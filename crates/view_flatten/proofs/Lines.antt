-- The line of a tag: the tag, and then its host parent's line.
use Rattle.std.proofs.Common.{◌≡◌, ◌≤◌, ℕ, List, [], ◌∷◌, ◌++◌, map, filter, true, false, cond, nat_eq, refl, ap, sym, ◌∙◌, subst, arith}
use Rattle.std.specs.List.{AllByRecursion, IsDistinct}
use Rattle.std.proofs.lemmas.Bool.{eq-eqb, ne_eqb}
use Rattle.std.proofs.lemmas.List.{map-append}
use Rattle.std.proofs.lemmas.Map.Keys.{IsDistinct-head, IsDistinct-tail}
use Rattle.shadow_node.specs.Forest.{PlainForest, none, node, preorder}
use Rattle.shadow_node.specs.Fields.{SettledFields, contents_of, tags_of}
use Rattle.shadow_node.specs.Shown.{Descendant, descendants, descendants_below}
use Rattle.view_flatten.specs.HostTree.{host_parent, viewed}
use Rattle.view_flatten.proofs.Shorthands.{is_context, has_view}
use Rattle.view_flatten.proofs.Distinct.{each_in_first, each_in_second, each_in_both}
use Rattle.view_flatten.proofs.Order.{tag_at, tags_at, each_kept, distinct_kept}

-- the tags of the ancestors that form a context, the nearest first
abbrev pub hosts : List SettledFields → List ℕ
hosts above = map (λ settled. settled.fields.tag) (filter is_context above)

-- the line of a tag among some nodes; empty where no node has it
abbrev pub line_in : List Descendant → ℕ → List ℕ
line_in [] tag = []
line_in (here ∷ others) tag = cond (nat_eq (tag_at here) tag) (tag_at here ∷ hosts here.above) (line_in others tag)

-- each ancestor's line is its tag, and then those that host it
abbrev AreLined : (ℕ → List ℕ) → List SettledFields → Type 0
AreLined line [] = Unit {0}
AreLined line (parent ∷ above) = (line parent.fields.tag ≡ parent.fields.tag ∷ hosts above) × AreLined line above

-- a node's line is its tag, and then its host parent's line; its tag is that of a node
pub record IsLined (line : ℕ → List ℕ) (here : Descendant) : Type 0 where
  pub tag : 1 ≤ here.settled.fields.tag
  pub line_is : line here.settled.fields.tag ≡ here.settled.fields.tag ∷ line (host_parent here.above)

-- the host parent's line
line_of_host : (line : ℕ → List ℕ) (above : List SettledFields) → line 0 ≡ [] → AreLined line above → line (host_parent above) ≡ hosts above
line_of_host line [] root h = root
line_of_host line (parent ∷ above) root h =
    elim (is_context parent) as (λ b. line (cond b parent.fields.tag (host_parent above)) ≡ map (λ settled. settled.fields.tag) (cond b (parent ∷ filter is_context above) (filter is_context above))) [
      | true ↦ h.0
      | false ↦ line_of_host line above root h.1
    ]

-- a node's line among some nodes, where it is found
abbrev pub IsOwnLine : (ℕ → List ℕ) → Descendant → Type 0
IsOwnLine line here = line (tag_at here) ≡ tag_at here ∷ hosts here.above

-- a line is found behind a node of another tag
line_behind : (here : Descendant) (others nodes : List Descendant) → AllByRecursion (λ tag. nat_eq (tag_at here) tag ≡ false) (tags_at nodes)
    → AllByRecursion (IsOwnLine (line_in others)) nodes → AllByRecursion (IsOwnLine (line_in (here ∷ others))) nodes
line_behind here others [] h k = tt
line_behind here others (x ∷ nodes) h k =
    (ap (λ b. cond b (tag_at here ∷ hosts here.above) (line_in others (tag_at x))) h.0 ∙ k.0, line_behind here others nodes h.1 k.1)

-- each node's line is found by its tag
own_lines : (nodes : List Descendant) → IsDistinct nat_eq (tags_at nodes) → AllByRecursion (IsOwnLine (line_in nodes)) nodes
own_lines [] d = tt
own_lines (here ∷ others) d = (
  ap (λ b. cond b (tag_at here ∷ hosts here.above) (line_in others (tag_at here))) (eq-eqb (tag_at here) (tag_at here) refl),
  line_behind here others others (IsDistinct-head nat_eq (tag_at here) (tags_at others) d) (own_lines others (IsDistinct-tail nat_eq (tag_at here) (tags_at others) d)),
)

-- each node's ancestors are lined
ancestors_lined : (line : ℕ → List ℕ) (above : List SettledFields) (forest : PlainForest SettledFields) → AreLined line above
    → AllByRecursion (IsOwnLine line) (descendants_below above forest) → AllByRecursion (λ here. AreLined line here.above) (descendants_below above forest)
ancestors_lined line above none h own = tt
ancestors_lined line above (node settled children siblings) h own =
    let below = descendants_below (settled ∷ above) children in
    let beside = descendants_below above siblings in (
      h,
      each_in_both (λ here. AreLined line here.above) below beside
          (ancestors_lined line (settled ∷ above) children (own.0, h) (each_in_first (IsOwnLine line) below beside own.1))
          (ancestors_lined line above siblings h (each_in_second (IsOwnLine line) below beside own.1)),
    )

-- the tags of the nodes in preorder
pub tags_below : (above : List SettledFields) (forest : PlainForest SettledFields) → tags_at (descendants_below above forest) ≡ tags_of (contents_of forest)
tags_below above none = refl
tags_below above (node settled children siblings) =
    ap (λ rest. settled.fields.tag ∷ rest)
    (map-append tag_at (descendants_below (settled ∷ above) children) (descendants_below above siblings)
    ∙ (λ i. tags_below (settled ∷ above) children i ++ tags_below above siblings i)
    ∙ sym (map-append (λ fields. fields.tag) (preorder (contents_of children)) (preorder (contents_of siblings))))

-- no node has the tag 0
no_line_of_root : (nodes : List Descendant) → AllByRecursion (λ tag. 1 ≤ tag) (tags_at nodes) → line_in nodes 0 ≡ []
no_line_of_root [] h = refl
no_line_of_root (here ∷ others) h =
    let low : 1 ≤ tag_at here = h.0 in
    rw (ne_eqb (tag_at here) 0 (λ e. omega arith)) (no_line_of_root others h.1)

-- nodes whose lines are found and whose ancestors are lined are lined
lined_each : (line : ℕ → List ℕ) (nodes : List Descendant) → line 0 ≡ [] → AllByRecursion (λ tag. 1 ≤ tag) (tags_at nodes) → AllByRecursion (IsOwnLine line) nodes
    → AllByRecursion (λ here. AreLined line here.above) nodes → AllByRecursion (IsLined line) nodes
lined_each line [] root low own lined = tt
lined_each line (here ∷ others) root low own lined = (
  record { tag = low.0; line_is = own.0 ∙ ap (λ rest. tag_at here ∷ rest) (sym (line_of_host line here.above root lined.0)) },
  lined_each line others root low.1 own.1 lined.1,
)

-- the line of a tag of a forest
abbrev pub line_of_tag : PlainForest SettledFields → ℕ → List ℕ
line_of_tag forest = line_in (descendants forest)

-- each node's line is its tag, and then those that host it
pub each_own_line : (forest : PlainForest SettledFields) → IsDistinct nat_eq (tags_of (contents_of forest)) → AllByRecursion (IsOwnLine (line_of_tag forest)) (descendants forest)
each_own_line forest distinct = own_lines (descendants forest) (subst (IsDistinct nat_eq) (sym (tags_below [] forest)) distinct)

-- each node that has a view is lined
pub viewed_lined : (forest : PlainForest SettledFields) → IsDistinct nat_eq (tags_of (contents_of forest)) → AllByRecursion (λ tag. 1 ≤ tag) (tags_of (contents_of forest))
    → AllByRecursion (IsLined (line_of_tag forest)) (viewed forest)
viewed_lined forest distinct low =
    let own = each_own_line forest distinct in
    let low_here = subst (AllByRecursion (λ tag. 1 ≤ tag)) (sym (tags_below [] forest)) low in
    each_kept (IsLined (line_of_tag forest)) has_view (descendants forest)
    (lined_each (line_of_tag forest) (descendants forest) (no_line_of_root (descendants forest) low_here) low_here own
    (ancestors_lined (line_of_tag forest) [] forest tt own))

-- the tags of the nodes that have a view differ
pub viewed_distinct : (forest : PlainForest SettledFields) → IsDistinct nat_eq (tags_of (contents_of forest)) → IsDistinct nat_eq (tags_at (viewed forest))
viewed_distinct forest distinct = distinct_kept has_view (descendants forest) (subst (IsDistinct nat_eq) (sym (tags_below [] forest)) distinct)
