-- Nodes that are filtered and ordered by z are the same nodes.
use Rattle.std.proofs.Common.{◌≡◌, ℕ, ◌+◌, List, [], ◌∷◌, map, filter, Bool, true, false, cond, nat_eq, arith, refl, ap}
use Rattle.std.specs.Prelude.{int_lt}
use Rattle.std.specs.List.{AllByRecursion, IsDistinct, list_any}
use Rattle.std.proofs.lemmas.Bool.{or_parts, or_from}
use Rattle.std.proofs.lemmas.Bool.Decides.{nat_tests}
use Rattle.std.proofs.lemmas.Map.Keys.{IsDistinct-head, IsDistinct-tail}
use Rattle.shadow_kinds.specs.Axes.{z_order_of}
use Rattle.shadow_node.specs.Shown.{Descendant}
use Rattle.host_views.specs.Plain.{PlainPlacedView, host_tags}
use Rattle.view_flatten.specs.HostTree.{view_of, put_by_z, by_z, placed_from}
use Rattle.view_flatten.proofs.Distinct.{not_among, distinct_more}

-- a node's tag
abbrev pub tag_at : Descendant → ℕ
tag_at here = here.settled.fields.tag

-- the tags of nodes
abbrev pub tags_at : List Descendant → List ℕ
tags_at nodes = map tag_at nodes

-- whether a node comes before another one by z
abbrev is_below : Descendant → Descendant → Bool
is_below other here = int_lt (z_order_of other.settled.fields.props) (z_order_of here.settled.fields.props)

-- what holds of each still holds of each that passes a test
pub each_kept : (P : Descendant → Type 0) (test : Descendant → Bool) (nodes : List Descendant) → AllByRecursion P nodes → AllByRecursion P (filter test nodes)
each_kept P test [] h = tt
each_kept P test (here ∷ nodes) h =
    elim (test here) as (λ b. AllByRecursion P (cond b (here ∷ filter test nodes) (filter test nodes))) [
      | true ↦ (h.0, each_kept P test nodes h.1)
      | false ↦ each_kept P test nodes h.1
    ]

-- each that passes a test passes it
pub each_passes : (test : Descendant → Bool) (nodes : List Descendant) → AllByRecursion (λ here. test here ≡ true) (filter test nodes)
each_passes test [] = tt
each_passes test (here ∷ nodes) = go (test here) refl (each_passes test nodes)
  where
    go : (b : Bool) → test here ≡ b → AllByRecursion (λ here. test here ≡ true) (filter test nodes)
        → AllByRecursion (λ here. test here ≡ true) (cond b (here ∷ filter test nodes) (filter test nodes))
    go true e others = (e, others)
    go false e others = others

-- a tag that is not there is not among those that pass
pub not_kept : (tag : ℕ) (test : Descendant → Bool) (nodes : List Descendant) → list_any (nat_eq tag) (tags_at nodes) ≡ false → list_any (nat_eq tag) (tags_at (filter test nodes)) ≡ false
not_kept tag test [] h = refl
not_kept tag test (here ∷ nodes) h =
    let parts = or_parts (nat_eq tag (tag_at here)) (list_any (nat_eq tag) (tags_at nodes)) h in
    elim (test here) as (λ b. list_any (nat_eq tag) (tags_at (cond b (here ∷ filter test nodes) (filter test nodes))) ≡ false) [
      | true ↦ or_from (nat_eq tag (tag_at here)) (list_any (nat_eq tag) (tags_at (filter test nodes))) parts.0 (not_kept tag test nodes parts.1)
      | false ↦ not_kept tag test nodes parts.1
    ]

-- tags that differ still differ where some pass a test
pub distinct_kept : (test : Descendant → Bool) (nodes : List Descendant) → IsDistinct nat_eq (tags_at nodes) → IsDistinct nat_eq (tags_at (filter test nodes))
distinct_kept test [] d = d
distinct_kept test (here ∷ nodes) d =
    let others = distinct_kept test nodes (IsDistinct-tail nat_eq (tag_at here) (tags_at nodes) d) in
    let gone = not_kept (tag_at here) test nodes (not_among (tag_at here) (tags_at nodes) (IsDistinct-head nat_eq (tag_at here) (tags_at nodes) d)) in
    elim (test here) as (λ b. IsDistinct nat_eq (tags_at (cond b (here ∷ filter test nodes) (filter test nodes)))) [
      | true ↦ distinct_more (tag_at here) (tags_at (filter test nodes)) gone others
      | false ↦ others
    ]

-- what holds of a node and of each other holds of each once it is put among them
pub each_put : (P : Descendant → Type 0) (here : Descendant) (others : List Descendant) → P here → AllByRecursion P others → AllByRecursion P (put_by_z here others)
each_put P here [] p h = (p, tt)
each_put P here (other ∷ others) p h =
    elim (is_below other here) as (λ b. AllByRecursion P (cond b (other ∷ put_by_z here others) (here ∷ other ∷ others))) [
      | true ↦ (h.0, each_put P here others p h.1)
      | false ↦ (p, h)
    ]

-- what holds of each holds of each in the order by z
pub each_by_z : (P : Descendant → Type 0) (nodes : List Descendant) → AllByRecursion P nodes → AllByRecursion P (by_z nodes)
each_by_z P [] h = tt
each_by_z P (here ∷ others) h = each_put P here (by_z others) h.0 (each_by_z P others h.1)

-- a tag that is neither the node's nor among the others is not among them once it is put
not_put : (tag : ℕ) (here : Descendant) (others : List Descendant) → nat_eq tag (tag_at here) ≡ false → list_any (nat_eq tag) (tags_at others) ≡ false
    → list_any (nat_eq tag) (tags_at (put_by_z here others)) ≡ false
not_put tag here [] e h = or_from (nat_eq tag (tag_at here)) false e refl
not_put tag here (other ∷ others) e h =
    let parts = or_parts (nat_eq tag (tag_at other)) (list_any (nat_eq tag) (tags_at others)) h in
    elim (is_below other here) as (λ b. list_any (nat_eq tag) (tags_at (cond b (other ∷ put_by_z here others) (here ∷ other ∷ others))) ≡ false) [
      | true ↦ or_from (nat_eq tag (tag_at other)) (list_any (nat_eq tag) (tags_at (put_by_z here others))) parts.0 (not_put tag here others e parts.1)
      | false ↦ or_from (nat_eq tag (tag_at here)) (list_any (nat_eq tag) (tags_at (other ∷ others))) e h
    ]

-- a tag that is not there is not among the nodes ordered by z
not_by_z : (tag : ℕ) (nodes : List Descendant) → list_any (nat_eq tag) (tags_at nodes) ≡ false → list_any (nat_eq tag) (tags_at (by_z nodes)) ≡ false
not_by_z tag [] h = refl
not_by_z tag (here ∷ others) h =
    let parts = or_parts (nat_eq tag (tag_at here)) (list_any (nat_eq tag) (tags_at others)) h in
    not_put tag here (by_z others) parts.0 (not_by_z tag others parts.1)

-- a node with another tag than the others, put among them
distinct_put : (here : Descendant) (others : List Descendant) → list_any (nat_eq (tag_at here)) (tags_at others) ≡ false → IsDistinct nat_eq (tags_at others)
    → IsDistinct nat_eq (tags_at (put_by_z here others))
distinct_put here [] h d = distinct_more (tag_at here) [] refl d
distinct_put here (other ∷ others) h d =
    let parts = or_parts (nat_eq (tag_at here) (tag_at other)) (list_any (nat_eq (tag_at here)) (tags_at others)) h in
    let apart : nat_eq (tag_at here) (tag_at other) ≡ false = parts.0 in
    let flipped : nat_eq (tag_at other) (tag_at here) ≡ false = grind (arith, nat_tests) in
    let past = not_among (tag_at other) (tags_at others) (IsDistinct-head nat_eq (tag_at other) (tags_at others) d) in
    elim (is_below other here) as (λ b. IsDistinct nat_eq (tags_at (cond b (other ∷ put_by_z here others) (here ∷ other ∷ others)))) [
      | true ↦
          distinct_more (tag_at other) (tags_at (put_by_z here others)) (not_put (tag_at other) here others flipped past)
          (distinct_put here others parts.1 (IsDistinct-tail nat_eq (tag_at other) (tags_at others) d))
      | false ↦ distinct_more (tag_at here) (tags_at (other ∷ others)) h d
    ]

-- tags that differ still differ in the order by z
pub distinct_by_z : (nodes : List Descendant) → IsDistinct nat_eq (tags_at nodes) → IsDistinct nat_eq (tags_at (by_z nodes))
distinct_by_z [] d = d
distinct_by_z (here ∷ others) d =
    distinct_put here (by_z others) (not_by_z (tag_at here) others (not_among (tag_at here) (tags_at others) (IsDistinct-head nat_eq (tag_at here) (tags_at others) d)))
    (distinct_by_z others (IsDistinct-tail nat_eq (tag_at here) (tags_at others) d))

-- the tags of placed nodes are theirs
pub tags_placed : (parent index : ℕ) (nodes : List Descendant) → host_tags (placed_from parent index nodes) ≡ tags_at nodes
tags_placed parent index [] = refl
tags_placed parent index (here ∷ others) = ap (λ rest. tag_at here ∷ rest) (tags_placed parent (index + 1) others)

-- what holds of each node at its place holds of each placed view
pub each_placed : (P : PlainPlacedView → Type 0) (parent index : ℕ) (nodes : List Descendant)
    → AllByRecursion (λ here. (at : ℕ) → P (record { tag = tag_at here; parent = parent; index = at; view = view_of here })) nodes → AllByRecursion P (placed_from parent index nodes)
each_placed P parent index [] h = tt
each_placed P parent index (here ∷ others) h = (h.0 index, each_placed P parent (index + 1) others h.1)
