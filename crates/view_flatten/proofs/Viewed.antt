-- Each node that has a view has its place in the host tree, and each view there is that of a node.
use Rattle.std.proofs.Common.{◌≡◌, ◌≤◌, ◌⊎◌, inl, inr, ℕ, zero, suc, ◌+◌, ◌-◌, List, [], ◌∷◌, ◌++◌, length, length-append, filter, Bool, true, false, cond, not, Contains, refl, ap, sym, ◌∙◌, subst, arith}
use Rattle.std.specs.Prelude.{int_lt}
use Rattle.std.specs.List.{AllByRecursion, flat_map, list_any}
use Rattle.std.proofs.lemmas.Bool.{and_from, not-true, and_parts, or_parts, cases_Bool, eq-eqb}
use Rattle.std.proofs.lemmas.List.Elements.{filter-append}
use Rattle.shadow_kinds.specs.Axes.{z_order_of}
use Rattle.shadow_kinds.specs.Traits.{forms_context_of, forms_view_of, is_hidden_of}
use Rattle.shadow_node.specs.Forest.{PlainForest, none, node}
use Rattle.shadow_node.specs.Fields.{SettledFields}
use Rattle.shadow_node.specs.Shown.{Descendant, descendants, descendants_below, is_shown}
use Rattle.host_views.specs.Plain.{PlainPlacedView, PlainHostTree}
use Rattle.view_flatten.specs.HostTree.{host_parent, viewed, view_of, put_by_z, by_z, placed_from, placed_below, views_below, host_tree_of}
use Rattle.view_flatten.proofs.Shorthands.{is_context, has_view, is_child_of}
use Rattle.view_flatten.specs.Places.{placed_at, HasItsPlace, IsOfOne}
use Rattle.view_flatten.proofs.Agree.{IsPart, part_past, part_of_first, part_of_second}
use Rattle.view_flatten.proofs.Distinct.{each_in_both, each_in_first, each_in_second, each_then, each_of_two}
use Rattle.view_flatten.proofs.Order.{tag_at, each_kept, each_passes}
use Rattle.view_flatten.proofs.Views.{each_placed_view}

-- an item is in a list
abbrev pub IsIn : {X : Type 0} → X → List X → Type 0
IsIn x [] = ⊥
IsIn x (y ∷ ys) = (x ≡ y) ⊎ IsIn x ys

-- each item of a list is in it
pub each_in : {X : Type 0} (xs ys : List X) → ((x : X) → IsIn x xs → IsIn x ys) → AllByRecursion (λ x. IsIn x ys) xs
each_in [] ys h = tt
each_in (x ∷ xs) ys h = (h x (inl refl), each_in xs ys (λ y k. h y (inr k)))

-- an item is contained at its index
pub contained : {X : Type 0} (x : X) (xs : List X) → IsIn x xs → Contains xs x
contained x [] h = absurd h
contained x (y ∷ xs) (inl e) = (zero, omega arith, sym e)
contained x (y ∷ xs) (inr h) =
    let later = contained x xs h in
    let within : suc later.0 ≤ length xs = later.1 in
    (suc later.0, omega arith, later.2)

-- an item that passes a test is in what is kept
in_kept : (test : Descendant → Bool) (here : Descendant) (nodes : List Descendant) → test here ≡ true → IsIn here nodes → IsIn here (filter test nodes)
in_kept test here [] e h = absurd h
in_kept test here (x ∷ nodes) e (inl same) = rw (ap test (sym same) ∙ e) (inl same)
in_kept test here (x ∷ nodes) e (inr h) =
    elim (test x) as (λ b. IsIn here (cond b (x ∷ filter test nodes) (filter test nodes))) [
      | true ↦ inr (in_kept test here nodes e h)
      | false ↦ in_kept test here nodes e h
    ]

-- a node that is put among others is there, and so are they
in_put : (here x : Descendant) (others : List Descendant) → IsIn here (x ∷ others) → IsIn here (put_by_z x others)
in_put here x [] h = h
in_put here x (other ∷ others) h =
    elim (int_lt (z_order_of other.settled.fields.props) (z_order_of x.settled.fields.props)) as (λ b. IsIn here (cond b (other ∷ put_by_z x others) (x ∷ other ∷ others))) [
      | true ↦ past here x other others h (in_put here x others)
      | false ↦ h
    ]
  where
    past : (here x other : Descendant) (others : List Descendant) → IsIn here (x ∷ other ∷ others) → (IsIn here (x ∷ others) → IsIn here (put_by_z x others)) → IsIn here (other ∷ put_by_z x others)
    past here x other others (inl e) put = inr (put (inl e))
    past here x other others (inr (inl e)) put = inl e
    past here x other others (inr (inr h)) put = inr (put (inr h))

-- a node is among the nodes ordered by z
in_by_z : (here : Descendant) (nodes : List Descendant) → IsIn here nodes → IsIn here (by_z nodes)
in_by_z here [] h = h
in_by_z here (x ∷ nodes) (inl e) = in_put here x (by_z nodes) (inl e)
in_by_z here (x ∷ nodes) (inr h) = in_put here x (by_z nodes) (inr (in_by_z here nodes h))

-- the view of a node at some index of a parent
abbrev pub IsPlacedUnder : PlainHostTree → ℕ → Descendant → Type 0
IsPlacedUnder tree parent here = (index : ℕ) × IsIn (record { tag = tag_at here; parent = parent; index = index; view = view_of here }) tree

-- a node is placed at some index
in_placed : (here : Descendant) (parent index : ℕ) (nodes : List Descendant) → IsIn here nodes → IsPlacedUnder (placed_from parent index nodes) parent here
in_placed here parent index [] h = absurd h
in_placed here parent index (x ∷ nodes) (inl e) = (index, inl (ap (λ d. record { tag = tag_at d; parent = parent; index = index; view = view_of d }) e))
in_placed here parent index (x ∷ nodes) (inr h) = let later = in_placed here parent (index + 1) nodes h in (later.0, inr later.1)

-- a node that has a view is placed below its host parent
placed_child : (nodes : List Descendant) (here : Descendant) → IsIn here nodes → IsPlacedUnder (placed_below nodes (host_parent here.above)) (host_parent here.above) here
placed_child nodes here h =
    let parent = host_parent here.above in
    let kept = filter (is_child_of parent) nodes in
    in_placed here parent 0 (by_z kept) (in_by_z here kept (in_kept (is_child_of parent) here nodes (eq-eqb parent parent refl) h))

-- the children are a part of their blocks
own_part : (levels : ℕ) (nodes : List Descendant) (children : PlainHostTree) → IsPart children (flat_map (λ placed. placed ∷ views_below levels nodes placed.tag) children)
own_part levels nodes [] = tt
own_part levels nodes (child ∷ children) =
    inl (refl, part_of_second children (views_below levels nodes child.tag) (flat_map (λ placed. placed ∷ views_below levels nodes placed.tag) children) (own_part levels nodes children))

-- and so is a part of what is below a child
below_part : (levels : ℕ) (nodes : List Descendant) (c : PlainPlacedView) (ds children : PlainHostTree) → IsIn c children → IsPart ds (views_below levels nodes c.tag)
    → IsPart ds (flat_map (λ placed. placed ∷ views_below levels nodes placed.tag) children)
below_part levels nodes c ds [] h k = absurd h
below_part levels nodes c ds (child ∷ children) (inl e) k =
    let below = views_below levels nodes child.tag in
    let rest = flat_map (λ placed. placed ∷ views_below levels nodes placed.tag) children in
    part_past ds child (below ++ rest) (part_of_first ds below rest (subst (λ x. IsPart ds (views_below levels nodes x.tag)) e k))
below_part levels nodes c ds (child ∷ children) (inr h) k =
    let below = views_below levels nodes child.tag in
    let rest = flat_map (λ placed. placed ∷ views_below levels nodes placed.tag) children in
    part_past ds child (below ++ rest) (part_of_second ds below rest (below_part levels nodes c ds children h k))

-- a node hides what lies below it
abbrev hides : SettledFields → Bool
hides settled = is_hidden_of settled.fields.props

-- how many of some ancestors form a context
abbrev pub depth : List SettledFields → ℕ
depth above = length (filter is_context above)

-- where a node has a view, neither it nor an ancestor is hidden
unhidden : (here : Descendant) → has_view here ≡ true → list_any hides (here.settled ∷ here.above) ≡ false
unhidden here h = not-true (list_any hides (here.settled ∷ here.above)) (and_parts (forms_view_of here.settled.fields.kind here.settled.fields.props) (is_shown here) h).1

-- a context that is shown has a view
context_viewed : (settled : SettledFields) (above : List SettledFields) → is_context settled ≡ true → list_any hides (settled ∷ above) ≡ false
    → has_view (record { settled = settled; above = above }) ≡ true
context_viewed settled above c h =
    and_from (forms_view_of settled.fields.kind settled.fields.props) (is_shown (record { settled = settled; above = above }))
    (forms c) (ap not h)
  where
    forms : forms_context_of settled.fields.kind settled.fields.props ≡ true → forms_view_of settled.fields.kind settled.fields.props ≡ true
    forms e = rw e refl

-- a part of what is below the host parent of some ancestors is a part of what is below the root, as many levels further down as there are contexts among them
abbrev IsReached : List Descendant → List SettledFields → Type 0
IsReached nodes above = (levels : ℕ) (ds : PlainHostTree) → list_any hides above ≡ false → IsPart ds (views_below levels nodes (host_parent above))
    → IsPart ds (views_below (levels + depth above) nodes 0)

-- what is below the root is below the root
reached_root : (nodes : List Descendant) → IsReached nodes []
reached_root nodes levels ds h i = let e : levels ≡ levels + 0 = omega arith in subst (λ n. IsPart ds (views_below n nodes 0)) e i

-- one more ancestor
reached_more : (nodes : List Descendant) (settled : SettledFields) (above : List SettledFields) → (has_view (record { settled = settled; above = above }) ≡ true → IsIn (record { settled = settled; above = above }) nodes)
    → IsReached nodes above → IsReached nodes (settled ∷ above)
reached_more nodes settled above own reached levels ds h i =
    let here : Descendant = record { settled = settled; above = above } in
    let free = (or_parts (hides settled) (list_any hides above) h).1 in
    elim (cases_Bool (is_context settled)) as (λ c. IsPart ds (views_below (levels + depth (settled ∷ above)) nodes 0)) [
      | inl context ↦
          let place = placed_child nodes here (own (context_viewed settled above context h)) in
          let below : IsPart ds (views_below levels nodes settled.fields.tag) = subst (λ b. IsPart ds (views_below levels nodes (cond b settled.fields.tag (host_parent above)))) context i in
          let up : IsPart ds (views_below (suc levels) nodes (host_parent above)) = below_part levels nodes _ ds (placed_below nodes (host_parent above)) place.1 below in
          let e : suc levels + depth above ≡ levels + suc (depth above) = omega arith in
          rw context (subst (λ n. IsPart ds (views_below n nodes 0)) e (reached (suc levels) ds free up))
      | inr other ↦ rw other (reached levels ds free (subst (λ b. IsPart ds (views_below levels nodes (cond b settled.fields.tag (host_parent above)))) other i))
    ]

-- a node that has a view counts, and others count on
counted : (here : Descendant) (others : List Descendant) → has_view here ≡ true → length (filter has_view (here ∷ others)) ≡ suc (length (filter has_view others))
counted here others e = rw e refl

-- one node more counts no less
counted_others : (here : Descendant) (others : List Descendant) → length (filter has_view others) ≤ length (filter has_view (here ∷ others))
counted_others here others =
    elim (has_view here) as (λ b. length (filter has_view others) ≤ length (cond b (here ∷ filter has_view others) (filter has_view others))) [ true ↦ omega arith | false ↦ omega arith ]

-- nodes in two parts count as both parts
counted_parts : (below after : List Descendant) → length (filter has_view (below ++ after)) ≡ length (filter has_view below) + length (filter has_view after)
counted_parts below after = ap length (filter-append has_view below after) ∙ length-append (filter has_view below) (filter has_view after)

-- the children of a node's host parent are a part of what is below the root, where there are levels for them
pub record IsHostReached (nodes : List Descendant) (n : ℕ) (here : Descendant) : Type 0 where
  pub room : suc (depth here.above) ≤ n
  pub part : IsPart (placed_below nodes (host_parent here.above)) (views_below n nodes 0)

-- the same of a node that has a view
abbrev IsReachedIfViewed : List Descendant → ℕ → Descendant → Type 0
IsReachedIfViewed nodes n here = has_view here ≡ true → IsHostReached nodes n here

-- a node whose ancestors are reached has its host parent reached, where there are levels for them
host_reached : (nodes : List Descendant) (n : ℕ) (here : Descendant) → IsReached nodes here.above → (has_view here ≡ true → suc (depth here.above) ≤ n) → IsReachedIfViewed nodes n here
host_reached nodes n here reached room h =
    let levels = n - suc (depth here.above) in
    let free = (or_parts (hides here.settled) (list_any hides here.above) (unhidden here h)).1 in
    let within : suc (depth here.above) ≤ n = room h in
    let e : suc (n - suc (depth here.above)) + depth here.above ≡ n = omega arith in
    let kids = placed_below nodes (host_parent here.above) in
    record { room = within; part = subst (λ m. IsPart kids (views_below m nodes 0)) e (reached (suc levels) kids free (own_part levels nodes kids)) }

-- each node below some ancestors has its host parent reached, where there are at least as many levels as contexts among them and views below them
each_reached : (nodes : List Descendant) (n : ℕ) (above : List SettledFields) (forest : PlainForest SettledFields) → IsReached nodes above
    → (list_any hides above ≡ false → depth above + length (filter has_view (descendants_below above forest)) ≤ n)
    → AllByRecursion (λ here. has_view here ≡ true → IsIn here nodes) (descendants_below above forest)
    → AllByRecursion (IsReachedIfViewed nodes n) (descendants_below above forest)
each_reached nodes n above none reached room own = tt
each_reached nodes n above (node settled children siblings) reached room own =
    let here : Descendant = record { settled = settled; above = above } in
    let below = descendants_below (settled ∷ above) children in
    let after = descendants_below above siblings in
    let parts = counted_parts below after in
    let more = counted_others here (below ++ after) in
    let room_here : has_view here ≡ true → suc (depth above) ≤ n = λ e.
    let one = counted here (below ++ after) e in
    let all = room (or_parts (hides settled) (list_any hides above) (unhidden here e)).1 in
    omega arith in
    let room_below : list_any hides (settled ∷ above) ≡ false → depth (settled ∷ above) + length (filter has_view below) ≤ n = λ h.
    let all = room (or_parts (hides settled) (list_any hides above) h).1 in
    elim (cases_Bool (is_context settled)) as (λ c. depth (settled ∷ above) + length (filter has_view below) ≤ n) [
      | inl context ↦ let one = counted here (below ++ after) (context_viewed settled above context h) in rw context (omega arith)
      | inr other ↦ rw other (omega arith)
    ] in
    let room_after : list_any hides above ≡ false → depth above + length (filter has_view after) ≤ n = λ h. let all = room h in omega arith in (
      host_reached nodes n here reached room_here,
      each_in_both (IsReachedIfViewed nodes n) below after
          (each_reached nodes n (settled ∷ above) children (reached_more nodes settled above own.0 reached) room_below (each_in_first (λ here. has_view here ≡ true → IsIn here nodes) below after own.1))
          (each_reached nodes n above siblings reached room_after (each_in_second (λ here. has_view here ≡ true → IsIn here nodes) below after own.1)),
    )

-- each node that has a view has its host parent reached in the host tree
pub each_host_reached : (forest : PlainForest SettledFields) → AllByRecursion (IsHostReached (viewed forest) (length (viewed forest))) (viewed forest)
each_host_reached forest =
    let nodes = viewed forest in
    let n = length nodes in
    let own : AllByRecursion (λ here. has_view here ≡ true → IsIn here nodes) (descendants forest) =
    each_in_where (descendants forest) (descendants forest) (λ here i. i) in
    let reached = each_reached nodes n [] forest (reached_root nodes) (λ e. omega arith) own in
    each_then (λ here. IsReachedIfViewed nodes n here × (has_view here ≡ true)) (IsHostReached nodes n) (λ here h. h.0 h.1) nodes
    (each_of_two (IsReachedIfViewed nodes n) (λ here. has_view here ≡ true) nodes (each_kept (IsReachedIfViewed nodes n) has_view (descendants forest) reached) (each_passes has_view (descendants forest)))
  where
    each_in_where : (xs all : List Descendant) → ((x : Descendant) → IsIn x xs → IsIn x all) → AllByRecursion (λ here. has_view here ≡ true → IsIn here (filter has_view all)) xs
    each_in_where xs all h = each_then (λ here. IsIn here all) (λ here. has_view here ≡ true → IsIn here (filter has_view all)) (λ here i e. in_kept has_view here all e i) xs (each_in xs all h)

-- an item of a part is in the whole
pub in_part : {X : Type 0} (x : X) (xs ys : List X) → IsIn x xs → IsPart xs ys → IsIn x ys
in_part x [] ys h k = absurd h
in_part x (z ∷ xs) [] h k = absurd k
in_part x (z ∷ xs) (y ∷ ys) (inl e) (inl k) = inl (e ∙ k.0)
in_part x (z ∷ xs) (y ∷ ys) (inr h) (inl k) = inr (in_part x xs ys h k.1)
in_part x (z ∷ xs) (y ∷ ys) h (inr k) = inr (in_part x (z ∷ xs) ys h k)

-- each node that has a view has its view in the host tree
pub each_viewed_in : (forest : PlainForest SettledFields) → AllByRecursion (λ here. IsPlacedUnder (host_tree_of forest) (host_parent here.above) here) (viewed forest)
each_viewed_in forest =
    let nodes = viewed forest in
    let tree = host_tree_of forest in
    each_then (λ here. IsHostReached nodes (length nodes) here × IsIn here nodes) (λ here. IsPlacedUnder tree (host_parent here.above) here)
    (λ here h. let place = placed_child nodes here h.1 in (place.0, in_part _ (placed_below nodes (host_parent here.above)) tree place.1 h.0.part)) nodes
    (each_of_two (IsHostReached nodes (length nodes)) (λ here. IsIn here nodes) nodes (each_host_reached forest) (each_in nodes nodes (λ x i. i)))

-- each node that has a view has its place in the host tree
pub each_viewed_has_place : (forest : PlainForest SettledFields) → AllByRecursion (HasItsPlace (host_tree_of forest)) (viewed forest)
each_viewed_has_place forest =
    let tree = host_tree_of forest in
    each_then (λ here. IsPlacedUnder tree (host_parent here.above) here) (HasItsPlace tree) (λ here place. (place.0, contained _ tree place.1)) (viewed forest) (each_viewed_in forest)

-- each view of the host tree is that of a node that has one
pub each_view_of_one : (forest : PlainForest SettledFields) → AllByRecursion (IsOfOne (viewed forest)) (host_tree_of forest)
each_view_of_one forest =
    let nodes = viewed forest in
    each_placed_view (IsOfOne nodes) forest
    (each_then (λ here. IsIn here nodes) (λ here. (index : ℕ) → IsOfOne nodes (placed_at index here)) (λ here h index. (here, contained here nodes h, refl)) nodes (each_in nodes nodes (λ x i. i)))
