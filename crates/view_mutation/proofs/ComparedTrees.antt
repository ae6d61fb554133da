-- Two trees in step, and the pairs of nodes below them.
use Rattle.std.proofs.Common.{◌≡◌, ℕ, zero, List, [], ◌∷◌, ◌++◌, Bool, true, false, cond, Option, Some, None, Contains, refl, ap, sym, ◌∙◌, subst, append-nil, arith}
use Rattle.std.specs.Option.{option_map}
use Rattle.std.proofs.lemmas.List.Elements.{Contains-append_left, Contains-append_right}
use Rattle.host_views.specs.declared.Mutation.{Mutation}
use Rattle.shadow_kinds.specs.Traits.{is_hidden_of}
use Rattle.shadow_node.specs.Entered.{is_kept_since, is_unchanged_since}
use Rattle.shadow_node.specs.Fields.{SettledFields}
use Rattle.shadow_node.specs.Forest.{PlainForest, PlainNode, forest_of, none, node, preorder}
use Rattle.shadow_node.specs.Pruned.{pruned}
use Rattle.shadow_node.specs.Stamps.{stamp_in}
use Rattle.view_flatten.specs.declared.sites.Host.{Host}
use Rattle.view_flatten.specs.Sites.{host_inside, own_site, shown_host, shown_site, shown_sites, sites_from, unless_hidden}
use Rattle.view_flatten.specs.Placed.{IsSameWalk}
use Rattle.view_flatten.specs.Walks.{PlainWalk}
use Rattle.view_mutation.specs.Together.{ArePaired, AreCompared, IsPaired, kept_by, unchanged_by}
use Rattle.view_mutation.proofs.Compared.{compared_both, compared_none}

-- what lies below a node, where it is entered
abbrev entered_below : (SettledFields → Bool) → SettledFields → PlainForest SettledFields → PlainForest SettledFields
entered_below test settled children = cond (test settled) none (pruned test children)

-- the host of what lies below a node, where it is shown
abbrev inside : Option Host → SettledFields → Option Host
inside host settled = option_map (λ host. host_inside host settled) (shown_host host settled)

-- the sites of a tree: the node's own, and those below it
shown_tree : (test : SettledFields → Bool) (host : Option Host) (settled : SettledFields) (children : PlainForest SettledFields)
    → shown_sites host (pruned test (node settled children none))
    ≡ shown_site (shown_host host settled) settled ++ shown_sites (inside host settled) (entered_below test settled children)
shown_tree test None settled children =
    elim (is_hidden_of settled.fields.props) as (λ b. [] ≡ shown_site (cond b None None) settled ++ shown_sites (option_map (λ host. host_inside host settled) (cond b None None)) (entered_below test settled children)) [
      | true ↦ refl
      | false ↦ refl
    ]
shown_tree test (Some host) settled children =
    let below = sites_from (host_inside host settled) (entered_below test settled children) in
    elim (is_hidden_of settled.fields.props) as (λ b. unless_hidden b (own_site host settled ++ below) ++ [] ≡ shown_site (cond b None (Some host)) settled ++ shown_sites (option_map (λ host. host_inside host settled) (cond b None (Some host))) (entered_below test settled children)) [
      | true ↦ refl
      | false ↦ append-nil (own_site host settled ++ below)
    ]

-- the sites of a tree before those of later ones
shown_both : (test : SettledFields → Bool) (host : Option Host) (tree : PlainNode SettledFields) (siblings : PlainForest SettledFields)
    → shown_sites host (pruned test (node tree.fields tree.children siblings)) ≡ shown_sites host (pruned test (forest_of (tree ∷ []))) ++ shown_sites host (pruned test siblings)
shown_both test None tree siblings = refl
shown_both test (Some host) tree siblings =
    ap (λ own. own ++ sites_from host (pruned test siblings))
    (sym (append-nil (unless_hidden (is_hidden_of tree.fields.fields.props) (own_site host tree.fields ++ sites_from (host_inside host tree.fields) (entered_below test tree.fields tree.children)))))

-- there are no sites where there are no nodes
shown_nothing : (host : Option Host) → shown_sites host none ≡ []
shown_nothing None = refl
shown_nothing (Some host) = refl

-- a node that is not entered has its own site alone
shown_kept : (test : SettledFields → Bool) (host : Option Host) (tree : PlainNode SettledFields) → test tree.fields ≡ true
    → shown_sites host (pruned test (forest_of (tree ∷ []))) ≡ shown_site (shown_host host tree.fields) tree.fields
shown_kept test host tree is =
    let own = shown_site (shown_host host tree.fields) tree.fields in
    shown_tree test host tree.fields tree.children
    ∙ ap (λ b. own ++ shown_sites (inside host tree.fields) (cond b none (pruned test tree.children))) is
    ∙ ap (λ sites. own ++ sites) (shown_nothing (inside host tree.fields)) ∙ append-nil own

-- and one that is entered has those below it too
shown_entered : (test : SettledFields → Bool) (host : Option Host) (tree : PlainNode SettledFields) → test tree.fields ≡ false
    → shown_sites host (pruned test (forest_of (tree ∷ []))) ≡ shown_site (shown_host host tree.fields) tree.fields ++ shown_sites (inside host tree.fields) (pruned test tree.children)
shown_entered test host tree isnt =
    shown_tree test host tree.fields tree.children
    ∙ ap (λ b. shown_site (shown_host host tree.fields) tree.fields ++ shown_sites (inside host tree.fields) (cond b none (pruned test tree.children))) isnt

-- walks over one forest with the same stamps tell the same nodes apart
module _ (one other : PlainWalk) (base : ℕ) (same : IsSameWalk one other) where
  same_kept : kept_by other base ≡ kept_by one base
  same_kept = λ i. is_kept_since (stamp_in (same.stamps i)) base (same.forest i)

  same_unchanged : unchanged_by other base ≡ unchanged_by one base
  same_unchanged = λ i. is_unchanged_since (stamp_in (same.stamps i)) base

  -- what holds of the tests of the one holds of those of the other
  pub by_same_walk : (P : (kept unchanged : SettledFields → Bool) → Type 0) → P (kept_by other base) (unchanged_by other base) → P (kept_by one base) (unchanged_by one base)
  by_same_walk P h = subst (λ kept. P kept (unchanged_by one base)) same_kept (subst (λ unchanged. P (kept_by other base) unchanged) same_unchanged h)

  pub for_same_walk : (P : (kept unchanged : SettledFields → Bool) → Type 0) → P (kept_by one base) (unchanged_by one base) → P (kept_by other base) (unchanged_by other base)
  for_same_walk P h = subst (λ kept. P kept (unchanged_by other base)) (sym same_kept) (subst (λ unchanged. P (kept_by one base) unchanged) (sym same_unchanged) h)

module _ (kept unchanged : SettledFields → Bool) where
  -- what a walk in step over two forests has added to a list
  abbrev pub AreComparedBelow : (was_in is_in : Option Host) (were are : PlainForest SettledFields) (before after : List Mutation) → Type 0
  AreComparedBelow was_in is_in were are before after = AreCompared (shown_sites was_in (pruned kept were)) (shown_sites is_in (pruned unchanged are)) before after

  module _ (was_in is_in : Option Host) where
    -- where there are no nodes
    pub compared_at_end : (list : List Mutation) → AreComparedBelow was_in is_in none none list list
    compared_at_end list = subst (λ old. AreCompared old (shown_sites is_in none) list list) (sym (shown_nothing was_in)) (subst (λ new. AreCompared [] new list list) (sym (shown_nothing is_in)) (compared_none list))

    module _ (was is : PlainNode SettledFields) where
      -- at two trees, and then at later ones
      pub compared_trees : (were are : PlainForest SettledFields) (a b c : List Mutation)
          → AreComparedBelow was_in is_in (forest_of (was ∷ [])) (forest_of (is ∷ [])) a b → AreComparedBelow was_in is_in were are b c
          → AreComparedBelow was_in is_in (node was.fields was.children were) (node is.fields is.children are) a c
      compared_trees were are a b c h k =
          subst (λ old. AreCompared old (shown_sites is_in (pruned unchanged (node is.fields is.children are))) a c) (sym (shown_both kept was_in was were))
          (subst (λ new. AreCompared (shown_sites was_in (pruned kept (forest_of (was ∷ []))) ++ shown_sites was_in (pruned kept were)) new a c) (sym (shown_both unchanged is_in is are))
          (compared_both (shown_sites was_in (pruned kept (forest_of (was ∷ [])))) (shown_sites is_in (pruned unchanged (forest_of (is ∷ []))))
          (shown_sites was_in (pruned kept were)) (shown_sites is_in (pruned unchanged are)) a b c h k))

      -- at two nodes that are not entered
      pub compared_kept : (a b : List Mutation) → kept was.fields ≡ true → unchanged is.fields ≡ true
          → AreCompared (shown_site (shown_host was_in was.fields) was.fields) (shown_site (shown_host is_in is.fields) is.fields) a b
          → AreComparedBelow was_in is_in (forest_of (was ∷ [])) (forest_of (is ∷ [])) a b
      compared_kept a b old_is new_is h =
          subst (λ old. AreCompared old (shown_sites is_in (pruned unchanged (forest_of (is ∷ [])))) a b) (sym (shown_kept kept was_in was old_is))
          (subst (λ new. AreCompared (shown_site (shown_host was_in was.fields) was.fields) new a b) (sym (shown_kept unchanged is_in is new_is)) h)

      -- at two nodes that are entered: the nodes themselves, and what lies below
      pub compared_entered : (a b c : List Mutation) → kept was.fields ≡ false → unchanged is.fields ≡ false
          → AreCompared (shown_site (shown_host was_in was.fields) was.fields) (shown_site (shown_host is_in is.fields) is.fields) a b
          → AreComparedBelow (inside was_in was.fields) (inside is_in is.fields) was.children is.children b c
          → AreComparedBelow was_in is_in (forest_of (was ∷ [])) (forest_of (is ∷ [])) a c
      compared_entered a b c old_isnt new_isnt h k =
          let old_own = shown_site (shown_host was_in was.fields) was.fields in
          let new_own = shown_site (shown_host is_in is.fields) is.fields in
          subst (λ old. AreCompared old (shown_sites is_in (pruned unchanged (forest_of (is ∷ [])))) a c) (sym (shown_entered kept was_in was old_isnt))
          (subst (λ new. AreCompared (old_own ++ shown_sites (inside was_in was.fields) (pruned kept was.children)) new a c) (sym (shown_entered unchanged is_in is new_isnt))
          (compared_both old_own new_own (shown_sites (inside was_in was.fields) (pruned kept was.children)) (shown_sites (inside is_in is.fields) (pruned unchanged is.children)) a b c h k))

  -- the pairs of two nodes, of what lies below them, and of later trees
  module _ (was is : PlainNode SettledFields) (were are : PlainForest SettledFields) (pairs : ArePaired kept unchanged (node was.fields was.children were) (node is.fields is.children are)) where
    pub paired_here : was.fields.fields.tag ≡ is.fields.fields.tag → IsPaired kept unchanged was.fields is.fields
    paired_here e = pairs was.fields is.fields (zero, omega arith, refl) (zero, omega arith, refl) e

    pub paired_below : ArePaired kept unchanged was.children is.children
    paired_below old new h k =
        pairs old new
        (Contains-append_right (was.fields ∷ []) (preorder was.children ++ preorder were) old (Contains-append_left (preorder was.children) (preorder were) old h))
        (Contains-append_right (is.fields ∷ []) (preorder is.children ++ preorder are) new (Contains-append_left (preorder is.children) (preorder are) new k))

    pub paired_later : ArePaired kept unchanged were are
    paired_later old new h k =
        pairs old new
        (Contains-append_right (was.fields ∷ []) (preorder was.children ++ preorder were) old (Contains-append_right (preorder was.children) (preorder were) old h))
        (Contains-append_right (is.fields ∷ []) (preorder is.children ++ preorder are) new (Contains-append_right (preorder is.children) (preorder are) new k))

    pub paired_first : ArePaired kept unchanged (forest_of (was ∷ [])) (forest_of (is ∷ []))
    paired_first old new h k =
        pairs old new
        (first was.fields (preorder was.children) (preorder were) old h)
        (first is.fields (preorder is.children) (preorder are) new k)
      where
        first : (own : SettledFields) (xs ys : List SettledFields) (x : SettledFields) → Contains (own ∷ xs ++ []) x → Contains (own ∷ xs ++ ys) x
        first own xs ys x c = Contains-append_left (own ∷ xs) ys x (subst (λ list. Contains (own ∷ list) x) (append-nil xs) c)
