-- The view of a tag in a forest's host tree, by the forest's nodes.
use Rattle.std.proofs.Common.{◌≡◌, ◌≤◌, ℕ, List, [], ◌∷◌, map, filter, Bool, true, false, cond, ◌||◌, Some, nat_eq, refl, ap, sym, ◌∙◌, subst, inl, inr}
use Rattle.std.specs.List.{AllByRecursion, IsDistinct, list_any}
use Rattle.std.proofs.lemmas.Bool.{both_ways, cases_Bool, eq-eqb, eqb-true, false_from_ne_true, or_left, or_right}
use Rattle.shadow_node.specs.Forest.{PlainForest}
use Rattle.shadow_node.specs.Fields.{SettledFields, contents_of, tags_of}
use Rattle.shadow_node.specs.Shown.{Descendant, descendants}
use Rattle.host_views.specs.HostTree.{has_tag}
use Rattle.host_views.specs.Plain.{PlainPlacedView, PlainHostTree}
use Rattle.view_flatten.specs.HostTree.{host_parent, viewed, view_of, host_tree_of}
use Rattle.view_flatten.specs.Places.{placed_at}
use Rattle.view_flatten.proofs.Shorthands.{has_view}
use Rattle.view_flatten.proofs.Agree.{where_any}
use Rattle.view_flatten.proofs.Alike.{looks}
use Rattle.view_flatten.proofs.Below.{is_host_tree}
use Rattle.view_flatten.proofs.Distinct.{each_then}
use Rattle.view_flatten.proofs.Inside.{each_inside, inside, lies_below}
use Rattle.view_flatten.proofs.Lines.{tags_below}
use Rattle.view_flatten.proofs.Order.{tag_at, tags_at, each_kept}
use Rattle.view_flatten.proofs.Outside.{filter_swapped}
use Rattle.view_flatten.proofs.Viewed.{IsIn, IsPlacedUnder, each_viewed_in}
use Rattle.view_flatten.proofs.Views.{each_placed_view}
use Rattle.view_mutation.specs.Mutations.{view_at}
use Rattle.view_mutation.proofs.LeftOut.{IsOwn}
use Rattle.view_mutation.proofs.Trees.{IsFoundIn, all_found, no_view}

-- what holds of each item holds of one that is there
pub at_item : {X : Type 0} (P : X → Type 0) (x : X) (xs : List X) → AllByRecursion P xs → IsIn x xs → P x
at_item P x [] h i = absurd i
at_item P x (y ∷ xs) h (inl e) = subst P (sym e) h.0
at_item P x (y ∷ xs) h (inr i) = at_item P x xs h.1 i

-- each view of a host tree is found at its tag
pub each_own : (forest : PlainForest SettledFields) → IsDistinct nat_eq (tags_of (contents_of forest)) → AllByRecursion (λ tag. 1 ≤ tag) (tags_of (contents_of forest))
    → AllByRecursion (IsOwn (host_tree_of forest)) (host_tree_of forest)
each_own forest distinct low =
    let tree = host_tree_of forest in
    each_then (IsFoundIn tree) (IsOwn tree) (λ placed h. h.view) tree (all_found tree (is_host_tree forest distinct low))

-- at a tag of some nodes a tree that has the views of these has the same view
same_where_there : (tree : PlainHostTree) (nodes : List Descendant) (tag : ℕ) → AllByRecursion (λ here. view_at tree (tag_at here) ≡ Some (view_of here)) nodes
    → has_tag (map (placed_at 0) nodes) tag ≡ true → view_at tree tag ≡ view_at (map (placed_at 0) nodes) tag
same_where_there tree [] tag h e = absurd (both_ways false refl e)
same_where_there tree (here ∷ nodes) tag h e =
    elim (cases_Bool (nat_eq (tag_at here) tag)) [
      | inl own ↦
          ap (view_at tree) (sym (eqb-true (tag_at here) tag own)) ∙ h.0 ∙ sym (ap (λ b. cond b (Some (view_of here)) (view_at (map (placed_at 0) nodes) tag)) own)
      | inr other ↦
          same_where_there tree nodes tag h.1 (sym (ap (λ b. b || has_tag (map (placed_at 0) nodes) tag) other) ∙ e)
          ∙ sym (ap (λ b. cond b (Some (view_of here)) (view_at (map (placed_at 0) nodes) tag)) other)
    ]

-- the views of nodes have the nodes' tags
own_tags : (nodes : List Descendant) → AllByRecursion (λ here. has_tag (map (placed_at 0) nodes) (tag_at here) ≡ true) nodes
own_tags [] = tt
own_tags (here ∷ nodes) = (
  or_left (nat_eq (tag_at here) (tag_at here)) (has_tag (map (placed_at 0) nodes) (tag_at here)) (eq-eqb (tag_at here) (tag_at here) refl),
  each_then (λ other. has_tag (map (placed_at 0) nodes) (tag_at other) ≡ true) (λ other. has_tag (map (placed_at 0) (here ∷ nodes)) (tag_at other) ≡ true)
      (λ other e. or_right (nat_eq (tag_at here) (tag_at other)) (has_tag (map (placed_at 0) nodes) (tag_at other)) e) nodes (own_tags nodes),
)

-- the view of a tag is that of the node of the tag that has a view
view_of_viewed : (forest : PlainForest SettledFields) → IsDistinct nat_eq (tags_of (contents_of forest)) → AllByRecursion (λ tag. 1 ≤ tag) (tags_of (contents_of forest)) → (tag : ℕ)
    → view_at (host_tree_of forest) tag ≡ view_at (map (placed_at 0) (viewed forest)) tag
view_of_viewed forest distinct low tag =
    let nodes = viewed forest in
    let tree = host_tree_of forest in
    let own = each_own forest distinct low in
    let each = each_then (λ here. IsPlacedUnder tree (host_parent here.above) here) (λ here. view_at tree (tag_at here) ≡ Some (view_of here))
    (λ here h. at_item (IsOwn tree) (record { tag = tag_at here; parent = host_parent here.above; index = h.0; view = view_of here }) tree own h.1) nodes (each_viewed_in forest) in
    let among = each_placed_view (λ placed. has_tag (map (placed_at 0) nodes) placed.tag ≡ true) forest
    (each_then (λ here. has_tag (map (placed_at 0) nodes) (tag_at here) ≡ true) (λ here. (index : ℕ) → has_tag (map (placed_at 0) nodes) (tag_at here) ≡ true) (λ here e index. e) nodes (own_tags nodes)) in
    elim (cases_Bool (has_tag (map (placed_at 0) nodes) tag)) [
      | inl there ↦ same_where_there tree nodes tag each there
      | inr absent ↦
          let gone : has_tag tree tag ≡ false = false_from_ne_true (has_tag tree tag)
          (λ e. both_ways (has_tag (map (placed_at 0) nodes) tag) absent
          (where_any (has_tag (map (placed_at 0) nodes) tag ≡ true) (λ placed. nat_eq placed.tag tag) tree
          (each_then (λ (placed : PlainPlacedView). has_tag (map (placed_at 0) nodes) placed.tag ≡ true) (λ placed. nat_eq placed.tag tag ≡ true → has_tag (map (placed_at 0) nodes) tag ≡ true)
          (λ placed k same. ap (has_tag (map (placed_at 0) nodes)) (sym (eqb-true placed.tag tag same)) ∙ k) tree among) e)) in
          no_view tree tag gone ∙ sym (no_view (map (placed_at 0) nodes) tag absent)
    ]

-- where each node of a tag passes a test, the view of the tag is among those that pass
view_kept : (test : Descendant → Bool) (tag : ℕ) (nodes : List Descendant) → AllByRecursion (λ here. nat_eq (tag_at here) tag ≡ true → test here ≡ true) nodes
    → view_at (map (placed_at 0) (filter test nodes)) tag ≡ view_at (map (placed_at 0) nodes) tag
view_kept test tag [] h = refl
view_kept test tag (here ∷ nodes) h =
    let later = view_kept test tag nodes h.1 in
    elim (cases_Bool (nat_eq (tag_at here) tag)) [
      | inl own ↦
          ap (λ b. view_at (map (placed_at 0) (cond b (here ∷ filter test nodes) (filter test nodes))) tag) (h.0 own)
          ∙ ap (λ r. cond (nat_eq (tag_at here) tag) (Some (view_of here)) r) later
      | inr other ↦ past (test here) other ∙ later ∙ sym (ap (λ b. cond b (Some (view_of here)) (view_at (map (placed_at 0) nodes) tag)) other)
    ]
  where
    past : (b : Bool) → nat_eq (tag_at here) tag ≡ false → view_at (map (placed_at 0) (cond b (here ∷ filter test nodes) (filter test nodes))) tag ≡ view_at (map (placed_at 0) (filter test nodes)) tag
    past true other = ap (λ b. cond b (Some (view_of here)) (view_at (map (placed_at 0) (filter test nodes)) tag)) other
    past false other = refl

-- the view of a tag below another one is that of a node below it
pub view_within : (forest : PlainForest SettledFields) → IsDistinct nat_eq (tags_of (contents_of forest)) → AllByRecursion (λ tag. 1 ≤ tag) (tags_of (contents_of forest)) → (top tag : ℕ)
    → list_any (nat_eq tag) (tags_at (inside forest top)) ≡ true → view_at (host_tree_of forest) tag ≡ view_at (looks (inside forest top)) tag
view_within forest distinct low top tag e =
    let nodes = viewed forest in
    let lies = λ (here : Descendant). list_any (nat_eq (tag_at here)) (tags_at (inside forest top)) ≡ lies_below top here in
    let each = each_kept lies has_view (descendants forest) (each_inside forest (subst (IsDistinct nat_eq) (sym (tags_below [] forest)) distinct) top) in
    view_of_viewed forest distinct low tag
    ∙ sym (view_kept (lies_below top) tag nodes
    (each_then lies (λ here. nat_eq (tag_at here) tag ≡ true → lies_below top here ≡ true)
    (λ here k same. sym k ∙ ap (λ t. list_any (nat_eq t) (tags_at (inside forest top))) (eqb-true (tag_at here) tag same) ∙ e) nodes each))
    ∙ ap (λ some. view_at (map (placed_at 0) some) tag) (filter_swapped (lies_below top) has_view (descendants forest))
