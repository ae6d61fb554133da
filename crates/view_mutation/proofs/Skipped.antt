-- A mount may leave out what lies below contexts that did not change.
use Rattle.std.proofs.Common.{◌≡◌, ◌≤◌, ℕ, List, [], ◌∷◌, ◌++◌, length, map, filter, Bool, true, false, cond, not, ◌&&◌, ◌||◌, Option, Some, None, nat_eq, refl, ap, sym, ◌∙◌, subst, inl, inr}
use Rattle.std.specs.Prelude.{count_by, nat_le}
use Rattle.std.specs.List.{AllByRecursion, IsDistinct, list_any}
use Rattle.std.proofs.lemmas.Bool.{and_from, and_parts, both_ways, cases_Bool, eq-eqb, eqb-true, or_cases, or_left, or_right}
use Rattle.std.proofs.lemmas.List.{map-append}
use Rattle.std.proofs.lemmas.List.Sums.{length-filter}
use Rattle.shadow_kinds.specs.Traits.{forms_context_of}
use Rattle.shadow_node.specs.Entered.{AreAlikeSince, count_outside, is_kept_since, is_unchanged_since}
use Rattle.shadow_node.specs.Fields.{SettledFields, contents_of, tags_of}
use Rattle.shadow_node.specs.Find.{first_settled}
use Rattle.shadow_node.specs.Forest.{PlainForest, PlainNode, none, node, preorder}
use Rattle.shadow_node.specs.Pruned.{has_one_of, pruned, skipped_tags}
use Rattle.shadow_node.specs.Seen.{shown_in, sight_of}
use Rattle.shadow_node.specs.Shown.{Descendant, descendants, descendants_below, line_of}
use Rattle.host_views.specs.Plain.{PlainPlacedView, children_at}
use Rattle.view_flatten.specs.HostTree.{host_tree_of}
use Rattle.view_flatten.proofs.Shorthands.{is_context}
use Rattle.view_flatten.proofs.Agree.{same_any, same_filter, where_any}
use Rattle.view_flatten.proofs.Alike.{AreSameBelow, each_context, same_below}
use Rattle.view_flatten.proofs.ByZ.{filter_map}
use Rattle.view_flatten.proofs.Distinct.{each_in_first, each_in_second, each_then, each_of_two}
use Rattle.view_flatten.proofs.Inside.{Along, absent, absent_tree, block, each_along, inside, is_within, only_found, passes_by_key}
use Rattle.view_flatten.proofs.Lines.{tags_below}
use Rattle.view_flatten.proofs.Order.{tag_at, tags_at, each_kept, each_passes}
use Rattle.view_flatten.proofs.Outside.{IsOfContext, each_even, each_tag_inner, host_tree_left, inner_closed, is_closed, is_inner, is_outside, of_tags, pruned_below, pruned_by_tags, to_tags}
use Rattle.view_flatten.proofs.Stable.{filter_twice}
use Rattle.view_flatten.proofs.Viewed.{IsIn, each_in}
use Rattle.view_flatten.proofs.Within.{children_within, tags_by_z}
use Rattle.view_mutation.specs.Mutations.{mutations_between, view_at}
use Rattle.view_mutation.specs.Since.{AreTagged}
use Rattle.view_mutation.proofs.LeftOut.{AreLeftOut, same_mutations}
use Rattle.view_mutation.proofs.ViewOf.{at_item, each_own, view_within}

-- the tree that a node's tag finds is the node's
pub record HasTree (forest : PlainForest SettledFields) (here : Descendant) : Type 0 where
  pub tree : PlainNode SettledFields
  pub found : first_settled (tag_at here) forest ≡ Some tree
  pub same : tree.fields ≡ here.settled

pub each_tree : (forest : PlainForest SettledFields) → IsDistinct nat_eq (tags_at (descendants forest)) → AllByRecursion (HasTree forest) (descendants forest)
each_tree forest distinct =
    let nodes = descendants forest in
    each_then (λ here. IsIn here nodes) (HasTree forest) (λ here i. by_tree here i (first_settled (tag_at here) forest) refl) nodes (each_in nodes nodes (λ x i. i))
  where
    by_tree : (here : Descendant) → IsIn here (descendants forest) → (o : Option (PlainNode SettledFields)) → first_settled (tag_at here) forest ≡ o → HasTree forest here
    by_tree here i None e =
        let other = at_item (λ there. nat_eq (tag_at there) (tag_at here) ≡ false) here (descendants forest) (absent (tag_at here) (descendants forest) (absent_tree (tag_at here) [] forest e)) i in
        absurd (both_ways (nat_eq (tag_at here) (tag_at here)) other (eq-eqb (tag_at here) (tag_at here) refl))
    by_tree here i (Some tree) e =
        let own = block (tag_at here) tree [] forest tt distinct e in
        let top : Descendant = record { settled = tree.fields; above = own.up } in
        let same = at_item (λ there. nat_eq (tag_at there) (tag_at here) ≡ true → there ≡ top) here (descendants forest) (only_found (tag_at here) top (descendants forest) distinct own.found) i
        (eq-eqb (tag_at here) (tag_at here) refl) in
        record { tree = tree; found = e; same = ap (λ (d : Descendant). d.settled) (sym same) }

-- the nodes in preorder, and the same without their ancestors
pub settled_in_preorder : (above : List SettledFields) (forest : PlainForest SettledFields) → map (λ here. here.settled) (descendants_below above forest) ≡ preorder forest
settled_in_preorder above none = refl
settled_in_preorder above (node settled children siblings) =
    ap (λ r. settled ∷ r)
    (map-append (λ here. here.settled) (descendants_below (settled ∷ above) children) (descendants_below above siblings)
    ∙ (λ i. settled_in_preorder (settled ∷ above) children i ++ settled_in_preorder above siblings i))

tags_settled : (nodes : List Descendant) → map (λ settled. settled.fields.tag) (map (λ here. here.settled) nodes) ≡ tags_at nodes
tags_settled [] = refl
tags_settled (here ∷ nodes) = ap (λ r. tag_at here ∷ r) (tags_settled nodes)

any_settled : (test : SettledFields → Bool) (nodes : List Descendant) → list_any test (map (λ here. here.settled) nodes) ≡ list_any (λ here. test here.settled) nodes
any_settled test [] = refl
any_settled test (here ∷ nodes) = ap (λ b. test here.settled || b) (any_settled test nodes)

-- a node passes a test, and no ancestor does
abbrev is_first : (SettledFields → Bool) → Descendant → Bool
is_first test here = is_outside test here && test here.settled

-- the tags of the nodes that are left and pass
skipped_are : (test : SettledFields → Bool) (forest : PlainForest SettledFields) → skipped_tags test forest ≡ tags_at (filter (is_first test) (descendants forest))
skipped_are test forest =
    let passes = λ (here : Descendant). test here.settled in
    ap (λ nodes. map (λ settled. settled.fields.tag) (filter test nodes)) (sym (settled_in_preorder [] (pruned test forest)))
    ∙ ap (map (λ settled. settled.fields.tag)) (filter_map (λ here. here.settled) test (descendants (pruned test forest)))
    ∙ tags_settled (filter passes (descendants (pruned test forest)))
    ∙ ap (λ nodes. tags_at (filter passes nodes)) (pruned_below test [] forest refl)
    ∙ ap tags_at (filter_twice passes (is_outside test) (descendants forest))

-- a context that both forests have, with the same below it, and that is shown in both or in neither
record IsShared (old new : PlainForest SettledFields) (tag : ℕ) : Type 0 where
  low : 1 ≤ tag
  tree : PlainNode SettledFields
  found_old : first_settled tag old ≡ Some tree
  found_new : first_settled tag new ≡ Some tree
  context : is_context tree.fields ≡ true
  shown : shown_in old tag ≡ shown_in new tag

not_twice : (b : Bool) → not (not b) ≡ b
not_twice true = refl
not_twice false = refl

pub same_from_both : (a b : Bool) → (a ≡ true → b ≡ true) → (b ≡ true → a ≡ true) → a ≡ b
same_from_both true b h k = sym (h refl)
same_from_both false true h k = k refl
same_from_both false false h k = refl

-- where one test passes the other does
any_more : {X : Type 0} (p q : X → Bool) → ((x : X) → p x ≡ true → q x ≡ true) → (xs : List X) → list_any p xs ≡ true → list_any q xs ≡ true
any_more p q h [] e = e
any_more p q h (x ∷ xs) e =
    elim (or_cases (p x) (list_any p xs) e) [ inl here ↦ or_left (q x) (list_any q xs) (h x here) | inr later ↦ or_right (q x) (list_any q xs) (any_more p q h xs later) ]

-- a tag among those of the nodes that pass one test is that of a node that passes another one
among_passing : (p q : Descendant → Bool) → ((here : Descendant) → p here ≡ true → q here ≡ true) → (tag : ℕ) (nodes : List Descendant) → list_any (nat_eq tag) (tags_at (filter p nodes)) ≡ true
    → list_any (λ here. nat_eq (tag_at here) tag && q here) nodes ≡ true
among_passing p q h tag [] e = e
among_passing p q h tag (here ∷ nodes) e =
    let rest = list_any (λ here. nat_eq (tag_at here) tag && q here) nodes in
    let first = nat_eq (tag_at here) tag && q here in
    elim (cases_Bool (p here)) [
      | inl passes ↦
          elim (or_cases (nat_eq tag (tag_at here)) (list_any (nat_eq tag) (tags_at (filter p nodes))) (sym (ap (λ b. list_any (nat_eq tag) (tags_at (cond b (here ∷ filter p nodes) (filter p nodes)))) passes) ∙ e)) [
            | inl own ↦ or_left first rest (and_from (nat_eq (tag_at here) tag) (q here) (eq-eqb (tag_at here) tag (sym (eqb-true tag (tag_at here) own))) (h here passes))
            | inr later ↦ or_right first rest (among_passing p q h tag nodes later)
          ]
      | inr other ↦
          or_right first rest (among_passing p q h tag nodes (sym (ap (λ b. list_any (nat_eq tag) (tags_at (cond b (here ∷ filter p nodes) (filter p nodes)))) other) ∙ e))
    ]

-- nodes that two tests tell alike are as many
same_count : (p q : Descendant → Bool) (nodes : List Descendant) → AllByRecursion (λ here. p here ≡ q here) nodes → count_by p nodes ≡ count_by q nodes
same_count p q nodes h = sym (length-filter p nodes) ∙ ap length (same_filter p q nodes h) ∙ length-filter q nodes

or_nothing : (b : Bool) → (b || false) ≡ b
or_nothing true = refl
or_nothing false = refl

-- tests that tell each node with its ancestors alike prune alike
pruned_alike : (p q : SettledFields → Bool) (above : List SettledFields) (forest : PlainForest SettledFields) → list_any p above ≡ false → list_any q above ≡ false
    → AllByRecursion (λ here. list_any p (line_of here) ≡ list_any q (line_of here)) (descendants_below above forest) → pruned p forest ≡ pruned q forest
pruned_alike p q above none e f h = refl
pruned_alike p q above (node settled children siblings) e f h =
    let same = λ (here : Descendant). list_any p (line_of here) ≡ list_any q (line_of here) in
    let own : p settled ≡ q settled = sym (ap (λ b. p settled || b) e ∙ or_nothing (p settled)) ∙ h.0 ∙ ap (λ b. q settled || b) f ∙ or_nothing (q settled) in
    let first = each_in_first same (descendants_below (settled ∷ above) children) (descendants_below above siblings) h.1 in
    let second = each_in_second same (descendants_below (settled ∷ above) children) (descendants_below above siblings) h.1 in
    let below : cond (p settled) none (pruned p children) ≡ cond (q settled) none (pruned q children) =
    elim (cases_Bool (p settled)) [
      | inl is ↦ ap (λ b. cond b none (pruned p children)) is ∙ sym (ap (λ b. cond b none (pruned q children)) (sym own ∙ is))
      | inr isnt ↦
          ap (λ b. cond b none (pruned p children)) isnt
          ∙ pruned_alike p q (settled ∷ above) children (ap (λ b. b || list_any p above) isnt ∙ e) (ap (λ b. b || list_any q above) (sym own ∙ isnt) ∙ f) first
          ∙ sym (ap (λ b. cond b none (pruned q children)) (sym own ∙ isnt))
    ] in
    λ i. node settled (below i) (pruned_alike p q above siblings e f second i)

module _ (stamps : ℕ → ℕ) (base : ℕ) (old new : PlainForest SettledFields) (distinct_old : IsDistinct nat_eq (tags_of (contents_of old))) (distinct_new : IsDistinct nat_eq (tags_of (contents_of new)))
    (low_old : AreTagged old) (low_new : AreTagged new) (alike : AreAlikeSince stamps base old new) where
  abbrev unchanged : SettledFields → Bool
  unchanged = is_unchanged_since stamps base

  abbrev tags : List ℕ
  tags = skipped_tags (is_unchanged_since stamps base) new

  apart_old : IsDistinct nat_eq (tags_at (descendants old))
  apart_old = subst (IsDistinct nat_eq) (sym (tags_below [] old)) distinct_old

  apart_new : IsDistinct nat_eq (tags_at (descendants new))
  apart_new = subst (IsDistinct nat_eq) (sym (tags_below [] new)) distinct_new

  -- an unchanged context stands in both forests
  shared : (here : Descendant) → HasTree new here → 1 ≤ tag_at here → unchanged here.settled ≡ true → IsShared old new (tag_at here)
  shared here h low e =
      let tag_is : h.tree.fields.fields.tag ≡ tag_at here = ap (λ (s : SettledFields). s.fields.tag) h.same in
      let passes : unchanged h.tree.fields ≡ true = ap unchanged h.same ∙ e in
      let sight = subst (λ t. sight_of old t ≡ sight_of new t) tag_is (alike h.tree (ap (λ t. first_settled t new) tag_is ∙ h.found) passes) in
      record {
        low = low;
        tree = h.tree;
        found_old = ap (λ s. s.tree) sight ∙ h.found;
        found_new = h.found;
        context = (and_parts (forms_context_of h.tree.fields.fields.kind h.tree.fields.fields.props) (nat_le (stamps h.tree.fields.fields.tag) base) passes).0;
        shown = ap (λ s. s.shown) sight;
      }

  -- its tree is the same in the old one
  pub found_in_old : (here : Descendant) (h : HasTree new here) → 1 ≤ tag_at here → is_unchanged_since stamps base here.settled ≡ true → first_settled (tag_at here) old ≡ Some h.tree
  found_in_old here h low e = let both = shared here h low e in both.found_old ∙ sym both.found_new ∙ h.found

  each_shared : AllByRecursion (IsShared old new) tags
  each_shared =
      let nodes = descendants new in
      let own = λ (here : Descendant). HasTree new here × (1 ≤ tag_at here) in
      let known = each_of_two (HasTree new) (λ here. 1 ≤ tag_at here) nodes (each_tree new apart_new)
      (of_tags (λ tag. 1 ≤ tag) nodes (subst (AllByRecursion (λ tag. 1 ≤ tag)) (sym (tags_below [] new)) low_new)) in
      let first = filter (is_first unchanged) nodes in
      subst (AllByRecursion (IsShared old new)) (sym (skipped_are unchanged new))
      (to_tags (IsShared old new) first
      (each_then (λ here. own here × (is_first unchanged here ≡ true)) (λ here. IsShared old new (tag_at here))
      (λ here h. shared here h.0.0 h.0.1 (and_parts (is_outside unchanged here) (unchanged here.settled) h.1).1) first
      (each_of_two own (λ here. is_first unchanged here ≡ true) first (each_kept own (is_first unchanged) nodes known) (each_passes (is_first unchanged) nodes))))

  same_at : (tag : ℕ) → IsShared old new tag → AreSameBelow old new tag
  same_at tag h = same_below old new apart_old apart_new tag h.tree h.found_old h.found_new h.context h.shown

  of_old : (tag : ℕ) → IsShared old new tag → IsOfContext old tag
  of_old tag h = record { low = h.low; context = each_context old apart_old tag h.tree h.found_old h.context }

  of_new : (tag : ℕ) → IsShared old new tag → IsOfContext new tag
  of_new tag h = record { low = h.low; context = each_context new apart_new tag h.tree h.found_new h.context }

  all_old : AllByRecursion (IsOfContext old) tags
  all_old = each_then (IsShared old new) (IsOfContext old) of_old tags each_shared

  all_new : AllByRecursion (IsOfContext new) tags
  all_new = each_then (IsShared old new) (IsOfContext new) of_new tags each_shared

  -- the same tags are closed and inner in both forests
  same_closed : (other : ℕ) → is_closed new tags other ≡ is_closed old tags other
  same_closed other =
      same_any (λ tag. is_within new tag other) (λ tag. is_within old tag other) tags
      (each_then (IsShared old new) (λ tag. is_within new tag other ≡ is_within old tag other) (λ tag h. ap (λ own. nat_eq other tag || list_any (nat_eq other) own) (sym (same_at tag h).tags)) tags each_shared)

  same_inner : (other : ℕ) → is_inner new tags other ≡ is_inner old tags other
  same_inner other =
      same_any (λ tag. list_any (nat_eq other) (tags_at (inside new tag))) (λ tag. list_any (nat_eq other) (tags_at (inside old tag))) tags
      (each_then (IsShared old new) (λ tag. list_any (nat_eq other) (tags_at (inside new tag)) ≡ list_any (nat_eq other) (tags_at (inside old tag)))
      (λ tag h. ap (list_any (nat_eq other)) (sym (same_at tag h).tags)) tags each_shared)

  same_children : (parent : ℕ) → is_closed old tags parent ≡ true → children_at (host_tree_of old) parent ≡ children_at (host_tree_of new) parent
  same_children parent e =
      where_any (children_at (host_tree_of old) parent ≡ children_at (host_tree_of new) parent) (λ tag. is_within old tag parent) tags
      (each_then (IsShared old new) (λ tag. is_within old tag parent ≡ true → children_at (host_tree_of old) parent ≡ children_at (host_tree_of new) parent)
      (λ tag h within. let same = same_at tag h in
      children_within old distinct_old low_old tag (of_old tag h) parent within ∙ ap (λ views. tags_by_z views parent) same.views
      ∙ sym (children_within new distinct_new low_new tag (of_new tag h) parent (ap (λ own. nat_eq parent tag || list_any (nat_eq parent) own) (sym same.tags) ∙ within))) tags each_shared) e

  same_views : (tag : ℕ) → is_inner old tags tag ≡ true → view_at (host_tree_of old) tag ≡ view_at (host_tree_of new) tag
  same_views tag e =
      where_any (view_at (host_tree_of old) tag ≡ view_at (host_tree_of new) tag) (λ top. list_any (nat_eq tag) (tags_at (inside old top))) tags
      (each_then (IsShared old new) (λ top. list_any (nat_eq tag) (tags_at (inside old top)) ≡ true → view_at (host_tree_of old) tag ≡ view_at (host_tree_of new) tag)
      (λ top h within. let same = same_at top h in
      view_within old distinct_old low_old top tag within ∙ ap (λ views. view_at views tag) same.views
      ∙ sym (view_within new distinct_new low_new top tag (ap (list_any (nat_eq tag)) (sym same.tags) ∙ within))) tags each_shared) e

  left_out : AreLeftOut (is_closed old tags) (is_inner old tags) (host_tree_of old) (host_tree_of new)
  left_out = record {
    even_old = each_even old distinct_old low_old tags all_old;
    even_new = each_then (λ (placed : PlainPlacedView). is_closed new tags placed.parent ≡ is_inner new tags placed.tag) (λ placed. is_closed old tags placed.parent ≡ is_inner old tags placed.tag)
        (λ placed e. sym (same_closed placed.parent) ∙ e ∙ same_inner placed.tag) (host_tree_of new) (each_even new distinct_new low_new tags all_new);
    own_old = each_own old distinct_old low_old;
    own_new = each_own new distinct_new low_new;
    within = inner_closed old tags;
    children = same_children;
    views = same_views;
  }

  -- the mutations are those between the trees without what lies below the unchanged contexts
  pub skipping_keeps : mutations_between (host_tree_of old) (host_tree_of new)
      ≡ mutations_between (host_tree_of (pruned (has_one_of (skipped_tags (is_unchanged_since stamps base) new)) old)) (host_tree_of (pruned (is_unchanged_since stamps base) new))
  skipping_keeps =
      let trees_old = host_tree_left old distinct_old low_old tags all_old in
      let trees_new = ap host_tree_of (pruned_by_tags unchanged new distinct_new) ∙ host_tree_left new distinct_new low_new tags all_new
      ∙ (λ i. filter (λ placed. not (same_inner placed.tag i)) (host_tree_of new)) in
      sym (same_mutations (is_closed old tags) (is_inner old tags) (host_tree_of old) (host_tree_of new) left_out)
      ∙ (λ i. mutations_between (sym trees_old i) (sym trees_new i))

  -- what is known of a node of the new forest
  record IsTold (here : Descendant) : Type 0 where
    above : list_any unchanged here.above ≡ is_inner new tags (tag_at here)
    first : list_any (nat_eq (tag_at here)) tags ≡ is_first unchanged here

  each_told : AllByRecursion IsTold (descendants new)
  each_told =
      let nodes = descendants new in
      let kept : filter (is_outside unchanged) nodes ≡ filter (is_outside (has_one_of tags)) nodes =
      sym (pruned_below unchanged [] new refl) ∙ ap descendants (pruned_by_tags unchanged new distinct_new) ∙ pruned_below (has_one_of tags) [] new refl in
      let one = λ (here : Descendant). list_any (nat_eq (tag_at here)) (tags_at (filter (is_outside unchanged) nodes)) ≡ is_outside unchanged here in
      let two = λ (here : Descendant). list_any (nat_eq (tag_at here)) (tags_at (filter (is_outside (has_one_of tags)) nodes)) ≡ is_outside (has_one_of tags) here in
      let three = λ (here : Descendant). list_any (nat_eq (tag_at here)) (tags_at (filter (is_first unchanged) nodes)) ≡ is_first unchanged here in
      let four = λ (here : Descendant). list_any (has_one_of tags) here.above ≡ is_inner new tags (tag_at here) in
      each_then (λ here. (one here × two here) × (three here × four here)) IsTold
      (λ here h. record {
        above =
            sym (not_twice (list_any unchanged here.above)) ∙ ap not (sym h.0.0 ∙ ap (λ some. list_any (nat_eq (tag_at here)) (tags_at some)) kept ∙ h.0.1)
            ∙ not_twice (list_any (has_one_of tags) here.above) ∙ h.1.1;
        first = ap (list_any (nat_eq (tag_at here))) (skipped_are unchanged new) ∙ h.1.0;
      }) nodes
      (each_of_two (λ here. one here × two here) (λ here. three here × four here) nodes
      (each_of_two one two nodes (passes_by_key tag_at (is_outside unchanged) nodes apart_new) (passes_by_key tag_at (is_outside (has_one_of tags)) nodes apart_new))
      (each_of_two three four nodes (passes_by_key tag_at (is_first unchanged) nodes apart_new) (each_tag_inner new distinct_new low_new tags all_new)))

  abbrev kept : SettledFields → Bool
  kept = is_kept_since stamps base new

  -- an unchanged context, by the nodes of the new forest
  kept_by_nodes : (was : SettledFields) → kept was ≡ list_any (λ here. nat_eq (tag_at here) was.fields.tag && unchanged here.settled) (descendants new)
  kept_by_nodes was =
      ap (list_any (λ now. nat_eq now.fields.tag was.fields.tag && unchanged now)) (sym (settled_in_preorder [] new))
      ∙ any_settled (λ now. nat_eq now.fields.tag was.fields.tag && unchanged now) (descendants new)

  -- an old node of an unchanged context is one of the skipped ones, or lies below one
  abbrev IsSkippedIfKept : Descendant → Type 0
  IsSkippedIfKept here = kept here.settled ≡ true → list_any (has_one_of tags) (line_of here) ≡ true

  skipped_if_kept : (here : Descendant) → list_any (has_one_of tags) here.above ≡ is_inner old tags (tag_at here) → IsSkippedIfKept here
  skipped_if_kept here e k =
      let goal = list_any (has_one_of tags) (line_of here) ≡ true in
      where_any goal (λ now. nat_eq (tag_at now) (tag_at here) && unchanged now.settled) (descendants new)
      (each_then IsTold (λ now. (nat_eq (tag_at now) (tag_at here) && unchanged now.settled) ≡ true → goal) by_node (descendants new) each_told)
      (sym (kept_by_nodes here.settled) ∙ k)
    where
      by_node : (now : Descendant) → IsTold now → (nat_eq (tag_at now) (tag_at here) && unchanged now.settled) ≡ true → list_any (has_one_of tags) (line_of here) ≡ true
      by_node now told both =
          let parts = and_parts (nat_eq (tag_at now) (tag_at here)) (unchanged now.settled) both in
          let same : tag_at now ≡ tag_at here = eqb-true (tag_at now) (tag_at here) parts.0 in
          elim (cases_Bool (list_any unchanged now.above)) [
            | inl below ↦
                or_right (has_one_of tags here.settled) (list_any (has_one_of tags) here.above)
                (e ∙ ap (is_inner old tags) (sym same) ∙ sym (same_inner (tag_at now)) ∙ sym told.above ∙ below)
            | inr top ↦
                or_left (has_one_of tags here.settled) (list_any (has_one_of tags) here.above)
                (ap (λ tag. list_any (nat_eq tag) tags) (sym same) ∙ told.first
                ∙ and_from (is_outside unchanged now) (unchanged now.settled) (ap not top) parts.1)
          ]

  -- and a skipped one is unchanged
  kept_if_skipped : (was : SettledFields) → has_one_of tags was ≡ true → kept was ≡ true
  kept_if_skipped was e =
      kept_by_nodes was
      ∙ among_passing (is_first unchanged) (λ here. unchanged here.settled) (λ here both. (and_parts (is_outside unchanged here) (unchanged here.settled) both).1) was.fields.tag (descendants new)
      (sym (ap (list_any (nat_eq was.fields.tag)) (skipped_are unchanged new)) ∙ e)

  line_skipped : (above : List SettledFields) → Along IsSkippedIfKept above → list_any kept above ≡ true → list_any (has_one_of tags) above ≡ true
  line_skipped [] h e = e
  line_skipped (settled ∷ above) h e =
      elim (or_cases (kept settled) (list_any kept above) e) [
        | inl own ↦ h.0 own
        | inr later ↦ or_right (has_one_of tags settled) (list_any (has_one_of tags) above) (line_skipped above h.1 later)
      ]

  -- a node and its ancestors have one that is unchanged exactly where they have a skipped one
  each_line : AllByRecursion (λ here. list_any kept (line_of here) ≡ list_any (has_one_of tags) (line_of here)) (descendants old)
  each_line =
      let nodes = descendants old in
      let each = each_then (λ here. list_any (has_one_of tags) here.above ≡ is_inner old tags (tag_at here)) IsSkippedIfKept skipped_if_kept nodes (each_tag_inner old distinct_old low_old tags all_old) in
      each_then (λ here. IsSkippedIfKept here × Along IsSkippedIfKept here.above) (λ here. list_any kept (line_of here) ≡ list_any (has_one_of tags) (line_of here))
      (λ here h. same_from_both (list_any kept (line_of here)) (list_any (has_one_of tags) (line_of here)) (line_skipped (line_of here) h) (any_more (has_one_of tags) kept kept_if_skipped (line_of here))) nodes
      (each_of_two IsSkippedIfKept (λ here. Along IsSkippedIfKept here.above) nodes each (each_along IsSkippedIfKept [] old tt each))

  -- as many old nodes lie outside the unchanged contexts as outside the skipped ones
  pub skipping_counts : count_outside (is_kept_since stamps base new) old ≡ count_outside (has_one_of (skipped_tags (is_unchanged_since stamps base) new)) old
  skipping_counts =
      same_count (λ here. not (list_any kept (line_of here))) (λ here. not (list_any (has_one_of tags) (line_of here))) (descendants old)
      (each_then (λ here. list_any kept (line_of here) ≡ list_any (has_one_of tags) (line_of here)) (λ here. not (list_any kept (line_of here)) ≡ not (list_any (has_one_of tags) (line_of here)))
      (λ here h. ap not h) (descendants old) each_line)

  -- and the same is left of the old forest
  pub skipping_prunes : pruned (is_kept_since stamps base new) old ≡ pruned (has_one_of (skipped_tags (is_unchanged_since stamps base) new)) old
  skipping_prunes = pruned_alike kept (has_one_of tags) [] old refl refl each_line
