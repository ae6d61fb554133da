-- What a walk adds to what it found, and what it counts.
use Rattle.std.proofs.Common.{◌≡◌, ◌+◌, ◌≤◌, ℕ, List, [], ◌∷◌, ◌++◌, Bool, true, false, cond, filter, map, Option, Some, None, arith, refl, ap, sym, subst, ◌∙◌, append_assoc}
use Rattle.std.proofs.lemmas.Int.{ints}
use Rattle.std.proofs.lemmas.List.{append-nil, map-append}
use Rattle.std.proofs.lemmas.List.Elements.{filter-append}
use Rattle.std.specs.List.{AllByRecursion}
use Rattle.std.specs.Option.{option_map}
use Rattle.std.specs.Prelude.{pos}
use Rattle.counts.specs.Raised.{raised}
use Rattle.shadow_frame.specs.declared.Point.{Point}
use Rattle.shadow_frame.specs.declared.Rect.{Rect}
use Rattle.shadow_kinds.specs.Traits.{is_hidden_of}
use Rattle.tree_settle.specs.Limits.{IsFrameInBounds}
use Rattle.shadow_node.specs.Entered.{count_outside}
use Rattle.shadow_node.specs.Forest.{PlainForest, PlainNode, forest_of, none, node, preorder}
use Rattle.shadow_node.specs.Fields.{SettledFields, contents_of, tags_of}
use Rattle.shadow_node.specs.Pruned.{pruned, skipped_tags}
use Rattle.view_flatten.specs.declared.sites.Found.{Found}
use Rattle.view_flatten.specs.declared.sites.Host.{Host}
use Rattle.view_flatten.specs.HostTree.{moved}
use Rattle.view_flatten.specs.Sites.{PlainSite, AreSitesMarked, HasFound, HasRoomBelow, HasRoomFor, begin_in, host_inside, own_site, plain_sites, shown_host, shown_site, shown_sites, sites_from, unless_hidden}
use Rattle.view_flatten.specs.Walks.{PlainWalk, entered_more}
use Rattle.view_flatten.proofs.Distinct.{each_in_both, each_in_first}
use Rattle.view_flatten.proofs.Reached.{outside_both}
use Rattle.view_flatten.proofs.Shorthands.{is_context}

-- what lies below a node, where the walk enters it
abbrev entered_below : (SettledFields → Bool) → SettledFields → PlainForest SettledFields → PlainForest SettledFields
entered_below test settled children = cond (test settled) none (pruned test children)

-- the sites of a tree: the node's own, and those below it
shown_tree : (test : SettledFields → Bool) (host : Option Host) (settled : SettledFields) (children : PlainForest SettledFields)
    → shown_sites host (pruned test (node settled children none))
    ≡ shown_site (shown_host host settled) settled ++ shown_sites (option_map (λ host. host_inside host settled) (shown_host host settled)) (entered_below test settled children)
shown_tree test None settled children =
    elim (is_hidden_of settled.fields.props) as (λ b. [] ≡ shown_site (cond b None None) settled ++ shown_sites (option_map (λ host. host_inside host settled) (cond b None None)) (entered_below test settled children)) [
      | true ↦ refl
      | false ↦ refl
    ]
shown_tree test (Some host) settled children =
    let below = sites_from (host_inside host settled) (entered_below test settled children) in
    elim (is_hidden_of settled.fields.props) as (λ b. unless_hidden b (own_site host settled ++ below) ++ [] ≡ shown_site (cond b None (Some host)) settled ++ shown_sites (option_map (λ host. host_inside host settled) (cond b None (Some host))) (entered_below test settled children)) [
      | true ↦ refl
      | false ↦ append-nil (own_site host settled ++ below)
    ]

-- the sites of a tree before those of later ones
shown_both : (test : SettledFields → Bool) (host : Option Host) (settled : SettledFields) (children siblings : PlainForest SettledFields)
    → shown_sites host (pruned test (node settled children siblings)) ≡ shown_sites host (pruned test (node settled children none)) ++ shown_sites host (pruned test siblings)
shown_both test None settled children siblings = refl
shown_both test (Some host) settled children siblings =
    ap (λ own. own ++ sites_from host (pruned test siblings)) (sym (append-nil (unless_hidden (is_hidden_of settled.fields.props) (own_site host settled ++ sites_from (host_inside host settled) (entered_below test settled children)))))

-- the tags of the nodes that are not entered: the node's own, or those below it, and then those of later trees
skipped_both : (test : SettledFields → Bool) (settled : SettledFields) (children siblings : PlainForest SettledFields)
    → skipped_tags test (node settled children siblings) ≡ cond (test settled) (settled.fields.tag ∷ []) (skipped_tags test children) ++ skipped_tags test siblings
skipped_both test settled children siblings =
    let after = preorder (pruned test siblings) in
    let tag_of : SettledFields → ℕ = λ settled. settled.fields.tag in
    elim (test settled) as (λ b. map tag_of (cond b (settled ∷ filter test (preorder (cond b none (pruned test children)) ++ after)) (filter test (preorder (cond b none (pruned test children)) ++ after)))
    ≡ cond b (settled.fields.tag ∷ []) (skipped_tags test children) ++ skipped_tags test siblings) [
      | true ↦ refl
      | false ↦
          ap (map tag_of) (filter-append test (preorder (pruned test children)) after)
          ∙ map-append tag_of (filter test (preorder (pruned test children))) (filter test after)
    ]

-- one level below, a place has room for one level less
room_below : (levels : ℕ) (place : Point) (frame : Rect) → HasRoomFor (levels + 1) place → IsFrameInBounds frame → HasRoomFor levels (moved place frame.origin)
room_below levels place frame h k = record { x_low = omega (arith, ints); x_high = omega (arith, ints); y_low = omega (arith, ints); y_high = omega (arith, ints) }

-- the corner of a context has room for as many levels as any place may have
room_at_start : (levels : ℕ) (place : Point) → HasRoomFor (levels + 1) place → HasRoomFor levels (record { x = pos 0; y = pos 0 })
room_at_start levels place h = record { x_low = omega (arith, ints); x_high = omega (arith, ints); y_low = omega (arith, ints); y_high = omega (arith, ints) }

-- where nodes with that host begin
abbrev begin_with : Host → Point
begin_with host = host.begin

-- below a node there is room for one level less
pub room_inside : (levels : ℕ) (host : Host) (settled : SettledFields) → HasRoomFor (levels + 1) host.begin → IsFrameInBounds settled.frame → HasRoomFor levels (host_inside host settled).begin
room_inside levels host settled h k =
    let own : Host = record { parent = settled.fields.tag; begin = record { x = pos 0; y = pos 0 } } in
    let same : Host = record { parent = host.parent; begin = begin_in host settled } in
    elim (is_context settled) as (λ b. HasRoomFor levels (begin_with (cond b own same))) [
      | true ↦ room_at_start levels host.begin h
      | false ↦ room_below levels host.begin settled.frame h k
    ]

tags_both : (test : SettledFields → Bool) (tree : PlainNode SettledFields) (siblings : PlainForest SettledFields)
    → skipped_tags test (forest_of (tree ∷ [])) ++ skipped_tags test siblings ≡ skipped_tags test (node tree.fields tree.children siblings)
tags_both test tree siblings =
    ap (λ tags. tags ++ skipped_tags test siblings) (skipped_both test tree.fields tree.children none ∙ append-nil _)
    ∙ sym (skipped_both test tree.fields tree.children siblings)

-- each tag of a forest is at least 1
abbrev AreLow : PlainForest SettledFields → Type 0
AreLow forest = AllByRecursion (λ tag. 1 ≤ tag) (tags_of (contents_of forest))

-- so are the tags of a node, of what lies below it and of later trees, and the other way round
low_node : (settled : SettledFields) (children siblings : PlainForest SettledFields) → 1 ≤ settled.fields.tag → AreLow children → AreLow siblings → AreLow (node settled children siblings)
low_node settled children siblings low h k = (
  low,
  subst (AllByRecursion (λ tag. 1 ≤ tag)) (sym (map-append (λ fields. fields.tag) (preorder (contents_of children)) (preorder (contents_of siblings))))
      (each_in_both (λ tag. 1 ≤ tag) (tags_of (contents_of children)) (tags_of (contents_of siblings)) h k),
)

low_below : (settled : SettledFields) (children : PlainForest SettledFields) → AreLow (node settled children none) → AreLow children
low_below settled children h =
    each_in_first (λ tag. 1 ≤ tag) (tags_of (contents_of children)) [] (subst (AllByRecursion (λ tag. 1 ≤ tag)) (map-append (λ fields. fields.tag) (preorder (contents_of children)) []) h.1)

-- nothing is found where there is no node
pub found_none : (test : SettledFields → Bool) (host : Option Host) (found : Found) → HasFound test host none found found
found_none test None found = record { sites = sym (append-nil _); marked = λ h. h; skipped = sym (append-nil _); tagged = tt }
found_none test (Some host) found = record { sites = sym (append-nil _); marked = λ h. h; skipped = sym (append-nil _); tagged = tt }

-- what is found at a tree, and then at later ones
pub found_both : (test : SettledFields → Bool) (host : Option Host) (tree : PlainNode SettledFields) (siblings : PlainForest SettledFields) (old between new : Found)
    → HasFound test host (forest_of (tree ∷ [])) old between → HasFound test host siblings between new → HasFound test host (node tree.fields tree.children siblings) old new
found_both test host tree siblings old between new h k = record {
  sites =
      k.sites ∙ ap (λ sites. sites ++ shown_sites host (pruned test siblings)) h.sites
      ∙ append_assoc (plain_sites old.sites.items) (shown_sites host (pruned test (forest_of (tree ∷ [])))) (shown_sites host (pruned test siblings))
      ∙ ap (λ sites. plain_sites old.sites.items ++ sites) (sym (shown_both test host tree.fields tree.children siblings));
  marked = λ m. k.marked (h.marked m);
  skipped =
      k.skipped ∙ ap (λ tags. tags ++ skipped_tags test siblings) h.skipped
      ∙ append_assoc old.skipped.items (skipped_tags test (forest_of (tree ∷ []))) (skipped_tags test siblings)
      ∙ ap (λ tags. old.skipped.items ++ tags) (tags_both test tree siblings);
  tagged = low_node tree.fields (entered_below test tree.fields tree.children) (pruned test siblings) h.tagged.0 (low_below tree.fields (entered_below test tree.fields tree.children) h.tagged) k.tagged;
}

-- at a node that is not entered, its own site and its tag are found
pub found_skipped : (test : SettledFields → Bool) (host : Option Host) (tree : PlainNode SettledFields) (old new : Found) → test tree.fields ≡ true → 1 ≤ tree.fields.fields.tag
    → plain_sites new.sites.items ≡ plain_sites old.sites.items ++ shown_site (shown_host host tree.fields) tree.fields
    → (AreSitesMarked test old.sites.items → AreSitesMarked test new.sites.items)
    → new.skipped.items ≡ old.skipped.items ++ tree.fields.fields.tag ∷ [] → HasFound test host (forest_of (tree ∷ [])) old new
found_skipped test host tree old new is low sites marked skipped = record {
  sites = sites ∙ ap (λ own. plain_sites old.sites.items ++ own) (sym (append-nil _) ∙ ap (λ below. own ++ below) (sym (shown_nothing inside)) ∙ ap (λ b. own ++ shown_sites inside (cond b none (pruned test tree.children))) (sym is) ∙ sym (shown_tree test host tree.fields tree.children));
  marked = marked;
  skipped = skipped ∙ ap (λ tags. old.skipped.items ++ tags) (ap (λ b. cond b (tree.fields.fields.tag ∷ []) (skipped_tags test tree.children) ++ []) (sym is) ∙ sym (skipped_both test tree.fields tree.children none));
  tagged = subst (λ b. AreLow (node tree.fields (cond b none (pruned test tree.children)) none)) (sym is) (low, tt);
}
  where
    own : List PlainSite
    own = shown_site (shown_host host tree.fields) tree.fields

    inside : Option Host
    inside = option_map (λ host. host_inside host tree.fields) (shown_host host tree.fields)

    shown_nothing : (host : Option Host) → shown_sites host none ≡ []
    shown_nothing None = refl
    shown_nothing (Some host) = refl

-- at a node that is entered, its own site is found, and then what lies below
pub found_entered : (test : SettledFields → Bool) (host below : Option Host) (tree : PlainNode SettledFields) (old between new : Found) → test tree.fields ≡ false → 1 ≤ tree.fields.fields.tag
    → below ≡ option_map (λ host. host_inside host tree.fields) (shown_host host tree.fields)
    → plain_sites between.sites.items ≡ plain_sites old.sites.items ++ shown_site (shown_host host tree.fields) tree.fields
    → (AreSitesMarked test old.sites.items → AreSitesMarked test between.sites.items)
    → between.skipped.items ≡ old.skipped.items → HasFound test below tree.children between new → HasFound test host (forest_of (tree ∷ [])) old new
found_entered test host below tree old between new is low inside sites marked skipped h = record {
  sites =
      h.sites ∙ ap (λ sites. sites ++ shown_sites below (pruned test tree.children)) sites
      ∙ append_assoc (plain_sites old.sites.items) own (shown_sites below (pruned test tree.children))
      ∙ ap (λ sites. plain_sites old.sites.items ++ sites)
      ((λ i. own ++ shown_sites (inside i) (cond (sym is i) none (pruned test tree.children))) ∙ sym (shown_tree test host tree.fields tree.children));
  marked = λ m. h.marked (marked m);
  skipped =
      h.skipped ∙ ap (λ tags. tags ++ skipped_tags test tree.children) skipped
      ∙ ap (λ tags. old.skipped.items ++ tags)
      (sym (append-nil _) ∙ ap (λ b. cond b (tree.fields.fields.tag ∷ []) (skipped_tags test tree.children) ++ []) (sym is) ∙ sym (skipped_both test tree.fields tree.children none));
  tagged = subst (λ b. AreLow (node tree.fields (cond b none (pruned test tree.children)) none)) (sym is) (low_node tree.fields (pruned test tree.children) none low h.tagged tt);
}
  where
    own : List PlainSite
    own = shown_site (shown_host host tree.fields) tree.fields

-- a walk that enters some nodes and then others
pub entered_then : (walk : PlainWalk) (a b : ℕ) → entered_more (entered_more walk a) b ≡ entered_more walk (a + b)
entered_then walk a b i = record { forest = walk.forest; stamps = walk.stamps; entered = counts i }
  where
    counts : raised (raised walk.entered a) b ≡ raised walk.entered (a + b)
    counts = omega arith

-- a walk that enters none
pub entered_nothing : (walk : PlainWalk) → entered_more walk 0 ≡ walk
entered_nothing walk i = record { forest = walk.forest; stamps = walk.stamps; entered = counts i }
  where
    counts : raised walk.entered 0 ≡ walk.entered
    counts = omega arith

-- there is room for fewer levels
pub room_for_less : (less levels : ℕ) (host : Option Host) → less ≤ levels → HasRoomBelow levels host → HasRoomBelow less host
room_for_less less levels None le h = tt
room_for_less less levels (Some host) le h = record { x_low = omega (arith, ints); x_high = omega (arith, ints); y_low = omega (arith, ints); y_high = omega (arith, ints) }

-- and for a node that is shown as for any
pub room_shown : (levels : ℕ) (host : Option Host) (settled : SettledFields) → HasRoomBelow levels host → HasRoomBelow levels (shown_host host settled)
room_shown levels host settled h =
    elim (is_hidden_of settled.fields.props) as (λ b. HasRoomBelow levels (cond b None host)) [ true ↦ tt | false ↦ h ]

-- below it for one level less
pub room_below_node : (levels : ℕ) (host : Option Host) (settled : SettledFields) → HasRoomBelow (levels + 1) host → IsFrameInBounds settled.frame
    → HasRoomBelow levels (option_map (λ host. host_inside host settled) host)
room_below_node levels None settled h k = tt
room_below_node levels (Some host) settled h k = room_inside levels host settled h k

-- where the node itself begins there is room too
pub room_at_node : (levels : ℕ) (host : Option Host) (settled : SettledFields) → HasRoomBelow (levels + 1) host → HasRoomBelow 1 (shown_host host settled)
room_at_node levels host settled h = room_shown 1 host settled (room_for_less 1 (levels + 1) host (omega arith) h)

-- a walk that enters a tree and then the later ones
pub entered_both : (test : SettledFields → Bool) (tree : PlainNode SettledFields) (siblings : PlainForest SettledFields) (old between : PlainWalk)
    → between ≡ entered_more old (count_outside test (forest_of (tree ∷ [])))
    → entered_more between (count_outside test siblings) ≡ entered_more old (count_outside test (node tree.fields tree.children siblings))
entered_both test tree siblings old between h =
    ap (λ walk. entered_more walk (count_outside test siblings)) h ∙ entered_then old (count_outside test (forest_of (tree ∷ []))) (count_outside test siblings)
    ∙ ap (entered_more old) sums
  where
    sums : count_outside test (forest_of (tree ∷ [])) + count_outside test siblings ≡ count_outside test (node tree.fields tree.children siblings)
    sums =
        let alone = outside_both test tree.fields tree.children none in
        let whole = outside_both test tree.fields tree.children siblings in
        omega (arith, alone, whole)

-- a walk that does not enter a node
pub entered_not : (test : SettledFields → Bool) (tree : PlainNode SettledFields) (walk : PlainWalk) → test tree.fields ≡ true
    → walk ≡ entered_more walk (count_outside test (forest_of (tree ∷ [])))
entered_not test tree walk is = sym (entered_nothing walk) ∙ ap (entered_more walk) none_there
  where
    none_there : 0 ≡ count_outside test (forest_of (tree ∷ []))
    none_there =
        let own : cond (test tree.fields) 0 (1 + count_outside test tree.children) ≡ 0 = ap (λ b. cond b 0 (1 + count_outside test tree.children)) is in
        omega (arith, outside_both test tree.fields tree.children none, own)

-- a walk that enters a node, and then what lies below
pub entered_own : (test : SettledFields → Bool) (tree : PlainNode SettledFields) (old between new : PlainWalk) → test tree.fields ≡ false
    → between ≡ entered_more old 1 → new ≡ entered_more between (count_outside test tree.children) → new ≡ entered_more old (count_outside test (forest_of (tree ∷ [])))
entered_own test tree old between new isnt h k =
    k ∙ ap (λ walk. entered_more walk (count_outside test tree.children)) h ∙ entered_then old 1 (count_outside test tree.children) ∙ ap (entered_more old) sums
  where
    sums : 1 + count_outside test tree.children ≡ count_outside test (forest_of (tree ∷ []))
    sums =
        let own : cond (test tree.fields) 0 (1 + count_outside test tree.children) ≡ 1 + count_outside test tree.children = ap (λ b. cond b 0 (1 + count_outside test tree.children)) isnt in
        omega (arith, outside_both test tree.fields tree.children none, own)
