use Rattle.std.proofs.Common.{◌≡◌, ◌++◌, length, rules, arith, ap, sym, ◌∙◌, subst}
use Rattle.std.proofs.lemmas.List.{length-map}
use Rattle.std.proofs.lemmas.List.Elements.{All-nil}
use Rattle.std.proofs.lemmas.List.Sorted.{All-permutation, length_permutation}
use Rattle.shadow_node.specs.Forest.{depth_of}
use Rattle.view_flatten.specs.declared.placing.Placed.{Placed}
use Rattle.view_flatten.specs.declared.sites.Found.{Found}
use Rattle.view_flatten.specs.declared.sites.Host.{Host}
use Rattle.view_flatten.specs.Placed.{AreMarked, plain_place, plain_places}
use Rattle.shadow_node.specs.Pruned.{pruned}
use Rattle.view_flatten.specs.Placing.{HoldOnlyWhereMarked, tree_below}
use Rattle.view_flatten.specs.Sites.{AreSitesMarked, HasRoomFor, IsSiteMarked, plain_sites, root, sites_from}
use Rattle.view_flatten.specs.Skips.{skips}
use Rattle.view_flatten.specs.Walks.{PlainSpots}
use Rattle.view_flatten.proofs.Whole.{found_at_root, room_at_root, sites_found, sites_le, tree_le, whole_tree}
use Rattle.view_flatten.proofs.Holding.{found_holding, ordered_holding}
use Rattle.view_flatten.proofs.places.Goals as goal

pub add_forest-requires-clause-room : goal.add_forest-requires-clause-room
add_forest-requires-clause-room c =
    subst (λ (host : Host). HasRoomFor (depth_of c.top-top.result.forest) host.begin) (sym c.root.ensures)
    (subst (λ (spots : PlainSpots). HasRoomFor (depth_of spots.forest) root.begin) (sym c.top-top.ensures) (room_at_root c.args.walk.now.forest c.requires.limits))

pub add_below-requires-clause-closed : goal.add_below-requires-clause-closed
add_below-requires-clause-closed c =
    let test = skips c.args.skip.now c.args.walk.now.stamps in
    let start : Found = record { sites = c.new.result; skipped = c.new-2.result } in
    let whole = found_at_root c.args.skip.now c.args.walk.now.stamps c.args.walk.now.forest c.top-top.result c.root.result start c.add_forest.new.found c.top-top.ensures c.root.ensures c.in_ok-add_forest.ensures.found in
    let found = whole.sites ∙ ap (λ sites. plain_sites sites ++ sites_from root (pruned test c.args.walk.now.forest)) c.new.ensures.items in
    let marked = whole.marked (subst (AreSitesMarked test) (sym c.new.ensures.items) (All-nil (IsSiteMarked test))) in
    let holding = found_holding c.args.skip.now c.args.walk.now.stamps c.args.walk.now.forest c.requires.limits.within.differ whole.tagged c.add_forest.new.found.sites.items found marked in
    subst (λ sites. HoldOnlyWhereMarked (plain_sites sites) sites) (sym c.deref.ensures.value)
    (ordered_holding c.add_forest.new.found.sites.items c.put_in_order.new.sites.items c.put_in_order.ensures.moved c.in_ok-put_in_order.ensures.by_z holding)

pub add_below-requires-clause-count : goal.add_below-requires-clause-count
add_below-requires-clause-count c =
    let test = skips c.args.skip.now c.args.walk.now.stamps in
    let start : Found = record { sites = c.new.result; skipped = c.new-2.result } in
    let whole = found_at_root c.args.skip.now c.args.walk.now.stamps c.args.walk.now.forest c.top-top.result c.root.result start c.add_forest.new.found c.top-top.ensures c.root.ensures c.in_ok-add_forest.ensures.found in
    let found = sites_found test c.args.walk.now.forest start c.add_forest.new.found c.new.ensures.items whole in
    let count = length_permutation _ _ c.put_in_order.ensures.moved in
    omega (arith, sites_le test c.args.walk.now.forest _ c.requires.limits found, count, ap length c.deref.ensures.value)

pub returns-clause-tree : goal.returns-clause-tree
returns-clause-tree c =
    let test = skips c.args.skip.now c.args.walk.now.stamps in
    let start : Found = record { sites = c.new.result; skipped = c.new-2.result } in
    let whole = found_at_root c.args.skip.now c.args.walk.now.stamps c.args.walk.now.forest c.top-top.result c.root.result start c.add_forest.new.found c.top-top.ensures c.root.ensures c.in_ok-add_forest.ensures.found in
    let found = sites_found test c.args.walk.now.forest start c.add_forest.new.found c.new.ensures.items whole in
    let ordered = c.put_in_order.new.sites.items in
    let tree = whole_tree test c.args.walk.now.forest c.add_forest.new.found.sites.items ordered found c.in_ok-put_in_order.ensures.by_z (length_permutation _ _ c.put_in_order.ensures.moved) in
    let levels : c.len-2.result ≡ length ordered = search rules in
    let below : plain_places c.add_below.new.places.items ≡ tree_below (length ordered) (plain_sites ordered) 0 =
    c.in_ok-add_below.ensures.places ∙ (λ i. plain_places (c.in_ok-list.ensures.items i) ++ tree_below (levels i) (plain_sites (c.deref.ensures.value i)) 0) in
    below ∙ tree

pub returns-clause-count : goal.returns-clause-count
returns-clause-count c =
    let test = skips c.args.skip.now c.args.walk.now.stamps in
    let start : Found = record { sites = c.new.result; skipped = c.new-2.result } in
    let whole = found_at_root c.args.skip.now c.args.walk.now.stamps c.args.walk.now.forest c.top-top.result c.root.result start c.add_forest.new.found c.top-top.ensures c.root.ensures c.in_ok-add_forest.ensures.found in
    omega (arith, tree_le test c.args.walk.now.forest c.requires.limits whole.tagged, ap length (returns-clause-tree c), length-map c.add_below.new.places.items plain_place)

pub returns-clause-marked : goal.returns-clause-marked
returns-clause-marked c =
    let test = skips c.args.skip.now c.args.walk.now.stamps in
    let start : Found = record { sites = c.new.result; skipped = c.new-2.result } in
    let whole = found_at_root c.args.skip.now c.args.walk.now.stamps c.args.walk.now.forest c.top-top.result c.root.result start c.add_forest.new.found c.top-top.ensures c.root.ensures c.in_ok-add_forest.ensures.found in
    let marked = whole.marked (subst (AreSitesMarked test) (sym c.new.ensures.items) (All-nil (IsSiteMarked test))) in
    let ordered = All-permutation (IsSiteMarked test) c.add_forest.new.found.sites.items c.put_in_order.new.sites.items c.put_in_order.ensures.moved marked in
    c.in_ok-add_below.ensures.marked test (subst (AreSitesMarked test) (sym c.deref.ensures.value) ordered) (subst (AreMarked test) (sym c.in_ok-list.ensures.items) (All-nil (λ (placed : Placed). placed.is_skipped ≡ test placed.spot.tree.fields)))
