-- From the walk over the order to the tree.
use Rattle.std.proofs.Common.{◌≡◌, ◌≤◌, List, [], ◌++◌, length, map, true, false, cond, Some, refl, ap, sym, ◌∙◌, subst, arith}
use Rattle.std.specs.Prelude.{Bool}
use Rattle.std.specs.List.{AllByRecursion}
use Rattle.std.proofs.lemmas.Int.{ints}
use Rattle.std.proofs.lemmas.List.{length-map}
use Rattle.shadow_node.specs.Forest.{PlainForest, depth_of, node, node_count, none}
use Rattle.shadow_node.specs.Fields.{SettledFields, contents_of, tags_of}
use Rattle.shadow_node.specs.Pruned.{pruned}
use Rattle.shadow_node.specs.Stamps.{StampMap}
use Rattle.shadow_node.proofs.Maps.{depth_of-forest_map, node_count-forest_map}
use Rattle.tree_settle.specs.Limits.{IsForestInLimits}
use Rattle.view_flatten.specs.declared.sites.Found.{Found}
use Rattle.view_flatten.specs.declared.sites.Host.{Host}
use Rattle.view_flatten.specs.declared.sites.Site.{Site}
use Rattle.view_flatten.specs.declared.skips.Skip.{Skip}
use Rattle.view_flatten.specs.HostTree.{viewed, host_tree_of}
use Rattle.view_flatten.specs.Sites.{HasFound, HasRoomFor, plain_site, plain_sites, root, site_of, sites_from}
use Rattle.view_flatten.specs.Skips.{skips}
use Rattle.view_flatten.specs.Walks.{PlainSpots}
use Rattle.view_flatten.specs.Placing.{AreByZ, tree_below}
use Rattle.view_flatten.proofs.ByZ.{same_tree}
use Rattle.view_flatten.proofs.Few.{host_tree_le, viewed_le}
use Rattle.view_flatten.proofs.Found.{found}
use Rattle.view_flatten.proofs.Outside.{pruned_distinct}

-- at the root there is room for each level of a revision's forest
pub room_at_root : (forest : PlainForest SettledFields) → IsForestInLimits forest → HasRoomFor (depth_of forest) root.begin
room_at_root forest h =
    let depth : depth_of forest ≤ 48 = omega (arith, depth_of-forest_map (λ (settled : SettledFields). settled.fields) forest, h.within.depth) in
    record { x_low = omega (arith, ints); x_high = omega (arith, ints); y_low = omega (arith, ints); y_high = omega (arith, ints) }

-- without what lies below some nodes there are no more nodes
pub pruned_le : (test : SettledFields → Bool) (forest : PlainForest SettledFields) → node_count (pruned test forest) ≤ node_count forest
pruned_le test none = omega arith
pruned_le test (node settled children siblings) =
    let fewer = pruned_le test children in
    let below : node_count (cond (test settled) none (pruned test children)) ≤ node_count children =
    elim (test settled) as (λ b. node_count (cond b none (pruned test children)) ≤ node_count children) [ true ↦ omega arith | false ↦ fewer ] in
    omega (arith, below, pruned_le test siblings)

-- what is found from the top nodes of a walk with the root as their host
pub found_at_root : (skip : Skip) (stamps : StampMap) (forest : PlainForest SettledFields) (spots : PlainSpots) (host : Host) (start new : Found)
    → spots ≡ record { forest = forest; stamps = stamps } → host ≡ root → HasFound (skips skip spots.stamps) (Some host) spots.forest start new
    → HasFound (skips skip stamps) (Some root) forest start new
found_at_root skip stamps forest spots host start new s r h =
    subst (λ (spots : PlainSpots). HasFound (skips skip spots.stamps) (Some root) spots.forest start new) s
    (subst (λ host. HasFound (skips skip spots.stamps) (Some host) spots.forest start new) r h)

module _ (test : SettledFields → Bool) (forest : PlainForest SettledFields) where
  -- the sites that were added to none are those of the nodes that have a view
  pub sites_found : (start new : Found) → start.sites.items ≡ [] → HasFound test (Some root) forest start new → plain_sites new.sites.items ≡ map site_of (viewed (pruned test forest))
  sites_found start new e h = h.sites ∙ ap (λ sites. plain_sites sites ++ sites_from root (pruned test forest)) e ∙ sym (found (pruned test forest))

  -- there are as many
  sites_count : (sites : List Site) → plain_sites sites ≡ map site_of (viewed (pruned test forest)) → length sites ≡ length (viewed (pruned test forest))
  sites_count sites h = sym (length-map sites plain_site) ∙ ap length h ∙ length-map (viewed (pruned test forest)) site_of

  -- which is at most 2,000
  pub sites_le : (sites : List Site) → IsForestInLimits forest → plain_sites sites ≡ map site_of (viewed (pruned test forest)) → length sites ≤ 2000
  sites_le sites limits h =
      omega (arith, sites_count sites h, viewed_le (pruned test forest), pruned_le test forest, node_count-forest_map (λ (settled : SettledFields). settled.fields) forest, limits.within.count)

  -- once they are in order, the tree that they make is the host tree
  pub whole_tree : (sites ordered : List Site) → plain_sites sites ≡ map site_of (viewed (pruned test forest)) → AreByZ (plain_sites sites) (plain_sites ordered)
      → length ordered ≡ length sites → tree_below (length ordered) (plain_sites ordered) 0 ≡ host_tree_of (pruned test forest)
  whole_tree sites ordered h by_z count =
      let nodes = viewed (pruned test forest) in
      ap (λ levels. tree_below levels (plain_sites ordered) 0) (count ∙ sites_count sites h)
      ∙ same_tree nodes (plain_sites ordered) (subst (λ s. AreByZ s (plain_sites ordered)) h by_z) (length nodes) 0

  -- and has at most 2,000 views
  pub tree_le : IsForestInLimits forest → AllByRecursion (λ tag. 1 ≤ tag) (tags_of (contents_of (pruned test forest))) → length (host_tree_of (pruned test forest)) ≤ 2000
  tree_le limits tagged =
      omega (arith, host_tree_le (pruned test forest) (pruned_distinct test forest limits.within.differ) tagged, pruned_le test forest, node_count-forest_map (λ (settled : SettledFields). settled.fields) forest, limits.within.count)

-- without a test that any node passes the forest is whole
pub pruned_nothing : (forest : PlainForest SettledFields) → pruned (λ settled. false) forest ≡ forest
pruned_nothing none = refl
pruned_nothing (node settled children siblings) = λ i. node settled (pruned_nothing children i) (pruned_nothing siblings i)
