use Rattle.std.proofs.Common.{◌≡◌, ◌-◌, ◌≤◌, ◌++◌, Bool, length, drop}
use Rattle.shadow_node.specs.Fields.{SettledFields}
use Rattle.view_flatten.specs.Placed.{AreMarked, plain_places}
use Rattle.view_flatten.specs.Placing.{HoldOnlyWhereMarked, blocks_below, placed_sites, tree_below}
use Rattle.view_flatten.specs.Sites.{AreSitesMarked, plain_sites}
use Rattle.view_flatten.proofs.placing.+add_below.Given as goal

abbrev pub decreases-add_below : goal.decreases-add_below
decreases-add_below l = l.levels

abbrev pub invariant-loop-index : goal.invariant-loop-index
invariant-loop-index l = record {
  left : plain_places l.places.items ++ blocks_below (l.levels - 1) (plain_sites l.sites) (placed_sites l.parent l.index (plain_sites (drop l.index l.site-items)))
      ≡ plain_places l.initial.places.items ++ tree_below l.levels (plain_sites l.sites) l.parent;
  sites : (test : SettledFields → Bool) → AreSitesMarked test l.sites → AreSitesMarked test l.site-items;
  closed : HoldOnlyWhereMarked (plain_sites l.sites) l.site-items;
  places : (test : SettledFields → Bool) → AreSitesMarked test l.sites → AreMarked test l.initial.places.items → AreMarked test l.places.items;
  len : length l.site-items ≤ length l.sites;
}
