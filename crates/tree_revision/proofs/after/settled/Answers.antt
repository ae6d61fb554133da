use Rattle.std.proofs.Common.{◌+◌, sym, subst, arith}
use Rattle.native_state.specs.Families.{cell_in}
use Rattle.shadow_node.specs.Fields.{SettledFields, contents_of}
use Rattle.shadow_node.proofs.Maps.{depth_of-forest_map}
use Rattle.tree_revision.specs.Steps.{AreCountsWithin}
use Rattle.tree_revision.proofs.Unsettled.{settled_again}
use Rattle.tree_revision.proofs.after.settled.Goals as goal

pub settle-requires-clause-depth : goal.settle-requires-clause-depth
settle-requires-clause-depth c =
    let depth = depth_of-forest_map (λ (settled : SettledFields). settled.fields) c.args.forest.now in
    omega (arith, depth, c.requires.within.depth)

pub invariant_of-result : goal.invariant_of-result
invariant_of-result c =
    record {
      size = c.requires.size;
      forest = c.in_ok-forest.ensures.limits c.requires.within;
      settled = settled_again c.args.size (cell_in c.args.families) (contents_of c.args.forest.now) c.in_ok-forest.forest c.in_ok-forest.ensures.forest;
      counts = subst (λ r. AreCountsWithin (r.number + 1) c.args.families) (sym c.front.view_is) c.requires.counts;
      stamps = c.in_ok-stamps.ensures.mounted;
      first = λ zero. let never : ⊥ = omega arith in absurd never;
    }
