use Rattle.std.proofs.Common.{◌+◌, ◌++◌, sym, ap, subst, ◌∙◌, arith}
use Rattle.native_state.specs.Families.{cell_in}
use Rattle.shadow_node.specs.Fields.{SettledFields, contents_of}
use Rattle.shadow_node.proofs.Maps.{depth_of-forest_map}
use Rattle.tree_settle.specs.Along.{changed_tags}
use Rattle.tree_revision.specs.ForestStamps.{AreStampsAfter}
use Rattle.tree_revision.specs.Steps.{AreCountsWithin}
use Rattle.tree_revision.proofs.Renewed.{stamps_renewed}
use Rattle.tree_revision.proofs.Unsettled.{settled_again}
use Rattle.tree_revision.proofs.after.settled_along.Goals as goal

pub settle_along-requires-clause-depth : goal.settle_along-requires-clause-depth
settle_along-requires-clause-depth c =
    let depth = depth_of-forest_map (λ (settled : SettledFields). settled.fields) c.front.inside.forest in
    omega (arith, depth, c.front.invariant.forest.within.depth)

pub invariant_of-result : goal.invariant_of-result
invariant_of-result c =
    let front = c.front.inside in
    let newest = cell_in c.args.families in
    let tags = c.deref.ensures.value ∙ c.in_ok-forest.ensures.changed ∙ ap (λ tags. tags ++ changed_tags c.args.size newest front.forest) c.new-renewed.ensures.items in
    let stamps = stamps_renewed c.args.size newest front.forest c.in_ok-forest.forest front.stamps c.in_ok-stamps.stamps (front.number + 1) c.deref.result.now
    c.front.invariant.forest.within.differ c.front.invariant.stamps c.in_ok-forest.ensures.forest tags c.in_ok-stamps.ensures in
    record {
      size = c.requires.size;
      forest = c.in_ok-forest.ensures.limits c.front.invariant.forest.within;
      settled = settled_again c.args.size newest (contents_of front.forest) c.in_ok-forest.forest c.in_ok-forest.ensures.forest;
      counts = subst (λ r. AreCountsWithin (r.number + 1) c.args.families) (sym c.front.view_is) c.requires.counts;
      stamps = stamps.mounted;
      first = λ zero. let never : ⊥ = omega arith in absurd never;
    }

pub returns-clause-stamps : goal.returns-clause-stamps
returns-clause-stamps c =
    let front = c.front.inside in
    let newest = cell_in c.args.families in
    let tags = c.deref.ensures.value ∙ c.in_ok-forest.ensures.changed ∙ ap (λ tags. tags ++ changed_tags c.args.size newest front.forest) c.new-renewed.ensures.items in
    let stamps = stamps_renewed c.args.size newest front.forest c.in_ok-forest.forest front.stamps c.in_ok-stamps.stamps (front.number + 1) c.deref.result.now
    c.front.invariant.forest.within.differ c.front.invariant.stamps c.in_ok-forest.ensures.forest tags c.in_ok-stamps.ensures in
    subst (λ r. AreStampsAfter r.forest c.in_ok-forest.forest r.stamps (front.number + 1) c.in_ok-stamps.stamps) c.front.view_is stamps
