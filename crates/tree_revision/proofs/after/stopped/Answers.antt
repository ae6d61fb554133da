use Rattle.std.proofs.Common.{◌+◌, refl, sym, subst, arith}
use Rattle.shadow_node.specs.Forest.{PlainForest}
use Rattle.shadow_node.specs.Fields.{SettledFields}
use Rattle.shadow_node.specs.Stamps.{StampMap}
use Rattle.tree_settle.specs.Limits.{IsForestInLimits}
use Rattle.tree_revision.specs.ForestStamps.{HasTagsOf, AreStampsAfter}
use Rattle.tree_revision.specs.Steps.{AreCountsWithin}
use Rattle.tree_revision.proofs.Standing.{opened_limits}
use Rattle.tree_revision.proofs.Stamped.{no_tags, no_stamps_next}
use Rattle.tree_revision.proofs.Within.{counts_more}
use Rattle.tree_revision.proofs.after.stopped.Goals as goal

pub invariant_of-result : goal.invariant_of-result
invariant_of-result c =
    let number = c.front.inside.number in
    record {
      size = c.front.invariant.size;
      forest = subst IsForestInLimits (sym c.empty.ensures) (opened_limits c.front.inside.size c.front.invariant.size).forest;
      settled = rw c.empty.ensures refl;
      counts = subst (AreCountsWithin (number + 1)) (sym c.in_ok-share.ensures) (counts_more number (number + 1) c.front.inside.families (omega arith) c.front.invariant.counts);
      stamps = subst (λ (t : StampMap × PlainForest SettledFields). HasTagsOf t.0 t.1) (λ i. (sym c.none.ensures i, sym c.empty.ensures i)) no_tags;
      first = λ zero. let never : ⊥ = omega arith in absurd never;
    }

pub returns-clause-stamps : goal.returns-clause-stamps
returns-clause-stamps c =
    let front = c.args.front.now in
    let after = no_stamps_next front.forest front.stamps (c.front.inside.number + 1) in
    subst (λ (t : StampMap × PlainForest SettledFields). AreStampsAfter front.forest t.1 front.stamps (c.front.inside.number + 1) t.0)
    (λ i. (sym c.none.ensures i, sym c.empty.ensures i)) after
