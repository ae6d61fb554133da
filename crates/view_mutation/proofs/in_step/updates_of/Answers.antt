use Rattle.std.proofs.Common.{get_or, subst, sym}
use Rattle.view_mutation.specs.SameSkipped.{IsSameButOrigin}
use Rattle.view_mutation.proofs.InStepPlaces.{alike_at, step_more}
use Rattle.view_mutation.proofs.in_step.updates_of.Goals as goal

pub add_update-requires : goal.add_update-requires
add_update-requires c =
    let old = c.args.old.now in
    let new = c.args.new.now in
    let was = c.index-old-at.result in
    let is = c.index-new-at.result in
    subst (λ was. IsSameButOrigin was is) (sym c.index-old-at.is)
    (subst (λ is. IsSameButOrigin (get_or old c.loop-at.at was) is) (sym c.index-new-at.is)
    (alike_at old new c.requires.step c.requires.differ c.requires.alike c.loop-at.at is was c.loop-at-test.true))

pub loop-at-preserved : goal.loop-at-preserved
loop-at-preserved c = record {
  long = c.loop-at.invariant.long;
  left = step_more c.args.old.now c.args.new.now c.loop-at.at c.index-old-at.result c.index-new-at.result c.loop-at.invariant.long c.loop-at-test.true
      c.index-old-at.is c.index-new-at.is _ _ _ c.in_ok-add_update.ensures c.loop-at.invariant.left;
}
