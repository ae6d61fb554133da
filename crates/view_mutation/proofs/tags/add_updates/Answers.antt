use Rattle.host_views.specs.Plain.{update}
use Rattle.view_mutation.specs.Mutations.{is_other_view}
use Rattle.view_mutation.specs.Lookups.{view_by}
use Rattle.view_mutation.proofs.Lists.{filtered_more}
use Rattle.std.proofs.Common.{subst, sym}
use Rattle.view_flatten.specs.Placed.{plain_place}
use Rattle.view_mutation.specs.Lookups.{place_by}
use Rattle.view_mutation.specs.SameSkipped.{IsSameAsBefore}
use Rattle.view_mutation.proofs.tags.add_updates.Goals as goal

pub add_update-requires : goal.add_update-requires
add_update-requires c =
    subst (λ p. IsSameAsBefore (place_by c.args.index.now c.args.known.now (plain_place p).tag) p) (sym c.placed-item.is)
    (c.requires c.loop-placed.placed-index c.placed-item.result c.loop-placed-test.true)

pub loop-placed-preserved : goal.loop-placed-preserved
loop-placed-preserved c = record {
  left = filtered_more (λ placed. update placed.tag placed.view) (λ placed. is_other_view (view_by c.args.index.now c.args.known.now placed.tag) placed.view) c.args.new.now
      c.loop-placed.placed-index c.placed-item.result c.loop-placed-test.true c.placed-item.is _ _ _ c.in_ok-add_update.ensures c.loop-placed.invariant.left;
}
