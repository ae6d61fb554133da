use Rattle.std.proofs.Common.{refl, ap, sym, subst, ◌∙◌}
use Rattle.view_flatten.specs.HostTree.{host_tree_of}
use Rattle.tree_revision.specs.Stands.{StandsFor}
use Rattle.commit_core.specs.Plain.{plain_records}
use Rattle.mount_coordinator.specs.Answers.{MayFinish}
use Rattle.run_engine.proofs.Closing.{last_views}
use Rattle.run_engine.proofs.desks.close_surface.Goals as goal

pub with_closing-requires : goal.with_closing-requires
with_closing-requires c = subst (MayFinish c.args.coordinator) (sym c.in_ok-share.ensures) c.requires

pub returns : goal.returns
returns c = record {
  id_is = refl;
  records_are = refl;
  along = λ first passages stands mounted last along i. record {
    id = c.args.id;
    records = plain_records c.args.records;
    mounts = c.in_ok-mounts.ensures first (plain_records c.args.records) passages
        (subst (λ front. StandsFor first front (plain_records c.args.records)) (sym c.in_ok-share.ensures) stands) mounted last along i;
    last = last_views first (plain_records c.args.records) c.args.front c.in_ok-next.next c.in_ok-last.field-0.views stands c.in_ok-next.ensures
        (c.in_ok-last.ensures.tree ∙ ap host_tree_of c.forest.ensures.forest) i;
  };
}
