use Rattle.std.proofs.Common.{[], ◌∷◌, ◌++◌, ◌∙◌, ap, sym, subst, map, take}
use Rattle.tree_revision.specs.Settled.{KeptRevision}
use Rattle.script_read.specs.Plain.{plain_actor}
use Rattle.run_report.specs.Shorthands.{begun}
use Rattle.run_report.proofs.Pairs.{all_zip_push}
use Rattle.run_engine.specs.Opening.{IsHistory, AreHistories}
use Rattle.run_engine.proofs.Loops.{take_next}
use Rattle.run_engine.proofs.Openings.{number_at}
use Rattle.run_engine.proofs.opening.spines_of.Goals as goal

pub start-requires : goal.start-requires
start-requires c = record {
  opening = ap (λ (r : KeptRevision). r.newest.number) c.in_ok-share.ensures
      ∙ number_at c.args.first.now c.loop-opening.opening-index c.opening-item.result c.loop-opening-test.true c.opening-item.is c.requires.first;
}

pub loop-opening-preserved : goal.loop-opening-preserved
loop-opening-preserved c =
    let actors = map begun (map plain_actor c.args.actors.now) in
    let entry = c.opening-item.result in
    subst (λ first. AreHistories actors first c.push.new.self.items)
    (sym (take_next c.args.first.now c.loop-opening.opening-index entry c.loop-opening-test.true ∙ ap (λ e. take c.loop-opening.opening-index c.args.first.now ++ e ∷ []) (sym c.opening-item.is)))
    (subst (AreHistories actors _) (sym c.in_ok-push.ensures.items)
    (all_zip_push (IsHistory actors) (take c.loop-opening.opening-index c.args.first.now) c.loop-opening.spines.items entry c.in_ok-start.field-0
    c.loop-opening.invariant (record {
      first = c.in_ok-start.ensures.first ∙ ap (λ (r : KeptRevision). r.newest.size) c.in_ok-share.ensures;
      room = c.in_ok-start.ensures.room ∙ c.count_all_commits-room.ensures.count;
      records = c.in_ok-start.ensures.records;
    })))
