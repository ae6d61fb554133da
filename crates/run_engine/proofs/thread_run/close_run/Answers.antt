use Rattle.std.proofs.Common.{◌≡◌, List, map, arith, ap, sym, subst, ◌∙◌}
use Rattle.indexmap.specs.IndexMap.{keys}
use Rattle.run_report.specs.Journal.{plain_actor_part}
use Rattle.run_report.specs.Machine.{actor_part_of}
use Rattle.run_actor.specs.Actors.{RunningActor, actor_now}
use Rattle.run_engine.specs.Ends.{AreListed, mounts_of}
use Rattle.run_engine.proofs.Finishing.{yielded_next}
use Rattle.run_engine.proofs.Gathered.{lists_begun, keys_length, mounts_next, actors_next, all_came}
use Rattle.run_engine.proofs.thread_run.close_run.Goals as goal

pub loop-actor-init : goal.loop-actor-init
loop-actor-init c =
    let begun = lists_begun (keys c.args.spines) c.len.result c.in_ok-mounts.mounts.items (omega (arith, c.len.ensures.len, keys_length c.args.spines.entries)) c.in_ok-mounts.ensures in (
      sym c.into_iter-actor-iterator.ensures.into_iter_gives.0,
      ap (map plain_actor_part) c.new-parts.ensures,
      begun.0,
      begun.1,
    )

pub loop-actor-preserved : goal.loop-actor-preserved
loop-actor-preserved c = (
  yielded_next c.args.worked.actors.items c.loop-actor.yielded c.loop-actor.actor-iterator.rest.items c.next.new.self.rest.items c.in-Some.actor c.loop-actor.invariant.0 c.in-Some.ensures.steps.0,
  actors_next (λ actor. actor_part_of (actor_now actor)) c.loop-actor.yielded c.in-Some.actor c.loop-actor.parts c.push.new.self c.in_ok-part.part c.loop-actor.invariant.1 c.in_ok-push.ensures.ok c.in_ok-part.ensures.part,
  c.in_ok-sort_out.ensures.count,
  mounts_next c.loop-actor.yielded c.in-Some.actor c.in_ok-part.own.items (keys c.args.spines) c.sort_out.new.lists.items c.in_ok-part.ensures.mounts
      (c.in_ok-sort_out.ensures.joined (λ id. mounts_of id c.loop-actor.yielded) c.loop-actor.invariant.3),
)

pub returns : goal.returns
returns c =
    let whole : c.args.worked.actors.items ≡ c.loop-actor.yielded =
    all_came c.args.worked.actors.items c.loop-actor.yielded c.loop-actor.actor-iterator.rest.items c.loop-actor.invariant.0
    (omega (arith, c.loop-actor.actor-iterator.rest.ok.0, c.in-None.ensures.steps.0)) in
    record {
      actors_are = c.loop-actor.invariant.1 ∙ ap (λ (l : List RunningActor). map (λ actor. actor_part_of (actor_now actor)) l) (sym whole);
      lists = c.loop-actor.mounts.items;
      listed = subst (λ (actors : List RunningActor). AreListed (λ id. mounts_of id actors) (keys c.args.spines) c.loop-actor.mounts.items) (sym whole) c.loop-actor.invariant.3;
      surfaces_are = c.in_ok-surfaces.ensures;
    }
