use Rattle.std.proofs.Common.{◌≡◌, ◌+◌, List, ◌++◌, length, map, arith, refl, ap, sym, ◌∙◌, subst}
use Rattle.std.proofs.lemmas.List.{length-map}
use Rattle.script_read.specs.Plain.{plain_actor, plain_script}
use Rattle.script_read.specs.declared.script.ActorPlan.{ActorPlan}
use Rattle.run_report.specs.Shorthands.{begun}
use Rattle.run_engine.specs.Run.{commits_left}
use Rattle.run_engine.specs.Opening.{AreOpenings}
use Rattle.run_engine.proofs.Finishing.{yielded_next}
use Rattle.run_engine.proofs.SpinesOpened.{opening_next, id_is_new, keys_push, of_spines_next, kept_begun, kept_next, all_opened}
use Rattle.run_engine.proofs.spines.open_spines.Goals as goal

pub start-requires-clause-opening : goal.start-requires-clause-opening
start-requires-clause-opening c =
    opening_next (plain_script c.args.script.now).surfaces c.loop-id.yielded c.loop-id.id-iterator.rest.items c.next.new.self.rest.items (c.in-Some.id, c.in-Some.opening) c.loop-id.invariant.0
    c.in-Some.ensures.steps.0

pub add_new-requires : goal.add_new-requires
add_new-requires c =
    id_is_new (plain_script c.args.script.now).surfaces c.loop-id.yielded c.loop-id.id-iterator.rest.items c.next.new.self.rest.items (c.in-Some.id, c.in-Some.opening) c.loop-id.spines.entries
    c.requires.sound.ids_differ c.loop-id.invariant.0 c.in-Some.ensures.steps.0 c.loop-id.invariant.1

pub add_new-requires-in-loop-id : goal.add_new-requires-in-loop-id
add_new-requires-in-loop-id c =
    id_is_new (plain_script c.args.script.now).surfaces c.loop-id.yielded c.loop-id.id-iterator.rest.items c.next.new.self.rest.items (c.in-Some.id, c.in-Some.opening) c.loop-id.passes.entries
    c.requires.sound.ids_differ c.loop-id.invariant.0 c.in-Some.ensures.steps.0 c.loop-id.invariant.2

pub loop-id-preserved : goal.loop-id-preserved
loop-id-preserved c =
    let script = plain_script c.args.script.now in
    let count : length c.as_slice-actors.result.now ≡ length script.actors =
    ap (λ (l : List ActorPlan). length l) c.as_slice-actors.ensures ∙ sym (length-map c.args.script.now.actors plain_actor) in
    let room_is : c.count_all_commits-room.result ≡ commits_left c.in-Some.id (map begun script.actors) =
    c.count_all_commits-room.ensures.count ∙ ap (λ (l : List ActorPlan). commits_left c.in-Some.id (map begun (map plain_actor l))) c.as_slice-actors.ensures in (
      subst (AreOpenings script.surfaces)
          (yielded_next (c.loop-id.yielded ++ c.loop-id.id-iterator.rest.items) c.loop-id.yielded c.loop-id.id-iterator.rest.items c.next.new.self.rest.items (c.in-Some.id, c.in-Some.opening) refl
          c.in-Some.ensures.steps.0) c.loop-id.invariant.0,
      keys_push c.loop-id.yielded (c.in-Some.id, c.in-Some.opening) c.loop-id.spines.entries c.add_new.new.items.entries c.in_ok-spine.spine c.in_ok-add_new.ensures c.loop-id.invariant.1,
      keys_push c.loop-id.yielded (c.in-Some.id, c.in-Some.opening) c.loop-id.passes.entries c.add_new-in-loop-id.new.items.entries c.in_ok-spine.pass c.in_ok-add_new-2.ensures c.loop-id.invariant.2,
      of_spines_next c.loop-id.spines.entries c.add_new.new.items.entries c.loop-id.passes.entries c.add_new-in-loop-id.new.items.entries c.in-Some.id c.in_ok-spine.spine c.in_ok-spine.pass
          c.in_ok-add_new.ensures c.in_ok-add_new-2.ensures c.in_ok-spine.ensures.spine c.loop-id.invariant.3,
      kept_next script.actors c.loop-id.yielded (c.in-Some.id, c.in-Some.opening) c.loop-id.passes.entries c.add_new-in-loop-id.new.items.entries c.in_ok-spine.pass c.in_ok-add_new-2.ensures
          (kept_begun script.actors (c.in-Some.id, c.in-Some.opening) c.in_ok-spine.pass _ _ c.in_ok-spine.ensures.fresh room_is (ap (λ n. n + 1) count))
          c.loop-id.invariant.4,
    )

pub returns : goal.returns
returns c =
    all_opened (plain_script c.args.script.now) c.loop-id.yielded c.loop-id.id-iterator.rest.items c.loop-id.spines.entries c.loop-id.passes.entries
    (omega (arith, c.loop-id.id-iterator.rest.ok.0, c.in-None.ensures.steps.0)) c.loop-id.invariant.0 c.loop-id.invariant.1 c.loop-id.invariant.2 c.loop-id.invariant.3 c.loop-id.invariant.4
