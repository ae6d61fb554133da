use Rattle.std.proofs.Common.{◌≡◌, List, ◌∷◌, [], ◌++◌, length, slice_get, arith, ap, sym, ◌∙◌, subst, length-append, append-nil, ◌+◌}
use Rattle.std.proofs.lemmas.Option.{none-some}
use Rattle.run_report.specs.declared.journal.SurfacePart.{SurfacePart}
use Rattle.tree_revision.specs.declared.record.Record.{Record}
use Rattle.commit_core.specs.Plain.{plain_records}
use Rattle.run_engine.specs.Ends.{IsClosedPart}
use Rattle.run_engine.specs.Spines.{MayClose}
use Rattle.run_engine.proofs.Finishing.{at_yielded, yielded_next}
use Rattle.run_engine.proofs.SpinesClosed.{dropped_next, left_next, may_close_next, may_finish, part_at_end, ends_next}
use Rattle.run_engine.proofs.spines.close_spines.Goals as goal

pub loop-id-init : goal.loop-id-init
loop-id-init c =
    let rest = c.into_iter-id-iterator.ensures.into_iter_gives.0 in
    let passes = c.into_iter-passes.ensures.into_iter_gives.0 in (
      sym rest,
      (ap length passes ∙ c.requires.may.pass_count ∙ sym (ap length rest), passes),
      (ap length c.into_iter-coordinators.ensures.rest ∙ c.requires.may.mounted_count ∙ sym (ap length rest), c.into_iter-coordinators.ensures.rest),
      (ap length c.into_iter-lists.ensures.rest ∙ c.requires.lists ∙ sym (ap length rest), c.into_iter-lists.ensures.rest),
      ap length c.new-parts.ensures,
      λ place part at. absurd (none-some part (sym (ap (λ (l : List SurfacePart). slice_get l place) c.new-parts.ensures) ∙ at)),
    )

pub close-records-requires-clause-spine : goal.close-records-requires-clause-spine
close-records-requires-clause-spine c = (may_close_next c.args.spines.entries c.args.passes.entries c.args.coordinators.items c.loop-id.yielded c.loop-id.id-iterator c.next.new.self c.in-Some.id c.in-Some.spine
    c.loop-id.passes c.next-in-loop-id.new.self c.in-Some-next.field-0-0 c.in-Some-next.pass c.loop-id.coordinators.rest.items c.next-in-loop-id-2.new.self.rest.items c.in-Some-next-2.coordinator
    c.requires.may c.loop-id.invariant.0 c.in-Some.ensures.steps c.loop-id.invariant.1.1 c.in-Some-next.ensures.steps c.loop-id.invariant.2.1 c.in-Some-next-2.ensures.items).of_spine

pub close-records-requires-clause-shares : goal.close-records-requires-clause-shares
close-records-requires-clause-shares c = (may_close_next c.args.spines.entries c.args.passes.entries c.args.coordinators.items c.loop-id.yielded c.loop-id.id-iterator c.next.new.self c.in-Some.id c.in-Some.spine
    c.loop-id.passes c.next-in-loop-id.new.self c.in-Some-next.field-0-0 c.in-Some-next.pass c.loop-id.coordinators.rest.items c.next-in-loop-id-2.new.self.rest.items c.in-Some-next-2.coordinator
    c.requires.may c.loop-id.invariant.0 c.in-Some.ensures.steps c.loop-id.invariant.1.1 c.in-Some-next.ensures.steps c.loop-id.invariant.2.1 c.in-Some-next-2.ensures.items).shares

pub close_surface-requires : goal.close_surface-requires
close_surface-requires c =
    may_finish c.in-Some.spine c.in-Some-next.pass c.in-Some-next-2.coordinator c.close-records.result
    (may_close_next c.args.spines.entries c.args.passes.entries c.args.coordinators.items c.loop-id.yielded c.loop-id.id-iterator c.next.new.self c.in-Some.id c.in-Some.spine
    c.loop-id.passes c.next-in-loop-id.new.self c.in-Some-next.field-0-0 c.in-Some-next.pass c.loop-id.coordinators.rest.items c.next-in-loop-id-2.new.self.rest.items c.in-Some-next-2.coordinator
    c.requires.may c.loop-id.invariant.0 c.in-Some.ensures.steps c.loop-id.invariant.1.1 c.in-Some-next.ensures.steps c.loop-id.invariant.2.1 c.in-Some-next-2.ensures.items)
    c.close-records.ensures

pub loop-id-preserved : goal.loop-id-preserved
loop-id-preserved c =
    let inv = c.loop-id.invariant in
    let longer : length (c.loop-id.yielded ++ (c.in-Some.id, c.in-Some.spine) ∷ []) ≡ length c.loop-id.yielded + 1 = omega (arith, length-append c.loop-id.yielded ((c.in-Some.id, c.in-Some.spine) ∷ [])) in
    let may : MayClose c.in-Some.spine c.in-Some-next.pass c.in-Some-next-2.coordinator =
    may_close_next c.args.spines.entries c.args.passes.entries c.args.coordinators.items c.loop-id.yielded c.loop-id.id-iterator c.next.new.self c.in-Some.id c.in-Some.spine
    c.loop-id.passes c.next-in-loop-id.new.self c.in-Some-next.field-0-0 c.in-Some-next.pass c.loop-id.coordinators.rest.items c.next-in-loop-id-2.new.self.rest.items c.in-Some-next-2.coordinator
    c.requires.may inv.0 c.in-Some.ensures.steps inv.1.1 c.in-Some-next.ensures.steps inv.2.1 c.in-Some-next-2.ensures.items in (
      yielded_next c.args.spines.entries c.loop-id.yielded c.loop-id.id-iterator c.next.new.self (c.in-Some.id, c.in-Some.spine) inv.0 c.in-Some.ensures.steps,
      (
        omega (arith, ap length c.in-Some.ensures.steps, ap length c.in-Some-next.ensures.steps, inv.1.0),
        left_next c.args.passes.entries c.loop-id.passes c.next-in-loop-id.new.self (c.in-Some-next.field-0-0, c.in-Some-next.pass) c.loop-id.yielded (c.in-Some.id, c.in-Some.spine) inv.1.1 c.in-Some-next.ensures.steps,
      ),
      (
        omega (arith, ap length c.in-Some.ensures.steps, ap length c.in-Some-next-2.ensures.items, inv.2.0),
        left_next c.args.coordinators.items c.loop-id.coordinators.rest.items c.next-in-loop-id-2.new.self.rest.items c.in-Some-next-2.coordinator c.loop-id.yielded (c.in-Some.id, c.in-Some.spine) inv.2.1
            c.in-Some-next-2.ensures.items,
      ),
      (
        omega (arith, ap length c.in-Some.ensures.steps, ap length c.in-Some-next-3.ensures.items, inv.3.0),
        left_next c.args.lists.items c.loop-id.lists.rest.items c.next-in-loop-id-3.new.self.rest.items c.in-Some-next-3.mounts c.loop-id.yielded (c.in-Some.id, c.in-Some.spine) inv.3.1
            c.in-Some-next-3.ensures.items,
      ),
      omega (arith, ap length c.in_ok-push.ensures.ok, length-append c.loop-id.parts (c.in_ok-close_surface.field-0 ∷ []), inv.4, longer),
      ends_next c.args.spines.entries c.args.passes.entries c.args.coordinators.items c.args.lists.items c.loop-id.parts c.push.new.self c.in_ok-close_surface.field-0 (length c.loop-id.yielded)
          (c.in-Some.id, c.in-Some.spine) (c.in-Some-next.field-0-0, c.in-Some-next.pass) c.in-Some-next-2.coordinator c.in-Some-next-3.mounts c.in_ok-push.ensures.ok inv.4
          (at_yielded c.args.spines.entries c.loop-id.yielded c.loop-id.id-iterator c.next.new.self (c.in-Some.id, c.in-Some.spine) inv.0 c.in-Some.ensures.steps)
          (dropped_next c.args.passes.entries c.loop-id.passes c.next-in-loop-id.new.self (length c.loop-id.yielded) (c.in-Some-next.field-0-0, c.in-Some-next.pass) inv.1.1 c.in-Some-next.ensures.steps).0
          (dropped_next c.args.coordinators.items c.loop-id.coordinators.rest.items c.next-in-loop-id-2.new.self.rest.items (length c.loop-id.yielded) c.in-Some-next-2.coordinator inv.2.1 c.in-Some-next-2.ensures.items).0
          (dropped_next c.args.lists.items c.loop-id.lists.rest.items c.next-in-loop-id-3.new.self.rest.items (length c.loop-id.yielded) c.in-Some-next-3.mounts inv.3.1 c.in-Some-next-3.ensures.items).0
          (part_at_end c.in-Some.id c.in-Some.spine c.in-Some-next.pass c.in-Some-next-2.coordinator c.close-records.result c.in-Some-next-3.mounts c.in_ok-close_surface.field-0 may c.close-records.ensures
          (subst (λ (l : List Record). IsClosedPart c.in-Some.id (plain_records l) c.close-records.result.front c.in-Some-next-2.coordinator.base c.in-Some-next-3.mounts c.in_ok-close_surface.field-0)
          c.from_vec-records.ensures c.in_ok-close_surface.ensures))
          inv.5,
    )

pub returns : goal.returns
returns c = record {
  count = c.loop-id.invariant.4 ∙ ap length (sym (c.loop-id.invariant.0 ∙ ap (λ l. c.loop-id.yielded ++ l) c.in-None.ensures.steps.0 ∙ append-nil c.loop-id.yielded));
  each = λ place spine pass coordinator mounts part at to on with there. c.loop-id.invariant.5 place part there spine pass coordinator mounts at to on with;
}
