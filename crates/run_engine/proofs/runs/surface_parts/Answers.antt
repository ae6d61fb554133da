use Rattle.std.proofs.Common.{length, map, arith, ap, sym, subst, ◌∙◌}
use Rattle.std.specs.List.{AllByRecursion}
use Rattle.run_report.specs.Journal.{plain_surface_part}
use Rattle.run_engine.specs.Run.{IsOpen}
use Rattle.run_engine.proofs.Finishing.{yielded_next}
use Rattle.run_engine.proofs.Gathered.{along_next, parts_next, along_begun, open_next, parts_all}
use Rattle.run_engine.proofs.runs.surface_parts.Goals as goal

pub loop-id-init : goal.loop-id-init
loop-id-init c =
    let rest = c.into_iter-id-iterator.ensures.into_iter_gives.0 in
    let lists = c.into_iter-lists.ensures.rest in (
      sym rest,
      ap length lists ∙ c.requires.lists ∙ sym (ap length rest),
      subst (AllByRecursion (λ entry. IsOpen entry.1)) (sym rest) c.requires.mounted,
      λ told all. (along_begun told c.args.desks.entries c.into_iter-id-iterator.result c.args.lists.items c.into_iter-lists.result.rest.items rest lists all, ap (map plain_surface_part) c.new-parts.ensures),
    )

pub finish_desk-requires : goal.finish_desk-requires
finish_desk-requires c = (open_next c.loop-id.id-iterator c.next.new.self (c.in-Some.id, c.in-Some.desk) c.in-Some.ensures.steps c.loop-id.invariant.2).0

pub loop-id-preserved : goal.loop-id-preserved
loop-id-preserved c = (
  yielded_next c.args.desks.entries c.loop-id.yielded c.loop-id.id-iterator c.next.new.self (c.in-Some.id, c.in-Some.desk) c.loop-id.invariant.0 c.in-Some.ensures.steps,
  omega (arith, ap length c.in-Some.ensures.steps, ap length c.in-Some-next.ensures.items, c.loop-id.invariant.1),
  (open_next c.loop-id.id-iterator c.next.new.self (c.in-Some.id, c.in-Some.desk) c.in-Some.ensures.steps c.loop-id.invariant.2).1,
  λ told all.
      let so_far = c.loop-id.invariant.3 told all in
      let next =
      along_next told c.loop-id.id-iterator c.next.new.self c.loop-id.lists.rest.items c.next-in-loop-id.new.self.rest.items (c.in-Some.id, c.in-Some.desk) c.in-Some-next.mounts
      c.in-Some.ensures.steps c.in-Some-next.ensures.items so_far.0 in (
        next.1,
        parts_next told c.loop-id.yielded (c.in-Some.id, c.in-Some.desk) c.loop-id.parts c.push.new.self c.in_ok-finish_desk.field-0 so_far.1 c.in_ok-push.ensures.ok
            (c.in_ok-finish_desk.ensures (told c.in-Some.id) next.0.base next.0.mounts),
      ),
)

pub returns : goal.returns
returns c told all = parts_all told c.args.desks.entries c.loop-id.yielded c.loop-id.id-iterator c.loop-id.parts c.loop-id.invariant.0 c.in-None.ensures.steps.0 (c.loop-id.invariant.3 told all).1
