use Rattle.std.proofs.Common.{◌≡◌, length, ap, sym, ◌∙◌, arith, slice_get, suc, length-append, ◌∷◌, [], ◌+◌}
use Rattle.std.specs.Prelude.{Some}
use Rattle.std.specs.Option.{option_copied_mut}
use Rattle.run_engine.proofs.Finishing.{at_yielded, yielded_next}
use Rattle.run_engine.proofs.Gathered.{all_came}
use Rattle.run_engine.proofs.JobsJoin.{all_joined, gone_of_spine, join_next, keep_of_spine}
use Rattle.run_engine.proofs.gathering.join_passes.Goals as goal

pub join-requires-clause-spine : goal.join-requires-clause-spine
join-requires-clause-spine c =
    let gone : slice_get c.args.own.items c.loop-pass.place ≡ Some c.in-Some.pass =
    ap (slice_get c.args.own.items) c.loop-pass.invariant.1
    ∙ at_yielded c.args.own.items c.loop-pass.yielded c.loop-pass.pass-iterator.rest.items c.next.new.self.rest.items c.in-Some.pass c.loop-pass.invariant.0 c.in-Some.ensures.steps.0 in
    keep_of_spine c.args.spines.now.entries c.args.passes.now.entries c.loop-pass.passes.entries c.args.own.items c.loop-pass.place (c.in-Some-get_index.field-0-0.now, c.in-Some-get_index.spine.now)
    c.in-Some-get_index_mut.keep.now c.in-Some.pass c.requires c.loop-pass.invariant.2 c.loop-pass.invariant.4 (sym c.in-Some-get_index.ensures.entry)
    (sym c.get_index_mut.ensures.value ∙ ap option_copied_mut c.in-Some-get_index_mut.is) gone

pub join-requires-clause-gone : goal.join-requires-clause-gone
join-requires-clause-gone c =
    let gone : slice_get c.args.own.items c.loop-pass.place ≡ Some c.in-Some.pass =
    ap (slice_get c.args.own.items) c.loop-pass.invariant.1
    ∙ at_yielded c.args.own.items c.loop-pass.yielded c.loop-pass.pass-iterator.rest.items c.next.new.self.rest.items c.in-Some.pass c.loop-pass.invariant.0 c.in-Some.ensures.steps.0 in
    gone_of_spine c.args.spines.now.entries c.args.passes.now.entries c.loop-pass.passes.entries c.args.own.items c.loop-pass.place (c.in-Some-get_index.field-0-0.now, c.in-Some-get_index.spine.now)
    c.in-Some-get_index_mut.keep.now c.in-Some.pass c.requires c.loop-pass.invariant.2 c.loop-pass.invariant.4 (sym c.in-Some-get_index.ensures.entry)
    (sym c.get_index_mut.ensures.value ∙ ap option_copied_mut c.in-Some-get_index_mut.is) gone

pub loop-pass-preserved : goal.loop-pass-preserved
loop-pass-preserved c =
    let gone : slice_get c.args.own.items c.loop-pass.place ≡ Some c.in-Some.pass =
    ap (slice_get c.args.own.items) c.loop-pass.invariant.1
    ∙ at_yielded c.args.own.items c.loop-pass.yielded c.loop-pass.pass-iterator.rest.items c.next.new.self.rest.items c.in-Some.pass c.loop-pass.invariant.0 c.in-Some.ensures.steps.0 in
    let s : c.loop-pass.place + 1 ≡ suc c.loop-pass.place = omega arith in
    let longer = length-append c.loop-pass.yielded (c.in-Some.pass ∷ []) in
    let next = join_next c.args.spines.now.entries c.args.passes.now.entries c.loop-pass.passes.entries c.args.own.items c.loop-pass.place (c.in-Some-get_index.field-0-0.now, c.in-Some-get_index.spine.now)
    c.in-Some-get_index_mut.keep.now c.in-Some.pass c.requires c.loop-pass.invariant.2 c.loop-pass.invariant.4 (sym c.in-Some-get_index.ensures.entry)
    (sym c.get_index_mut.ensures.value ∙ ap option_copied_mut c.in-Some-get_index_mut.is) gone
    c.join.new.keep (c.loop-pass.place + 1) s c.join.ensures.spine
    (record { spine = c.join.ensures.spine; kept = c.join.ensures.kept; seen = c.join.ensures.seen; gone_seen = c.join.ensures.gone_seen; lawful = c.join.ensures.lawful }) c.loop-pass.invariant.3 in (
      yielded_next c.args.own.items c.loop-pass.yielded c.loop-pass.pass-iterator.rest.items c.next.new.self.rest.items c.in-Some.pass c.loop-pass.invariant.0 c.in-Some.ensures.steps.0,
      omega (arith, longer, c.loop-pass.invariant.1),
      next.0,
      next.1,
      next.2,
    )

pub returns : goal.returns
returns c =
    let whole : c.args.own.items ≡ c.loop-pass.yielded =
    all_came c.args.own.items c.loop-pass.yielded c.loop-pass.pass-iterator.rest.items c.loop-pass.invariant.0 (omega (arith, c.loop-pass.pass-iterator.rest.ok.0, c.in-None.ensures.steps.0)) in
    all_joined c.args.spines.now.entries c.args.passes.now.entries c.loop-pass.passes.entries c.args.own.items c.loop-pass.place c.requires c.loop-pass.invariant.2
    (c.loop-pass.invariant.1 ∙ ap length (sym whole)) c.loop-pass.invariant.3
