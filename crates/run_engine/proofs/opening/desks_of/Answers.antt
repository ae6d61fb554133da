use Rattle.std.proofs.Common.{◌≡◌, ℕ, [], ◌∷◌, ◌++◌, length, slice_get, get_or, suc, arith, ap, sym, subst, ◌∙◌, length-append}
use Rattle.std.specs.Prelude.{Some}
use Rattle.tree_revision.specs.Settled.{KeptRevision}
use Rattle.run_engine.specs.Opening.{IsMountedAtStart}
use Rattle.run_engine.proofs.Loops.{there_at}
use Rattle.run_engine.proofs.Openings.{is_new, desks_next, keys_next}
use Rattle.run_engine.proofs.Finishing.{at_yielded, yielded_next, yielded_below}
use Rattle.run_engine.proofs.opening.desks_of.Goals as goal

pub add_new-requires : goal.add_new-requires
add_new-requires c =
    let n : ℕ = length c.loop-spine.yielded in
    let entry : ℕ × KeptRevision = c.index-first-len.result in
    let place : length c.loop-spine.desks.entries ≡ n = c.loop-spine.invariant.1 in
    let below = yielded_below c.args.spines.items c.loop-spine.yielded c.loop-spine.spine-iterator.rest.items c.next.new.self.rest.items c.in-Some.spine c.loop-spine.invariant.0 c.in-Some.ensures.steps.0 in
    let at : slice_get c.args.first.now n ≡ Some entry =
    there_at c.args.first.now n entry (omega (arith, below, c.requires.spines)) ∙ ap (λ k. Some (get_or c.args.first.now k entry)) (sym place ∙ sym c.len.ensures.len) ∙ ap Some (sym c.index-first-len.is) in
    is_new c.args.first.now c.loop-spine.desks.entries n entry c.requires.ids at c.loop-spine.invariant.2

pub loop-spine-preserved : goal.loop-spine-preserved
loop-spine-preserved c =
    let n : ℕ = length c.loop-spine.yielded in
    let entry : ℕ × KeptRevision = c.index-first-len.result in
    let place : length c.loop-spine.desks.entries ≡ n = c.loop-spine.invariant.1 in
    let below = yielded_below c.args.spines.items c.loop-spine.yielded c.loop-spine.spine-iterator.rest.items c.next.new.self.rest.items c.in-Some.spine c.loop-spine.invariant.0 c.in-Some.ensures.steps.0 in
    let at : slice_get c.args.first.now n ≡ Some entry =
    there_at c.args.first.now n entry (omega (arith, below, c.requires.spines)) ∙ ap (λ k. Some (get_or c.args.first.now k entry)) (sym place ∙ sym c.len.ensures.len) ∙ ap Some (sym c.index-first-len.is) in
    let to = at_yielded c.args.spines.items c.loop-spine.yielded c.loop-spine.spine-iterator.rest.items c.next.new.self.rest.items c.in-Some.spine c.loop-spine.invariant.0 c.in-Some.ensures.steps.0 in
    let longer : length (c.loop-spine.yielded ++ c.in-Some.spine ∷ []) ≡ suc n = omega (arith, length-append c.loop-spine.yielded (c.in-Some.spine ∷ [])) in (
      yielded_next c.args.spines.items c.loop-spine.yielded c.loop-spine.spine-iterator.rest.items c.next.new.self.rest.items c.in-Some.spine c.loop-spine.invariant.0 c.in-Some.ensures.steps.0,
      omega (arith, ap length c.in_ok-add_new.ensures, length-append c.loop-spine.desks.entries ((entry.0, c.in_ok-desk.desk) ∷ []), place, longer),
      keys_next c.args.first.now c.loop-spine.desks.entries c.add_new.new.items.entries n (length (c.loop-spine.yielded ++ c.in-Some.spine ∷ [])) entry c.in_ok-desk.desk longer at
          c.in_ok-add_new.ensures c.loop-spine.invariant.2,
      λ actors histories. desks_next actors c.args.first.now c.args.spines.items c.loop-spine.desks.entries c.add_new.new.items.entries n
          (length (c.loop-spine.yielded ++ c.in-Some.spine ∷ [])) entry c.in-Some.spine c.in_ok-desk.desk longer at to c.in_ok-add_new.ensures (c.in_ok-desk.ensures.history actors entry)
          (subst (λ (first : KeptRevision). IsMountedAtStart first c.in_ok-desk.desk) c.in_ok-share.ensures c.in_ok-desk.ensures.mounted) histories
          (c.loop-spine.invariant.3 actors histories),
    )
