use Rattle.std.proofs.Common.{◌≡◌, ℕ, ◌+◌, true, false, Some, is_some, nat_eq, sym, ap, subst, ◌∙◌}
use Rattle.std.proofs.lemmas.Result.{err_from_is_err_and}
use Rattle.native_state.specs.Families.{cell_in}
use Rattle.shadow_kinds.specs.Traits.{has_state_of}
use Rattle.shadow_node.specs.Find.{first_settled, way_to}
use Rattle.tree_settle.specs.Along.{IsSettledBut}
use Rattle.tree_revision.specs.Cancels.{stale}
use Rattle.tree_revision.specs.Steps.{AreCountsWithin, IsFor, families_changed}
use Rattle.tree_revision.proofs.Along.{but_state, way_taken}
use Rattle.tree_revision.proofs.Grown.{cell_in-elsewhere}
use Rattle.tree_revision.proofs.Refused.{state_unmounted, state_mounted}
use Rattle.tree_revision.proofs.Unsettled.{settled_surface}
use Rattle.tree_revision.proofs.Within.{counts_changed}
use Rattle.tree_revision.proofs.after.with_state.Goals as goal

pub returns-in_default-clause-cancelled : goal.returns-in_default-clause-cancelled
returns-in_default-clause-cancelled c =
    let tag = c.args.tag in
    let front = c.args.front.now in
    state_unmounted tag c.args.change (cell_in front.families tag) front.forest (c.in_default.ensures ∙ ap (λ r. first_settled tag r.forest) c.front.view_is)

pub returns-then-not-has_state-clause-cancelled : goal.returns-then-not-has_state-clause-cancelled
returns-then-not-has_state-clause-cancelled c =
    let tag = c.args.tag in
    let front = c.args.front.now in
    let found = c.in-Some.ensures ∙ ap (λ r. first_settled tag r.forest) c.front.view_is in
    let kind = c.kind.ensures ∙ ap (λ node. node.fields.fields.kind) c.deref.ensures in
    state_mounted tag c.args.change (cell_in front.families tag) front.forest c.in-Some.node.now.value false found (c.if-not-has_state.ensures ∙ ap has_state_of kind)

pub returns-in_err-families-clause-cancelled : goal.returns-in_err-families-clause-cancelled
returns-in_err-families-clause-cancelled c =
    let tag = c.args.tag in
    let front = c.args.front.now in
    let refusal = c.in_err-families.field-0.0 in
    let found = c.in-Some.ensures ∙ ap (λ r. first_settled tag r.forest) c.front.view_is in
    let kind = c.kind.ensures ∙ ap (λ node. node.fields.fields.kind) c.deref.ensures in
    let cause = state_mounted tag c.args.change (cell_in front.families tag) front.forest c.in-Some.node.now.value true found (c.if-not-has_state.ensures ∙ ap has_state_of kind) in
    let why = subst (λ r. IsFor (stale tag c.args.change (cell_in r.families tag)) refusal) c.front.view_is c.in_err-families.ensures.cancelled in
    let p = err_from_is_err_and c.from_residual.result c.from_residual.ensures.1 in
    rw (p.1, p.2) (subst (λ why. IsFor why refusal) (sym cause) why)

pub settled_along-requires-clause-counts : goal.settled_along-requires-clause-counts
settled_along-requires-clause-counts c =
    let front = c.args.front.now in
    let is = c.in_ok-families.ensures.families ∙ ap (λ r. families_changed c.args.tag c.args.change r.families) c.front.view_is in
    let counts = subst (λ r. AreCountsWithin r.number r.families) c.front.view_is c.front.invariant.counts in
    subst (AreCountsWithin (front.number + 1)) (sym is) (counts_changed front.number front.families c.args.tag c.args.change counts)

pub returns-clause-uncancelled : goal.returns-clause-uncancelled
returns-clause-uncancelled c =
    let tag = c.args.tag in
    let front = c.args.front.now in
    let found = c.in-Some.ensures ∙ ap (λ r. first_settled tag r.forest) c.front.view_is in
    let kind = c.kind.ensures ∙ ap (λ node. node.fields.fields.kind) c.deref.ensures in
    state_mounted tag c.args.change (cell_in front.families tag) front.forest c.in-Some.node.now.value true found (c.if-not-has_state.ensures ∙ ap has_state_of kind)
    ∙ ap (λ r. stale tag c.args.change (cell_in r.families tag)) (sym c.front.view_is) ∙ c.in_ok-families.ensures.uncancelled

pub settled_along-requires-clause-but : goal.settled_along-requires-clause-but
settled_along-requires-clause-but c =
    let front = c.front.inside in
    let tag = c.args.tag in
    let way = c.deref-2.result.now in
    let newest = cell_in front.families in
    let later = cell_in c.in_ok-families.families in
    let others : (q : ℕ) → nat_eq q tag ≡ false → newest q ≡ later q =
    λ q other. cell_in-elsewhere front.families tag c.args.change q other ∙ ap (λ families. cell_in families q) (sym c.in_ok-families.ensures.families) in
    let leads : way_to tag front.forest ≡ Some way =
    way_taken (λ way. way.items) c.in_ok-path_to.field-0 c.new.result tag front.forest c.in_ok-path_to.ensures (sym (ap is_some c.in-Some.ensures))
    ∙ ap (λ way. Some way.items) (sym c.unwrap_or-way.ensures) ∙ ap Some (sym c.deref-2.ensures.value) in
    let settled = settled_surface front.size newest front.forest c.front.invariant.settled in
    subst (λ r. IsSettledBut r.size later way r.forest) c.front.view_is
    (but_state newest later tag others front.size way front.forest c.front.invariant.forest.within.differ settled leads)
