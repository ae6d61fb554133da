use Rattle.std.proofs.Common.{[], sym, subst}
use Rattle.native_state.specs.Families.{cell_in}
use Rattle.tree_settle.specs.Along.{IsSettledBut}
use Rattle.tree_revision.proofs.Along.{settled_but}
use Rattle.tree_revision.proofs.Unsettled.{IsSettled, settled_surface}
use Rattle.tree_revision.proofs.after.with_size.Goals as goal

pub settled_along-requires-clause-but : goal.settled_along-requires-clause-but
settled_along-requires-clause-but c =
    let front = c.front.inside in
    let families = c.in_ok-families.families in
    let settled = settled_surface front.size (cell_in front.families) front.forest c.front.invariant.settled in
    let still = subst (λ families. IsSettled front.size (cell_in families) front.forest) (sym c.in_ok-families.ensures) settled in
    subst (λ r. IsSettledBut r.size (cell_in families) [] r.forest) c.front.view_is (settled_but front.size (cell_in families) [] front.forest still)
