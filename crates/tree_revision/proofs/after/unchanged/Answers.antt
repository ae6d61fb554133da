use Rattle.std.proofs.Common.{◌≡◌, sym, ◌∙◌, arith}
use Rattle.native_state.specs.Families.{cell_in}
use Rattle.tree_settle.specs.Changes.{changes_in}
use Rattle.tree_settle.proofs.Unchanged.{none_changes-settled}
use Rattle.tree_revision.proofs.Unsettled.{settled_surface}
use Rattle.tree_revision.proofs.after.unchanged.Goals as goal

pub returns-clause-made : goal.returns-clause-made
returns-clause-made c = λ made.
    let front = c.front.inside in
    let families = c.in_ok-share-2.field-0 in
    let none : changes_in front.size (cell_in families) c.args.front.now.forest ≡ 0 =
    (λ i. changes_in front.size (cell_in (c.in_ok-share-2.ensures i)) (sym c.front.view_is i).forest)
    ∙ none_changes-settled front.size (cell_in front.families) front.forest (settled_surface front.size (cell_in front.families) front.forest c.front.invariant.settled) in
    record {
      nodes = omega (arith, none);
      families = omega arith;
      families_most = omega arith;
    }
