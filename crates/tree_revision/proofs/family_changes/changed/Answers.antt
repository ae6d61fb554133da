use Rattle.std.proofs.Common.{sym, ap, ◌∙◌}
use Rattle.native_state.specs.State.{cell_after}
use Rattle.tree_revision.proofs.Refused.{cell_applied, families_with_changed}
use Rattle.tree_revision.proofs.family_changes.changed.Goals as goal

pub returns-in_ok-with_cell-in-Ok-clause-families : goal.returns-in_ok-with_cell-in-Ok-clause-families
returns-in_ok-with_cell-in-Ok-clause-families c =
    let change = c.args.change in
    let applied_is = sym c.in-Ok.ensures in
    c.in_ok-with_cell-in-Ok.ensures.families
    ∙ families_with_changed c.args.tag change c.args.families.now c.in-Ok.cell (cell_applied change c.cell.result c.in-Ok.cell applied_is ∙ ap (cell_after change) c.cell.ensures)
