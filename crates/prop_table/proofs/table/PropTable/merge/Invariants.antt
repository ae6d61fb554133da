use Rattle.std.proofs.Common.{◌≡◌, take}
use Rattle.prop_table.specs.Edits.{merged}
use Rattle.prop_table.proofs.table.PropTable.merge.Given as goal

abbrev pub invariant-loop-row : goal.invariant-loop-row
invariant-loop-row g l = l.after ≡ merged l.props (take l.row l.edit)
