use Rattle.std.proofs.Common.{None, is_some}
use Rattle.prop_table.specs.Slots.{number_if, number_or_zero}
use Rattle.prop_table.proofs.Joined.{zipped-same, AreZipped-same}
use Rattle.prop_table.proofs.Slots.{number_back}
use Rattle.prop_table.proofs.props.Props.absent.Goals as goal

pub invariant_of-result : goal.invariant_of-result
invariant_of-result g c = AreZipped-same number_if is_some number_or_zero g.row.N None (number_back None)

pub returns : goal.returns
returns g c = zipped-same number_if is_some number_or_zero g.row.N None (number_back None)
