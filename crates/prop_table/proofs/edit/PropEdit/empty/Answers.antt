use Rattle.std.proofs.Common.{None}
use Rattle.prop_table.specs.Marks.{named_if, mark_of, number_of}
use Rattle.prop_table.proofs.Joined.{zipped-same, AreZipped-same}
use Rattle.prop_table.proofs.Slots.{named_back}
use Rattle.prop_table.proofs.edit.PropEdit.empty.Goals as goal

pub invariant_of-result : goal.invariant_of-result
invariant_of-result g c = AreZipped-same named_if mark_of number_of g.row.N None (named_back None)

pub returns : goal.returns
returns g c = zipped-same named_if mark_of number_of g.row.N None (named_back None)
