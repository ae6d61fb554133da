use Rattle.std.proofs.Common.{◌≡◌, length, take, map}
use Rattle.prop_table.proofs.table.PropTable.start.Given as goal

abbrev pub invariant-loop-index : goal.invariant-loop-index
invariant-loop-index g l = (length l.props ≡ g.row.N) × (take l.index l.props ≡ map (λ row. row.start) (take l.index l.self.rows.now))
