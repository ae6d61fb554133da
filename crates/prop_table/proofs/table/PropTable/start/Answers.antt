use Rattle.std.proofs.Common.{◌≤◌, length, arith}
use Rattle.prop_table.proofs.Starts.{all_starts}
use Rattle.prop_table.proofs.table.PropTable.start.Goals as goal

pub returns : goal.returns
returns g c =
    let p : length c.loop-index.props ≤ c.loop-index.index = omega arith in
    let r : length c.args.self.now.rows.now ≤ c.loop-index.index = omega arith in
    all_starts c.args.self.now.rows.now c.loop-index.props c.loop-index.index p r c.loop-index.invariant.1
