use Rattle.std.proofs.Common.{◌≡◌, ◌++◌, take, drop}
use Rattle.prop_table.specs.Table.{v2_rules, start_of}
use Rattle.prop_table.proofs.edit.widen.Given as goal

abbrev pub invariant-loop-row : goal.invariant-loop-row
invariant-loop-row l = l.wide ≡ take l.row l.props ++ drop l.row (start_of v2_rules)
