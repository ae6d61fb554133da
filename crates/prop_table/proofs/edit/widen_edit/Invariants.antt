use Rattle.std.proofs.Common.{◌≡◌, ◌++◌, take, drop, replicate, None}
use Rattle.prop_table.proofs.edit.widen_edit.Given as goal

abbrev pub invariant-loop-row : goal.invariant-loop-row
invariant-loop-row l = l.wide ≡ take l.row l.edit ++ drop l.row (replicate 22 None)
