use Rattle.std.proofs.Common.{take, map}
use Rattle.tree_query.specs.Rebuilt.{IsRebuildOf}
use Rattle.tree_revision.specs.Records.{plain_record}
use Rattle.fabric_run.proofs.query.rebuilt.Given as goal

abbrev pub invariant-loop-entry : goal.invariant-loop-entry
invariant-loop-entry l = IsRebuildOf l.fn.first l.rebuild (take l.entry-index (map plain_record l.records))
