use Rattle.std.proofs.Common.{◌≡◌}
use Rattle.std.specs.Prelude.{Some}
use Rattle.tree_revision.specs.Records.{PlainRecord}
use Rattle.commit_core.specs.Commit.{entry_under_way}
use Rattle.surface.specs.Committing.{IsAfterEvents}
use Rattle.surface.proofs.parts.Handle.go_on.Given as goal

abbrev pub invariant-loop-event : goal.invariant-loop-event
invariant-loop-event l = (entry : PlainRecord) → entry_under_way l.fn.commit ≡ Some entry → IsAfterEvents l.fn.self l.self entry l.commit l.event
