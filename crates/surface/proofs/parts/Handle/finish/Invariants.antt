use Rattle.std.proofs.Common.{◌≡◌}
use Rattle.std.specs.Prelude.{Some}
use Rattle.tree_revision.specs.Records.{PlainRecord}
use Rattle.commit_core.specs.Commit.{entry_under_way}
use Rattle.surface.specs.Committing.{IsCommitting}
use Rattle.surface.proofs.parts.Handle.finish.Given as goal

abbrev pub invariant-loop : goal.invariant-loop
invariant-loop g l =
    (goal.iterator-loop g).can_next l.iterator' × (goal.iterator-loop g).is_finite l.iterator'
    × ((entry : PlainRecord) → entry_under_way l.fn.commit ≡ Some entry → IsCommitting l.fn.self l.self entry l.commit)
