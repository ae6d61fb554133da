use Rattle.tree_revision.proofs.Standing.{opening_stands, opened_limits}
use Rattle.tree_revision.proofs.revision.Revision.opening.Goals as goal

-- src/revision.rt:81:12
pub invariant_of-result : goal.invariant_of-result
invariant_of-result c = rw (c.empty.ensures, c.in_ok-empty.ensures, c.none.ensures) (opened_limits c.args.size c.requires)

-- src/revision.rt:76:5
pub returns-clause-stands : goal.returns-clause-stands
returns-clause-stands c = rw (c.empty.ensures, c.in_ok-empty.ensures, c.none.ensures) (opening_stands c.args.size)
