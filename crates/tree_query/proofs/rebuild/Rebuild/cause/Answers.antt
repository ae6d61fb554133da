use Rattle.std.proofs.Common.{sym, subst}
use Rattle.tree_revision.specs.Records.{plain_op}
use Rattle.tree_query.specs.Rebuilt.{IsCauseAt}
use Rattle.tree_query.proofs.Rebuilds.{cause_of_next}
use Rattle.tree_query.proofs.rebuild.Rebuild.cause.Goals as goal

pub returns : goal.returns
returns c =
    let rebuild = c.args.self.now in
    let op = plain_op c.args.op.now in
    subst (IsCauseAt rebuild op c.args.at c.args.held) (sym c.err.ensures.value)
    (cause_of_next rebuild op c.args.at c.args.held c.in_ok-next_after.field-0 c.in_ok-next_after.ensures)
