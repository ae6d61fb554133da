use Rattle.std.proofs.Common.{rules, IfErr}
use Rattle.tree_revision.specs.Records.{plain_op}
use Rattle.tree_revision.specs.OneMore.{IsCancelledFor}
use Rattle.commit_core.proofs.Steps.{cancelled_as_wished}
use Rattle.commit_core.proofs.committer.prepare_wished.Goals as goal

pub returns-in_err-next-clause-cancelled : goal.returns-in_err-next-clause-cancelled
returns-in_err-next-clause-cancelled g c =
    let cancelled : IfErr c.from_residual-in_err-next.result (IsCancelledFor (plain_op c.in_ok-wished.wished.value) c.args.front.now c.args.held.now) = search rules in
    cancelled_as_wished (g.H.Hook.wish c.args.hook.now) c.args.front.now c.args.held.now (plain_op c.args.op.now.value) (plain_op c.in_ok-wished.wished.value)
    c.from_residual-in_err-next.result c.in_ok-wished.ensures cancelled
