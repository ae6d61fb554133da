use Rattle.std.proofs.Common.{◌<◌, Some, ap, length, subst, arith}
use Rattle.tree_revision.specs.Records.{plain_op}
use Rattle.tree_query.specs.LedTo.{LeadsTo}
use Rattle.tree_query.specs.Rebuilt.{IsCauseAt}
use Rattle.tree_query.proofs.Rebuilds.{cancelled_at, leads_to}
use Rattle.tree_query.proofs.rebuild.Rebuild.next_after.Goals as goal

pub returns-in-Ok : goal.returns-in-Ok
returns-in-Ok c =
    let rebuild = c.self.inside.revisions.items in
    let op = plain_op c.args.op.now in
    let within : c.args.at < length rebuild = omega (arith, ap length c.self.view_is, c.requires.at, c.self.invariant.stands.count) in
    subst (λ seen. LeadsTo seen op c.args.at c.args.held c.in-Ok.next) c.self.view_is
    (leads_to rebuild op c.args.at c.args.held c.index-front.result.now c.index-held.result.now c.requires.held within c.index-front.ensures c.index-held.ensures
    c.in-Ok.next c.in-Ok.ensures.next)

pub returns-in-Err-Cancel : goal.returns-in-Err-Cancel
returns-in-Err-Cancel c =
    let rebuild = c.self.inside.revisions.items in
    let op = plain_op c.args.op.now in
    let cause = c.in-Err-Cancel.cause in
    let within : c.args.at < length rebuild = omega (arith, ap length c.self.view_is, c.requires.at, c.self.invariant.stands.count) in
    subst (λ seen. IsCauseAt seen op c.args.at c.args.held (Some cause)) c.self.view_is
    (cancelled_at rebuild op c.args.at c.args.held c.index-front.result.now c.index-held.result.now c.requires.held within c.index-front.ensures c.index-held.ensures
    c.in-Err-Cancel.field-0 cause c.in-Err-Cancel.field-0-is c.in-Err-Cancel.ensures.cancelled)
