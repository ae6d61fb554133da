use Rattle.std.proofs.Common.{rules, arith}
use Rattle.commit_spine.proofs.tests.offer.Goals as goal

pub try_offer-requires-clause-stands : goal.try_offer-requires-clause-stands
try_offer-requires-clause-stands g c =
    c.in-Ok.ensures.next _ c.args.pass.now.kept.seen _ c.requires.front (omega arith) c.requires.held (search rules)
