use Rattle.std.proofs.Common.{rules, Ok, inr, subst}
use Rattle.std.proofs.lemmas.Result.{err_from_is_err_and}
use Rattle.mount_coordinator.specs.Answers.{IsFinishAnswer}
use Rattle.mount_coordinator.proofs.Mounting.{still_base, transacted}
use Rattle.mount_coordinator.proofs.coordinator.Coordinator.pull.Goals as goal

pub returns-in_err-transaction-clause-answer : goal.returns-in_err-transaction-clause-answer
returns-in_err-transaction-clause-answer g c =
    let before = g.P.Port.told c.args.port.now in
    let after = g.P.Port.told c.try_look.new.self in
    let look = c.in-Ok.ensures.answer in
    let mounted = still_base before.first before.seen after.seen c.args.self.now.base c.in-Ok.ensures.lasts.seen c.requires in
    let refused = err_from_is_err_and c.from_residual.result c.from_residual.ensures.1 in
    rw refused.1 (inr (record { front = c.in-Ok.front; answered = look }), c.in_err-transaction.ensures before.first after.seen look.stands mounted)

pub returns-in-Some-clause-mounted : goal.returns-in-Some-clause-mounted
returns-in-Some-clause-mounted g c =
    let before = g.P.Port.told c.args.port.now in
    let after = g.P.Port.told c.try_look.new.self in
    let look = c.in-Ok.ensures.answer in
    let mounted = still_base before.first before.seen after.seen c.args.self.now.base c.in-Ok.ensures.lasts.seen c.requires in
    let answer = c.in_ok-transaction.ensures before.first after.seen look.stands mounted in
    transacted before.first after.seen c.args.self.now c.finish.new.self c.in-Some.transaction
    (subst (λ given. IsFinishAnswer before.first after.seen c.args.self.now c.finish.new.self (Ok given)) c.in-Some.is answer)

pub returns-in-Some-clause-answer : goal.returns-in-Some-clause-answer
returns-in-Some-clause-answer g c =
    let before = g.P.Port.told c.args.port.now in
    let after = g.P.Port.told c.try_look.new.self in
    let look = c.in-Ok.ensures.answer in
    let mounted = still_base before.first before.seen after.seen c.args.self.now.base c.in-Ok.ensures.lasts.seen c.requires in
    let answer = c.in_ok-transaction.ensures before.first after.seen look.stands mounted in
    (record { front = c.in-Ok.front; answered = look }, subst (λ given. IsFinishAnswer before.first after.seen c.args.self.now c.finish.new.self (Ok given)) c.in-Some.is answer)

pub returns-in-None-clause-answer : goal.returns-in-None-clause-answer
returns-in-None-clause-answer g c =
    let before = g.P.Port.told c.args.port.now in
    let after = g.P.Port.told c.try_look.new.self in
    let look = c.in-Ok.ensures.answer in
    let mounted = still_base before.first before.seen after.seen c.args.self.now.base c.in-Ok.ensures.lasts.seen c.requires in
    let answer = c.in_ok-transaction.ensures before.first after.seen look.stands mounted in
    (record { front = c.in-Ok.front; answered = look }, search rules, subst (λ given. IsFinishAnswer before.first after.seen c.args.self.now c.finish.new.self (Ok given)) c.in-None.is answer)
