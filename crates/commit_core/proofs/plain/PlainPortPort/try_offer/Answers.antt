use Rattle.std.proofs.Common.{arith, ◌≡◌, ◌∙◌, length}
use Rattle.tree_revision.specs.Records.{plain_record}
use Rattle.commit_core.specs.PlainPorts.{records_of}
use Rattle.commit_core.proofs.PlainSteps.{offer_admitted, number_after}
use Rattle.commit_core.proofs.plain.PlainPortPort.try_offer.Goals as goal

pub returns-clause-answer : goal.returns-clause-answer
returns-clause-answer c =
    let port : _ = c.args.self.now in
    let all : port.pass.seen ≡ length (records_of port.spine) =
    omega (arith, c.if-self-newest.false, c.number-newest.ensures, port.spine.stands.newest.number, port.pass.seen_is_reached, port.floor_is_reached) in
    rw (c.add.ensures.records, c.add.ensures.first, c.add.ensures.room)
    (offer_admitted port.spine.first port.spine.room (records_of port.spine) port.pass.seen port.pass.floor port.pass.looks port.begun c.number-number.result
    (plain_record c.args.entry) all port.begun_is_reached c.requires.permit
    (number_after _ _ _ _ all (c.number-number.ensures ∙ c.requires.stands.newest.number)))
