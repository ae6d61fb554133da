use Rattle.std.proofs.Common.{◌≡◌, ℕ, ◌++◌, ◌∷◌, [], take, rules, arith, ap, sym, subst}
use Rattle.shadow_frame.specs.declared.Size.{Size}
use Rattle.tree_revision.specs.declared.record.Op.TheVariants.{Stop}
use Rattle.tree_revision.specs.Records.{plain_op, plain_record}
use Rattle.tree_revision.specs.Stands.{StandsFor}
use Rattle.commit_core.specs.PlainPorts.{told_of}
use Rattle.commit_core.proofs.tests.commit.Goals as goal

pub try_offer-requires-clause-stands : goal.try_offer-requires-clause-stands
try_offer-requires-clause-stands g c =
    let seen = (told_of c.try_look.new.self).seen in
    let entry = c.expect-entry.result in
    let none_held : entry.held ≡ 0 = search rules in
    let stop : entry.op.value ≡ Stop = search rules in
    let held = subst (λ (count : ℕ). StandsFor (told_of c.args.port.now).first c.args.held.now (take count seen)) (sym none_held) c.requires.held in
    let next = c.in-Ok-prepare.ensures.next _ seen (plain_record entry) c.in-Ok.ensures.answer.stands (omega (arith, none_held)) held (ap plain_op stop) in
    subst (λ (first : Size). StandsFor first c.in-Ok-prepare.next (seen ++ plain_record entry ∷ [])) (sym c.in-Ok.ensures.lasts.first) next
