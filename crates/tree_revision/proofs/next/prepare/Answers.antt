use Rattle.std.proofs.Common.{◌≡◌, ◌∷◌, [], ◌++◌, sym, ap, subst, ◌∙◌}
use Rattle.std.specs.Prelude.{unwrap_or}
use Rattle.std.specs.Option.{option_map}
use Rattle.std.proofs.lemmas.Result.{err_from_is_err_and}
use Rattle.tree_revision.specs.InRange.{IsOpInRange}
use Rattle.tree_revision.specs.Prepared.{AreNextStamps, cause_in, content_next, mountable_next}
use Rattle.tree_revision.specs.Records.{plain_op}
use Rattle.tree_revision.specs.Settled.{SettledRevision, KeptRevision}
use Rattle.tree_revision.specs.Stands.{StandsFor}
use Rattle.tree_revision.specs.Steps.{IsFor}
use Rattle.tree_revision.proofs.Refused.{cause_known}
use Rattle.tree_revision.proofs.Standing.{causes_agree, kept_next, next_stands}
use Rattle.tree_revision.proofs.next.prepare.Goals as goal

pub returns-in_err-content-clause-cancelled : goal.returns-in_err-content-clause-cancelled
returns-in_err-content-clause-cancelled c =
    let op = plain_op c.args.op.now in
    let front = c.args.front.now in
    let held = c.args.held.now in
    let refusal = c.in_err-content.field-0.0 in
    let seen : cause_in op c.front.inside.content c.held.inside.content ≡ cause_in op front.newest held.newest = λ i. cause_in op (c.front.view_is i).newest (c.held.view_is i).newest in
    let why = subst (λ why. IsFor why refusal) seen c.in_err-content.ensures.cancelled in
    let p = err_from_is_err_and c.from_residual.result c.from_residual.ensures.1 in
    rw (p.1, p.2) (λ cause is first entries number stands held_stands.
    sym (causes_agree first front held entries number op stands held_stands) ∙ cause_known (cause_in op front.newest held.newest) refusal cause why is)

pub returns-clause-next : goal.returns-clause-next
returns-clause-next c = λ first entries entry front_stands within held_stands op_is.
    let op = plain_op c.args.op.now in
    let front = c.args.front.now in
    let held = c.args.held.now in
    let content = c.in_ok-content.content in
    let seen : cause_in op c.front.inside.content c.held.inside.content ≡ cause_in op front.newest held.newest = λ i. cause_in op (c.front.view_is i).newest (c.held.view_is i).newest in
    let uncancelled = ap (λ o. cause_in o front.newest held.newest) op_is ∙ sym seen ∙ c.in_ok-content.ensures.uncancelled in
    let stamps = content.stamps in
    let newest : content ≡ content_next op front.newest held.newest stamps = c.in_ok-content.ensures.next ∙ (λ i. content_next op (c.front.view_is i).newest (c.held.view_is i).newest stamps) in
    let are : AreNextStamps front.newest (content_next op front.newest held.newest stamps) =
    subst (λ (t : SettledRevision × SettledRevision). AreNextStamps t.0 t.1) (λ i. ((c.front.view_is i).newest, newest i)) c.in_ok-content.ensures.stamps in
    let mountable = c.in_ok-still.ensures.mountable content ∙ ap (mountable_next op front) newest in
    let next : KeptRevision = record { newest = content; mountable = unwrap_or (option_map (λ still. still.value) c.in_ok-still.still) content } in
    let value : next ≡ kept_next op front held stamps = λ i. record { newest = newest i; mountable = mountable i } in
    subst (λ next. StandsFor first next (entries ++ entry ∷ [])) (ap (λ o. kept_next o front held stamps) op_is ∙ sym value)
    (next_stands first front held stamps entries entry (subst IsOpInRange (sym op_is) c.requires.op) front_stands within held_stands uncancelled
    (subst (λ o. AreNextStamps front.newest (content_next o front.newest held.newest stamps)) (sym op_is) are))
