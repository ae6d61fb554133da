use Rattle.std.proofs.Common.{◌≡◌, rules, ap, ◌∙◌}
use Rattle.tree_revision.specs.Records.{plain_op, plain_record}
use Rattle.commit_core.specs.Commit.{fresh, with_op, commit_in}
use Rattle.commit_core.specs.Phases.{written_entry}
use Rattle.commit_core.proofs.Steps.{admitted_offer, late_offer, same_tries}
use Rattle.commit_core.proofs.committer.HookedCommitter.offer.Goals.{in-Some-22, in-None-22}
use Rattle.commit_core.proofs.committer.HookedCommitter.offer.Goals as goal

pub returns-in-Ok-clause-event : goal.returns-in-Ok-clause-event
returns-in-Ok-clause-event g c =
    admitted_offer (g.H.Hook.wish c.args._hook.now) (g.P.Port.told c.args.port.now) (g.P.Port.told c.try_offer.new.self) c.args.self.now c.args.self.now (written_entry c.args.commit)
    (plain_op c.args.commit.entry.op.value) c.args.commit.next c.args.commit.now
    c.in-Ok.number _ c.requires.ready c.in-Ok.ensures.lasts c.in-Ok.ensures.answer c.requires.shares c.requires.ended (same_tries c.self.view_is)

pub returns-in-Err-Behind-clause-event : goal.returns-in-Err-Behind-clause-event
returns-in-Err-Behind-clause-event g c =
    let back : c.in-Err-Behind.entry ≡ c.args.commit.entry = search rules in
    late_offer (g.H.Hook.wish c.args._hook.now) (g.P.Port.told c.args.port.now) (g.P.Port.told c.try_offer.new.self) c.args.self.now c.match-now-4.self (written_entry c.args.commit)
    (plain_op c.args.commit.entry.op.value) c.args.commit.next c.in-Err-Behind.found c.requires.ready c.in-Err-Behind.ensures.lasts (search rules) (search rules) (search rules) (search rules)
    ((elim c.match-now-4.branch [ in-Some-22 w ↦ w.self-is | in-None-22 w ↦ w.self-is ])
    ∙ ap (commit_in (fresh (with_op (plain_op c.args.commit.written.value) (plain_record c.in-Err-Behind.entry)))) c.self.view_is
    ∙ ap (λ entry. commit_in (fresh (with_op (plain_op c.args.commit.written.value) (plain_record entry))) c.args.self.now) back)
