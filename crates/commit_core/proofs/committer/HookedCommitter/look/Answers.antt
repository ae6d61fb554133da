use Rattle.std.proofs.Common.{◌≡◌, ◌+◌, rules, refl, ap, ◌∙◌}
use Rattle.tree_revision.specs.Records.{plain_op, plain_record}
use Rattle.commit_core.specs.Commit.{fresh, commit_in}
use Rattle.commit_core.proofs.Steps.{clear_look, cancelled_look, look_in_vain, ready_with, same_held, same_tries}
use Rattle.commit_core.proofs.committer.HookedCommitter.look.Goals.{in-Some-32, in-None-32, in-Some-33, in-None-33}
use Rattle.commit_core.proofs.committer.HookedCommitter.look.Goals as goal

pub returns-in-Ok-prepare_wished-clause-event : goal.returns-in-Ok-prepare_wished-clause-event
returns-in-Ok-prepare_wished-clause-event g c =
    clear_look (g.H.Hook.wish c.args.hook.now) (g.P.Port.told c.args.port.now) (g.P.Port.told c.try_look.new.self) c.args.self.now c.match-front-4.self (plain_record c.args.entry)
    (plain_op c.args.entry.op.value) (plain_op c.in-Ok-prepare_wished.op.value) c.in-Ok.front c.self.inside.held c.in-Ok-prepare_wished.next (c.self.inside.tries + 1) _
    c.requires.ready c.in-Ok.ensures.lasts c.in-Ok.ensures.answer (same_held c.self.view_is) refl
    c.in-Ok-prepare_wished.ensures.wished c.in-Ok-prepare_wished.ensures.next (ap (λ n. n + 1) (same_tries c.self.view_is)) c.number-at.ensures
    ((elim c.match-front-4.branch [ in-Some-32 w ↦ w.self-is | in-None-32 w ↦ w.self-is ])
    ∙ ready_with c.self.inside.held (c.self.inside.tries + 1) c.ready_commit.ensures.written (ap (λ op. plain_op op.value) c.ready_commit.ensures.wished) c.ready_commit.ensures.next)

pub returns-in-Err-Cancel-clause-event : goal.returns-in-Err-Cancel-clause-event
returns-in-Err-Cancel-clause-event g c = (
  cancelled_look (g.H.Hook.wish c.args.hook.now) (g.P.Port.told c.args.port.now) (g.P.Port.told c.try_look.new.self) c.args.self.now c.args.self.now (plain_record c.args.entry)
      (plain_op c.args.entry.op.value) c.in-Ok.front c.self.inside.held (c.self.inside.tries + 1) _ c.in-Err-Cancel.cause
      c.requires.ready c.in-Ok.ensures.lasts c.in-Ok.ensures.answer (same_held c.self.view_is) refl
      (c.in-Err-Cancel.ensures.cancelled c.in-Err-Cancel.cause (search rules)) c.requires.ended (ap (λ n. n + 1) (same_tries c.self.view_is))
      c.number-at.ensures,
  refl,
)

pub returns-in-Err-Memory-clause-event : goal.returns-in-Err-Memory-clause-event
returns-in-Err-Memory-clause-event g c =
    look_in_vain (g.H.Hook.wish c.args.hook.now) (g.P.Port.told c.args.port.now) (g.P.Port.told c.try_look.new.self) c.args.self.now c.match-front-12.self (plain_record c.args.entry)
    c.in-Ok.front c.requires.ready c.in-Ok.ensures.lasts c.in-Ok.ensures.answer
    ((elim c.match-front-12.branch [ in-Some-33 w ↦ w.self-is | in-None-33 w ↦ w.self-is ])
    ∙ ap (commit_in (fresh (plain_record c.args.entry))) c.self.view_is)
