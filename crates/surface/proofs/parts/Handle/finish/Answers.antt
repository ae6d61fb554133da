use Rattle.std.proofs.Common.{subst}
use Rattle.std.specs.Prelude.{Option, Ok}
use Rattle.surface.specs.declared.handle.Committed.{Committed}
use Rattle.surface.specs.Committing.{IsCommittedOrOn}
use Rattle.surface.proofs.parts.Handle.finish.Goals as goal

pub returns-in-Some-ended-clause-goes_on : goal.returns-in-Some-ended-clause-goes_on
returns-in-Some-ended-clause-goes_on g c =
    let under = c.requires.under in
    let ended = c.in-Ok.ensures c.args.self.now under.0 (c.loop.invariant.2 under.0 under.1.entry_is) in
    (subst (λ (o : Option Committed). IsCommittedOrOn c.args.self.now c.event.new.self under.0 c.event.new.commit (Ok o)) c.in-Some-ended.is ended).0

pub loop-preserved : goal.loop-preserved
loop-preserved g c = (
  tt,
  tt,
  λ entry is. subst (λ (o : Option Committed). IsCommittedOrOn c.args.self.now c.event.new.self entry c.event.new.commit (Ok o)) c.in_default-ended.is
      (c.in-Ok.ensures c.args.self.now entry (c.loop.invariant.2 entry is)),
)
