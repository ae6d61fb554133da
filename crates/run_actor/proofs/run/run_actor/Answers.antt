use Rattle.std.proofs.Common.{refl, sym, ◌∙◌}
use Rattle.run_actor.specs.declared.desks.Desk.{Desk}
use Rattle.run_actor.proofs.StepsLeft.{none_at}
use Rattle.run_actor.proofs.Ends.{begun_far, ended_far}
use Rattle.run_actor.proofs.DeskByDesk.{all_begun, all_ended, may_next, next_far, next_all}
use Rattle.run_actor.proofs.run.run_actor.Goals as goal

pub loop-init : goal.loop-init
loop-init g c = (
  tt,
  tt,
  refl,
  begun_far c.args.actor.now c.requires.begun,
  all_begun (λ (desk : Desk g.row.P.Denot). g.P.Port.told desk.port) (λ desk. desk.mount) c.args.desks.now.entries c.args.actor.now c.requires.begun,
)

pub returns-in_default-clause-run : goal.returns-in_default-clause-run
returns-in_default-clause-run g c =
    ended_far c.args.actor.now c.loop.actor c.loop.invariant.3 (none_at c.loop.actor.left (sym c.next-in-loop.ensures ∙ c.in_default.is))

pub returns-in_default-clause-surfaces : goal.returns-in_default-clause-surfaces
returns-in_default-clause-surfaces g c =
    all_ended (λ (desk : Desk g.row.P.Denot). g.P.Port.told desk.port) (λ desk. desk.mount) c.args.desks.now.entries c.args.actor.now
    c.loop.desks.entries c.loop.actor c.loop.invariant.2 c.loop.invariant.3 c.loop.invariant.4 (none_at c.loop.actor.left (sym c.next-in-loop.ensures ∙ c.in_default.is))

pub event_at_desk-requires-clause-desk : goal.event_at_desk-requires-clause-desk
event_at_desk-requires-clause-desk g c =
    may_next (λ (desk : Desk g.row.P.Denot). g.P.Port.told desk.port) (λ desk. desk.mount) c.args.desks.now.entries c.args.actor.now
    c.loop.desks.entries c.loop.actor c.loop.invariant.2 c.loop.invariant.3 c.loop.invariant.4 c.requires.desks c.in-Some-next.id
    (sym c.next-in-loop.ensures ∙ c.in-Some-next.is)

pub loop-preserved : goal.loop-preserved
loop-preserved g c =
    let at = sym c.next-in-loop.ensures ∙ c.in-Some-next.is in (
      tt,
      tt,
      c.in_ok-event_at_desk.ensures.keys ∙ c.loop.invariant.2,
      next_far (λ (desk : Desk g.row.P.Denot). g.P.Port.told desk.port) (λ desk. desk.mount) c.args.desks.now.entries c.args.actor.now
          c.loop.desks.entries c.loop.actor c.loop.invariant.2 c.loop.invariant.3 c.loop.invariant.4 c.requires.desks c.in-Some-next.id at
          c.event_at_desk.new.desks.entries c.event_at_desk.new.actor c.in_ok-event_at_desk.ensures.keys c.in_ok-event_at_desk.ensures.others c.in_ok-event_at_desk.ensures.acted,
      next_all (λ (desk : Desk g.row.P.Denot). g.P.Port.told desk.port) (λ desk. desk.mount) c.args.desks.now.entries c.args.actor.now
          c.loop.desks.entries c.loop.actor c.loop.invariant.2 c.loop.invariant.3 c.loop.invariant.4 c.requires.desks c.in-Some-next.id at
          c.event_at_desk.new.desks.entries c.event_at_desk.new.actor c.in_ok-event_at_desk.ensures.keys c.in_ok-event_at_desk.ensures.others c.in_ok-event_at_desk.ensures.acted,
    )
