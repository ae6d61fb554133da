use Rattle.std.proofs.Common.{rules, ◌≡◌, ◌∙◌, ap, sym, subst}
use Rattle.std.specs.Prelude.{Some, nat_eq}
use Rattle.std.specs.Option.{option_copied_mut}
use Rattle.std.proofs.lemmas.Option.{same_Some}
use Rattle.indexmap.specs.IndexMap.{get}
use Rattle.run_actor.specs.Running.{HasActed}
use Rattle.run_actor.proofs.Acted.{acted_done, acted_busy}
use Rattle.run_actor.proofs.run.event_at_desk.Goals as goal

pub returns-in-Did-clause-acted : goal.returns-in-Did-clause-acted
returns-in-Did-clause-acted g c = λ was is was_at is_at.
    let was_is = same_Some c.in-Some.desk.now was (sym (ap option_copied_mut c.in-Some.is) ∙ c.get_mut.ensures.value ∙ was_at) in
    let written : get nat_eq (c.get_mut.follows.lender record { port = c.event.new.port; mount = c.event.new.mount }) c.args.id
    ≡ Some (record { port = c.event.new.port; mount = c.event.new.mount }) = search rules in
    let is_is = same_Some (record { port = c.event.new.port; mount = c.event.new.mount }) is (sym written ∙ is_at) in
    subst (λ was. HasActed c.args.id (g.P.Port.told was.port) (g.P.Port.told is.port) was.mount is.mount c.args.actor.now c.event.new.self) was_is
    (subst (λ is. HasActed c.args.id (g.P.Port.told c.in-Some.desk.now.port) (g.P.Port.told is.port) c.in-Some.desk.now.mount is.mount c.args.actor.now c.event.new.self) is_is
    (acted_done c.args.id (g.P.Port.told c.in-Some.desk.now.port) (g.P.Port.told c.event.new.port) c.in-Some.desk.now.mount c.event.new.mount c.args.actor.now c.event.new.self
    c.requires.step c.in-Did.ensures.lasts c.in-Did.ensures.order c.in-Did.ensures.elsewhere c.in-Did.ensures.event))

pub returns-in-Busy-clause-acted : goal.returns-in-Busy-clause-acted
returns-in-Busy-clause-acted g c = λ was is was_at is_at.
    let was_is = same_Some c.in-Some.desk.now was (sym (ap option_copied_mut c.in-Some.is) ∙ c.get_mut.ensures.value ∙ was_at) in
    let written : get nat_eq (c.get_mut.follows.lender record { port = c.event.new.port; mount = c.event.new.mount }) c.args.id
    ≡ Some (record { port = c.event.new.port; mount = c.event.new.mount }) = search rules in
    let is_is = same_Some (record { port = c.event.new.port; mount = c.event.new.mount }) is (sym written ∙ is_at) in
    subst (λ was. HasActed c.args.id (g.P.Port.told was.port) (g.P.Port.told is.port) was.mount is.mount c.args.actor.now c.event.new.self) was_is
    (subst (λ is. HasActed c.args.id (g.P.Port.told c.in-Some.desk.now.port) (g.P.Port.told is.port) c.in-Some.desk.now.mount is.mount c.args.actor.now c.event.new.self) is_is
    (acted_busy c.args.id (g.P.Port.told c.in-Some.desk.now.port) (g.P.Port.told c.event.new.port) c.in-Some.desk.now.mount c.event.new.mount c.args.actor.now c.event.new.self
    c.requires.step c.in-Busy.ensures.lasts c.in-Busy.ensures.order c.in-Busy.ensures.elsewhere c.in-Busy.ensures.event))
