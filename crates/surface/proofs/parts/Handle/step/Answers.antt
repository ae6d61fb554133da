use Rattle.std.proofs.Common.{refl, sym, subst}
use Rattle.tree_revision.specs.Ports.{Lasts}
use Rattle.tree_revision.specs.Wishes.{as_written}
use Rattle.commit_spine.specs.SpinePasses.{PassValue}
use Rattle.commit_spine.specs.SpinePorts.{spine_told}
use Rattle.commit_core.specs.Events.{IsEnd}
use Rattle.surface.proofs.Committing.{after_clear_look, after_late_offer, after_busy_event, after_vain_look, after_end}
use Rattle.surface.proofs.parts.Handle.step.Goals as goal

pub returns-in-Looked : goal.returns-in-Looked
returns-in-Looked c = λ start entry so_far.
    after_clear_look start c.args.self.now _ entry c.args.commit.now c.turn.new.self c.in-Looked.ensures.lasts so_far _ record { held = refl; actor = refl; call = refl } c.in-Looked.ensures.event

pub returns-in-Again : goal.returns-in-Again
returns-in-Again c = λ start entry so_far.
    after_late_offer start c.args.self.now _ entry c.args.commit.now c.turn.new.self c.in-Again.ensures.lasts so_far _ record { held = refl; actor = refl; call = refl } c.in-Again.ensures.event

pub returns-in-Busy : goal.returns-in-Busy
returns-in-Busy c = λ start entry so_far.
    after_busy_event start c.args.self.now _ entry c.args.commit.now c.turn.new.self c.in-Busy.ensures.lasts so_far record { held = refl; actor = refl; call = refl } c.in-Busy.ensures.event

pub returns-in-Memory : goal.returns-in-Memory
returns-in-Memory c = λ start entry so_far.
    after_vain_look start c.args.self.now _ entry c.args.commit.now c.turn.new.self c.in-Memory.ensures.lasts so_far record { held = refl; actor = refl; call = refl } c.in-Memory.ensures.event

pub returns-in-Done : goal.returns-in-Done
returns-in-Done c = λ start entry so_far.
    let same = sym c.end_call.ensures.pass in
    after_end start c.args.self.now c.end_call.new.self entry c.args.commit.now c.turn.new.self
    (subst (λ (p : PassValue). Lasts (spine_told c.args.self.now.surface.pass) (spine_told p)) same c.in-Done.ensures.lasts)
    so_far c.in-Done.answer c.in-Done.now c.ended_by.result c.ended_by.ensures c.end_call.ensures.held
    record { actor = c.end_call.ensures.call.actor; call = c.end_call.ensures.call.call }
    (subst (λ (p : PassValue). IsEnd as_written (spine_told c.args.self.now.surface.pass) (spine_told p) c.args.commit.now c.turn.new.self c.in-Done.answer c.in-Done.now) same c.in-Done.ensures.event)
