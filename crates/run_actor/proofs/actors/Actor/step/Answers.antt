use Rattle.std.proofs.Common.{◌≡◌, ◌∙◌, ap, length, rules}
use Rattle.std.specs.Prelude.{option_copied, option_map, slice_get}
use Rattle.script_read.specs.Plain.{plain_step}
use Rattle.run_actor.specs.Actors.{RunningActor}
use Rattle.run_actor.proofs.Starts.{left_at, act_at}
use Rattle.run_actor.proofs.actors.Actor.step.Goals as goal

pub returns-clause-step : goal.returns-clause-step
returns-clause-step c =
    let count : c.len.result ≡ length c.self.inside.answers.items = search rules in
    ap (option_map plain_step) (c.at.ensures ∙ ap (slice_get c.self.inside.steps.now) count)
    ∙ left_at c.self.inside.steps.now (length c.self.inside.answers.items) ∙ ap (λ (a : RunningActor). slice_get a.left 0) c.self.view_is

pub returns-clause-in_range : goal.returns-clause-in_range
returns-clause-in_range c = act_at c.self.inside.steps.now c.len.result (option_copied c.at.result) c.at.ensures c.self.invariant.5
