use Rattle.std.proofs.Common.{rules, sym, ap, ◌∙◌}
use Rattle.serde_json.specs.View.{view}
use Rattle.script_read.specs.Places.{at_item, in_step}
use Rattle.script_read.specs.Checks.{refusals_of}
use Rattle.script_read.proofs.Items.{after_more}
use Rattle.script_read.proofs.walk.in_steps.Goals as goal

pub loop-index-preserved : goal.loop-index-preserved
loop-index-preserved c =
    sym
    (after_more (λ before step. in_step (refusals_of c.args.check (view c.args.script.now)) step) c.args.steps.now c.loop-index.index c.index-steps-index.result
    c.in_ok-place.field-0 c.loop-index-test.true c.index-steps-index.is (c.in_ok-place.ensures ∙ ap (at_item c.loop-index.index) c.in_ok-in_step.ensures) (search rules))
    ∙ c.loop-index.invariant
