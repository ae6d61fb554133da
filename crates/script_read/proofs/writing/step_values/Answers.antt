use Rattle.std.proofs.Common.{rules, subst}
use Rattle.std.proofs.lemmas.List.Elements.{All-more}
use Rattle.script_read.specs.Plain.{plain_step}
use Rattle.script_read.specs.Writing.{step_json}
use Rattle.script_read.specs.Fits.{IsActFit}
use Rattle.script_read.proofs.ValueLists.{value_pushed, all_plain_values, all_fit}
use Rattle.script_read.proofs.writing.step_values.Goals as goal

pub loop-step-preserved : goal.loop-step-preserved
loop-step-preserved c = record {
  json = value_pushed (λ step. step_json (plain_step step)) c.args.steps.now c.loop-step.step-index c.step-item.result c.loop-step.values.items c.push.new.self.items c.in_ok-step_value.field-0
      c.loop-step-test.true c.step-item.is c.in_ok-step_value.ensures.json (search rules) c.loop-step.invariant.json;
  fits = All-more (λ step. IsActFit (plain_step step).act) c.args.steps.now c.loop-step.step-index c.step-item.result c.loop-step-test.true c.loop-step.invariant.fits
      (subst (λ step. IsActFit (plain_step step).act) c.step-item.is c.in_ok-step_value.ensures.fits);
}

pub returns : goal.returns
returns c = record {
  json = all_plain_values step_json plain_step c.args.steps.now c.loop-step.step-index c.loop-step.values.items c.loop-step-test.false c.loop-step.invariant.json;
  fits = all_fit plain_step (λ step. IsActFit step.act) c.args.steps.now c.loop-step.step-index c.loop-step-test.false c.loop-step.invariant.fits;
}
