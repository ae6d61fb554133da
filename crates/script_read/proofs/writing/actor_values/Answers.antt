use Rattle.std.proofs.Common.{All, rules, subst}
use Rattle.std.proofs.lemmas.List.Elements.{All-more}
use Rattle.script_read.specs.Plain.{plain_actor}
use Rattle.script_read.specs.Writing.{actor_json}
use Rattle.script_read.specs.Fits.{IsActFit}
use Rattle.script_read.proofs.ValueLists.{value_pushed, all_plain_values, all_fit}
use Rattle.script_read.proofs.writing.actor_values.Goals as goal

pub loop-actor-preserved : goal.loop-actor-preserved
loop-actor-preserved c = record {
  json = value_pushed (λ actor. actor_json (plain_actor actor)) c.args.actors.now c.loop-actor.actor-index c.actor-item.result c.loop-actor.values.items c.push.new.self.items c.in_ok-actor_value.field-0
      c.loop-actor-test.true c.actor-item.is c.in_ok-actor_value.ensures.json (search rules) c.loop-actor.invariant.json;
  fits = All-more (λ actor. All (λ step. IsActFit step.act) (plain_actor actor).steps) c.args.actors.now c.loop-actor.actor-index c.actor-item.result c.loop-actor-test.true c.loop-actor.invariant.fits
      (subst (λ actor. All (λ step. IsActFit step.act) (plain_actor actor).steps) c.actor-item.is c.in_ok-actor_value.ensures.fits);
}

pub returns : goal.returns
returns c = record {
  json = all_plain_values actor_json plain_actor c.args.actors.now c.loop-actor.actor-index c.loop-actor.values.items c.loop-actor-test.false c.loop-actor.invariant.json;
  fits = all_fit plain_actor (λ actor. All (λ step. IsActFit step.act) actor.steps) c.args.actors.now c.loop-actor.actor-index c.loop-actor-test.false c.loop-actor.invariant.fits;
}
