use Rattle.std.proofs.Common.{◌≡◌, rules, tests, sym, ◌∙◌}
use Rattle.std.specs.Prelude.{not, position}
use Rattle.std.proofs.lemmas.Iterator.{YieldsList-from_slice}
use Rattle.std.proofs.lemmas.Iterator.Search.{position_from_yields_List}
use Rattle.serde_json.specs.View.{view}
use Rattle.serde_json.specs.declared.value.Value.{Value}
use Rattle.script_read.specs.Faults.{is_turn}
use Rattle.script_read.proofs.Lists.{position_mapped}
use Rattle.script_read.proofs.whole.first_wrong.Goals as goal

pub returns-clause-value : goal.returns-clause-value
returns-clause-value c =
    let found : c.position.result ≡ position (λ (turn : Value). not (is_turn (view c.args.script.now) (view turn))) c.args.turns.now
    = position_from_yields_List (λ (turn : Value). not (is_turn (view c.args.script.now) (view turn))) _ _ c.position.result c.position.ensures.ran
    (YieldsList-from_slice c.args.turns.now cc) (λ x b q k. search (rules, tests))
    in
    found ∙ sym (position_mapped (λ turn. not (is_turn (view c.args.script.now) turn)) view c.args.turns.now)
