use Rattle.std.proofs.Common.{◌≡◌, rules, tests, sym, ◌∙◌, codes}
use Rattle.std.specs.Prelude.{bytes_eq}
use Rattle.std.specs.List.{list_any}
use Rattle.serde_json.specs.Data.{Data}
use Rattle.std.proofs.lemmas.Iterator.{YieldsList-from_slice}
use Rattle.std.proofs.lemmas.Iterator.Search.{any_from_yields_List}
use Rattle.serde_json.specs.View.{view}
use Rattle.serde_json.specs.declared.value.Value.{Value}
use Rattle.script_read.specs.Members.{text_at}
use Rattle.script_read.proofs.Lists.{any_mapped}
use Rattle.script_read.proofs.whole.is_named.Goals as goal

pub returns : goal.returns
returns c =
    let found : c.any.result ≡ list_any (λ (actor : Value). bytes_eq (text_at (codes "name") (view actor)) c.args.name.now) c.args.actors.now = any_from_yields_List (λ (actor : Value). bytes_eq (text_at (codes "name") (view actor)) c.args.name.now) _ _ c.any.result c.any.ensures.ran (YieldsList-from_slice c.args.actors.now cc) (λ x b q k. search (rules, tests)) in
    found ∙ sym (any_mapped (λ (actor : Data). bytes_eq (text_at (codes "name") actor) c.args.name.now) view c.args.actors.now)
