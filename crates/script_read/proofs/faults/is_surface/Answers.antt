use Rattle.std.proofs.Common.{◌≡◌, rules, tests, sym, ◌∙◌, codes}
use Rattle.std.specs.List.{list_any}
use Rattle.std.specs.Ordering.{int_eq}
use Rattle.serde_json.specs.Data.{Data}
use Rattle.std.proofs.lemmas.Iterator.{YieldsList-from_slice}
use Rattle.std.proofs.lemmas.Iterator.Search.{any_from_yields_List}
use Rattle.serde_json.specs.View.{view}
use Rattle.serde_json.specs.declared.value.Value.{Value}
use Rattle.script_read.specs.Members.{integer_at}
use Rattle.script_read.proofs.Lists.{any_mapped}
use Rattle.script_read.proofs.faults.is_surface.Goals as goal

pub returns : goal.returns
returns c =
    let found : c.any.result ≡ list_any (λ (surface : Value). int_eq (integer_at (codes "id") (view surface)) c.args.id) c.args.surfaces.now = any_from_yields_List (λ (surface : Value). int_eq (integer_at (codes "id") (view surface)) c.args.id) _ _ c.any.result c.any.ensures.ran (YieldsList-from_slice c.args.surfaces.now cc) (λ x b q k. search (rules, tests)) in
    found ∙ sym (any_mapped (λ (surface : Data). int_eq (integer_at (codes "id") surface) c.args.id) view c.args.surfaces.now)
