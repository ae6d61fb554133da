use Rattle.std.proofs.Common.{◌≡◌, rules, tests, sym, ◌∙◌}
use Rattle.std.specs.List.{list_any}
use Rattle.std.proofs.lemmas.Iterator.{YieldsList-from_slice}
use Rattle.std.proofs.lemmas.Iterator.Search.{any_from_yields_List}
use Rattle.serde_json.specs.View.{view}
use Rattle.serde_json.specs.declared.value.Value.{Value}
use Rattle.script_read.specs.Faults.{is_mount_on}
use Rattle.script_read.proofs.Lists.{any_mapped}
use Rattle.script_read.proofs.whole.is_mounted_by.Goals as goal

pub returns : goal.returns
returns c =
    let found : c.any.result ≡ list_any (λ (step : Value). is_mount_on (view c.args.surface.now) (view step)) c.args.steps.now = any_from_yields_List (λ (step : Value). is_mount_on (view c.args.surface.now) (view step)) _ _ c.any.result c.any.ensures.ran (YieldsList-from_slice c.args.steps.now cc) (λ x b q k. search (rules, tests)) in
    found ∙ sym (any_mapped (is_mount_on (view c.args.surface.now)) view c.args.steps.now)
