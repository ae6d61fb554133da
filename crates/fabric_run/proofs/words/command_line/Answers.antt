use Rattle.std.proofs.Common.{◌≡◌, ◌∙◌, rules, ap, ap₂, codes, map, true, Some}
use Rattle.std.proofs.lemmas.Result.{IfOk-weaker}
use Rattle.clap.specs.Walk.{rule_of}
use Rattle.clap.specs.Simple.{app_of, app_of_fields, new_app, on_top, with_rule}
use Rattle.clap.specs.declared.builder.value_parser.ValueParser.TheVariants as vp
use Rattle.fabric_run.specs.Words.{command_rule, command_words, number_rule}
use Rattle.fabric_run.proofs.words.command_line.Goals as goal

pub returns : goal.returns
returns c =
    let names = c.as_slice.result in
    let are : map (λ s. s.now) names.now ≡ command_words = search rules in
    let given = c.value_parser.ensures.given in
    let parser : c.value_parser.result.value_parser ≡ Some (vp.Names names) = given.1 ∙ ap Some given.2 in
    let command_is : rule_of c.required-command.result ≡ command_rule names = search rules in
    let number_is : rule_of c.value_parser-number.result ≡ number_rule = search rules in
    let named : app_of c.no_binary_name.result ≡ on_top (λ s. record s { no_binary_name = true }) (app_of c.new-3.result) = ap app_of_fields c.no_binary_name.ensures in
    let bare : app_of c.disable_help_flag.result ≡ on_top (λ s. record s { disable_help_flag = true }) (app_of c.no_binary_name.result) = ap app_of_fields c.disable_help_flag.ensures in
    let program : app_of c.disable_help_flag.result ≡ on_top (λ s. record s { no_binary_name = true; disable_help_flag = true }) (new_app (codes "fabric")) =
    bare ∙ ap (on_top (λ s. record s { disable_help_flag = true })) (named ∙ ap (on_top (λ s. record s { no_binary_name = true })) c.new-3.ensures.app) in
    IfOk-weaker c.arg-2.result _ _ (λ line added. record {
      names = names;
      are = are;
      app = added.shape (search rules) ∙ ap₂ with_rule (c.in_ok-arg.ensures.shape (search rules) ∙ ap₂ with_rule program command_is) number_is;
    }) c.arg-2.ensures
