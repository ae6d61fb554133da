use Rattle.std.proofs.Common.{◌∙◌, rules, sym}
use Rattle.std.specs.Str.Parse.{ParsesUnsigned, ExplainsUnsignedError, HasUnsignedDigitsIfOk}
use Rattle.clap.specs.Matches.{found_of}
use Rattle.fabric_run.proofs.NamedCommands.{command_asked, none_asked, number_read}
use Rattle.fabric_run.proofs.words.command_found.Goals as goal

pub returns-in_err-word : goal.returns-in_err-word
returns-in_err-word c = sym (search rules) ∙ none_asked (found_of c.args.matches.now) c.get_str.result (search rules) c.get_str.ensures

pub returns : goal.returns
returns c =
    let read = number_read (found_of c.args.matches.now) _ (λ bs r. ParsesUnsigned 32 10 bs r × ExplainsUnsignedError 10 bs r × HasUnsignedDigitsIfOk bs r) c.get_one.result (λ t r g. g.0) c.requires
    c.get_one.ensures.none c.get_one.ensures.value in
    sym (search rules) ∙ command_asked (found_of c.args.matches.now) c.get_str.result c.get_one.result c.get_str.ensures read
