use Rattle.std.proofs.Common.{◌++◌, codes, ap, ◌∙◌}
use Rattle.serde_json.specs.Written.{compact_text}
use Rattle.script_read.specs.Writing.{json_of}
use Rattle.fabric_run.specs.Commands.{IsMade}
use Rattle.fabric_run.proofs.Outcome.{ends_alone, text_leaves}
use Rattle.fabric_run.proofs.making.answer_make.Goals as goal

pub returns : goal.returns
returns g c =
    let holds : IsMade c.args.number (c.in-Ok-write_script.text.items ++ codes "\n") =
    ap (λ text. text ++ codes "\n") (c.in-Ok-write_script.ensures.text ∙ ap (λ script. compact_text (json_of script)) c.in-Ok.ensures.script) in
    ends_alone (IsMade c.args.number) _ _ c.write_text.result (text_leaves (IsMade c.args.number) _ _ _ c.write_text.result holds c.write_text.ensures)
