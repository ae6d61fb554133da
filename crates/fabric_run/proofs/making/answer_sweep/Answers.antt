use Rattle.std.proofs.Common.{ap, subst, ◌∙◌}
use Rattle.script_read.specs.Plain.{plain_script}
use Rattle.run_report.specs.Journal.{plain_journal}
use Rattle.run_report.specs.Machine.{journal_of_turns}
use Rattle.run_report.specs.Legal.{IsLegal}
use Rattle.run_report.specs.Summary.{summary_text}
use Rattle.fabric_run.specs.Commands.{IsSweep}
use Rattle.fabric_run.proofs.Outcome.{ends_alone, text_leaves}
use Rattle.fabric_run.proofs.making.answer_sweep.Goals as goal

pub returns : goal.returns
returns g c =
    let made = c.in-Ok.ensures.script in
    let holds : IsSweep c.args.number (summary_text c.args.number (plain_journal c.in-Ok-run_turns.journal)) =
    record {
      legal = subst (λ script. IsLegal script (journal_of_turns script)) made (c.journals_of_turns_are_legal.ensures (plain_script c.in-Ok.script) c.in-Ok.ensures.writable.sound);
      tells = ap (summary_text c.args.number) (c.in-Ok-run_turns.ensures.journal ∙ ap journal_of_turns made);
    } in
    ends_alone (IsSweep c.args.number) _ _ c.write_text.result (text_leaves (IsSweep c.args.number) _ _ _ c.write_text.result holds c.write_text.ensures)
